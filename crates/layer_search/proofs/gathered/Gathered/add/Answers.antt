use Rattle.layer_search.proofs.gathered.Gathered.add.Goals as goal

pub returns-in_ok-add_devices-in-Ok : goal.returns-in_ok-add_devices-in-Ok
returns-in_ok-add_devices-in-Ok c = λ met notes h. rw c.in-Ok.is (c.in_ok-add_devices-in-Ok.ensures _ _ (c.in_ok-add_entries-in-Ok.ensures met notes h))
