use Rattle.std.proofs.Common.{◌≡◌, ◌∙◌, ◌++◌, ◌∷◌, [], ◌%◌, ◌/◌, List, length, ap, arith}
use Rattle.std.specs.HashMap.{get}
use Rattle.command_tables.specs.Tests.{same_type}
use Rattle.object_model.specs.declared.Object.{Object}
use Rattle.object_model.specs.Objects.{same}
use Rattle.session_tables.specs.declared.object_places.Far.{Far}
use Rattle.session_tables.specs.FiledRows.{filed_cell}
use Rattle.session_tables.specs.Filing.{far_value}
use Rattle.session_tables.proofs.FilingLemmas.{far_added, put_far}
use Rattle.session_tables.proofs.object_places.ObjectPlaces.put_far.Goals as goal

pub returns-clause-ok : goal.returns-clause-ok
unfolding same_type
returns-clause-ok g c = λ q.
    let m = c.args.self.now in
    let o = c.args.object in
    let e : Far g.row.V.Denot = record { object = o; value = c.args.value } in
    let more_is : c.push.new.self.items ≡ m.far.items ++ e ∷ [] = (rw c.unwrap.ensures at c.push.ensures.items) ∙ ap (λ (xs : List (Far g.row.V.Denot)). xs ++ e ∷ []) c.in_ok-reserve.ensures.items in
    let last : c.len-at.result ≡ length m.far.items = omega (arith, c.len-at.ensures) in
    put_far (λ (x : Object). filed_cell m.empty m.rows.items (x.number % 2048) (x.number / 2048)) o c.args.value (far_value m.far.items q (get same m.others q)) (far_value c.push.new.self.items q (get same c.insert.new.self q)) q c.requires
    (far_added m.far.items c.push.new.self.items o c.args.value c.len-at.result (get same m.others q) (get same c.insert.new.self q) q more_is last (c.in_ok-insert.ensures.updates.0 q))
