use Rattle.std.proofs.Common.{ap, true}
use Rattle.command_tables.specs.Handles.{Handles}
use Rattle.command_tables.proofs.Cut.{place_seen, cut_set}
use Rattle.command_tables.proofs.args.HandleArgs.mark_unborn.Goals as goal

pub place_of-at-requires-clause-param : goal.place_of-at-requires-clause-param
place_of-at-requires-clause-param g c =
    let at = place_seen _ _ _ _ _ _ _ c.self.invariant (ap (λ (h : Handles). h.lists) c.self.view_is) c.requires in
    rw c.deref.ensures.value at.param

pub place_of-at-requires-clause-place : goal.place_of-at-requires-clause-place
place_of-at-requires-clause-place g c =
    let at = place_seen _ _ _ _ _ _ _ c.self.invariant (ap (λ (h : Handles). h.lists) c.self.view_is) c.requires in
    rw c.deref.ensures.value at.place

pub returns-clause-marks : goal.returns-clause-marks
returns-clause-marks g c =
    let at = place_seen _ _ _ _ _ _ _ c.self.invariant (ap (λ (h : Handles). h.lists) c.self.view_is) c.requires in
    let marks = ap (λ (h : Handles). h.marks) c.self.view_is in
    rw (c.place_of-at.ensures.value, c.deref.ensures.value, ← marks) (cut_set c.self.inside.lengths.items c.self.inside.unborn.items c.args.p c.args.k true at.param at.place)
