use Rattle.std.proofs.Common.{ap}
use Rattle.command_tables.specs.Handles.{Handles}
use Rattle.command_tables.proofs.Cut.{place_seen, cut_set}
use Rattle.command_tables.proofs.args.HandleArgs.set.Goals as goal

pub place_of-at-requires-clause-param : goal.place_of-at-requires-clause-param
place_of-at-requires-clause-param g c =
    let at = place_seen _ _ _ _ _ _ _ c.self.invariant (ap (λ (h : Handles). h.lists) c.self.view_is) c.requires in
    rw c.deref.ensures.value at.param

pub place_of-at-requires-clause-place : goal.place_of-at-requires-clause-place
place_of-at-requires-clause-place g c =
    let at = place_seen _ _ _ _ _ _ _ c.self.invariant (ap (λ (h : Handles). h.lists) c.self.view_is) c.requires in
    rw c.deref.ensures.value at.place

pub returns-clause-lists : goal.returns-clause-lists
returns-clause-lists g c =
    let seen = ap (λ (h : Handles). h.lists) c.self.view_is in
    let at = place_seen _ _ _ _ _ _ _ c.self.invariant seen c.requires in
    rw (c.place_of-at.ensures.value, c.deref.ensures.value, ← seen) (cut_set c.self.inside.lengths.items c.self.inside.handles.items c.args.p c.args.k c.args.value at.param at.place)
