use Rattle.std.proofs.Common.{◌≡◌, ◌+◌, ◌<◌, ap, arith, false, get_or, length, sum, take, ◌∙◌}
use Rattle.std.proofs.lemmas.List.{get_or_read}
use Rattle.command_tables.specs.Handles.{Handles}
use Rattle.command_tables.proofs.Cut.{place_seen, at_place}
use Rattle.command_tables.proofs.args.HandleArgs.unborn.Goals as goal

pub place_of-at-requires-clause-param : goal.place_of-at-requires-clause-param
place_of-at-requires-clause-param g c =
    let at = place_seen _ _ _ _ _ _ _ c.self.invariant (ap (λ (h : Handles). h.lists) c.self.view_is) c.requires in
    rw c.deref.ensures.value at.param

pub place_of-at-requires-clause-place : goal.place_of-at-requires-clause-place
place_of-at-requires-clause-place g c =
    let at = place_seen _ _ _ _ _ _ _ c.self.invariant (ap (λ (h : Handles). h.lists) c.self.view_is) c.requires in
    rw c.deref.ensures.value at.place

pub returns : goal.returns
returns g c =
    let at = place_seen _ _ _ _ _ _ _ c.self.invariant (ap (λ (h : Handles). h.lists) c.self.view_is) c.requires in
    let marks = ap (λ (h : Handles). h.marks) c.self.view_is in
    let value : c.place_of-at.result ≡ sum (take c.args.p c.self.inside.lengths.items) + c.args.k = c.place_of-at.ensures.value ∙ ap (λ xs. sum (take c.args.p xs) + c.args.k) c.deref.ensures.value in
    let within : c.place_of-at.result < length c.self.inside.unborn.items = omega (arith, c.place_of-at.ensures.within, ap (λ xs. sum xs) c.deref.ensures.value, c.self.invariant.marked) in
    rw (← marks, at_place c.self.inside.lengths.items c.self.inside.unborn.items c.args.p c.args.k false at) (get_or_read c.self.inside.unborn.items c.place_of-at.result c.index.result.now within c.index.ensures false ∙ ap (λ n. get_or c.self.inside.unborn.items n false) value)
