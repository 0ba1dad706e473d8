use Rattle.std.proofs.Common.{◌≡◌, ◌<◌, ◌++◌, ◌∷◌, [], ap, arith, length, replicate, false, refl, ◌∙◌}
use Rattle.std.proofs.lemmas.List.{length-replicate}
use Rattle.command_tables.specs.Handles.{Handles}
use Rattle.command_tables.proofs.Cut.{counts_seen, cut_append, filled_up, whole_append}
use Rattle.command_tables.proofs.args.HandleArgs.push_param.Goals as goal

pub returns-in_err-reserve-clause-succeeds : goal.returns-in_err-reserve-clause-succeeds
returns-in_err-reserve-clause-succeeds g c room =
    let counts = counts_seen _ _ _ _ _ c.self.invariant (ap (λ (h : Handles). h.lists) c.self.view_is) in
    absurd (omega (arith, counts.params, room.slots, ap (λ (h : Handles). h.slots) c.self.view_is, c.in_err-reserve.ensures.full, c.self.inside.lengths.ok.0))

pub returns-in_err-reserve-2-clause-succeeds : goal.returns-in_err-reserve-2-clause-succeeds
returns-in_err-reserve-2-clause-succeeds g c room =
    let counts = counts_seen _ _ _ _ _ c.self.invariant (ap (λ (h : Handles). h.lists) c.self.view_is) in
    absurd (omega (arith, counts.handles, room.room, ap (λ (h : Handles). h.room) c.self.view_is, c.in_err-reserve-2.ensures.full, c.self.inside.handles.ok.0))

pub returns-in_err-reserve-3-clause-succeeds : goal.returns-in_err-reserve-3-clause-succeeds
returns-in_err-reserve-3-clause-succeeds g c room =
    let counts = counts_seen _ _ _ _ _ c.self.invariant (ap (λ (h : Handles). h.lists) c.self.view_is) in
    absurd (omega (arith, counts.handles, room.room, ap (λ (h : Handles). h.room) c.self.view_is, c.in_err-reserve-3.ensures.full, c.self.inside.unborn.ok.0, c.self.invariant.all, c.self.invariant.marked))

pub invariant_of-self-2 : goal.invariant_of-self-2
invariant_of-self-2 g c =
    let seen = ap (λ (h : Handles). h.lists) c.self.view_is in
    let counts = counts_seen _ _ _ _ _ c.self.invariant seen in
    let below : length c.self.inside.lengths.items < g.row.P = omega (arith, counts.params, c.requires) in
    let lengths : c.push.new.self.items ≡ c.self.inside.lengths.items ++ length c.args.handles.now ∷ [] = c.in_ok-push.ensures.items ∙ ap (λ ns. ns ++ length c.args.handles.now ∷ []) c.in_ok-reserve.ensures.items in
    let handles : c.extend_from_slice.new.self.items ≡ c.self.inside.handles.items ++ c.args.handles.now = c.in_ok-extend_from_slice.ensures.items ∙ ap (λ xs. xs ++ c.args.handles.now) c.in_ok-reserve-2.ensures.items in
    let marks : c.resize.new.self.items ≡ c.self.inside.unborn.items ++ replicate (length c.args.handles.now) false = filled_up c.self.inside.unborn.items c.reserve-3.new.self.items c.resize.new.self.items false c.len.result c.reserve-3.new.self.len (length c.args.handles.now) c.in_ok-resize.ensures.items c.in_ok-reserve-3.ensures.items (omega (arith, c.in_ok-reserve-3.ensures.len, c.self.inside.unborn.ok.0)) (omega (arith, c.len.ensures, c.in_ok-extend_from_slice.ensures.len, c.in_ok-reserve-2.ensures.len, c.self.inside.handles.ok.0, c.self.invariant.all, c.self.invariant.marked)) in
    rw (lengths, handles, marks) (whole_append g.row.P _ _ _ _ _ (length c.args.handles.now) c.self.invariant below refl (length-replicate (length c.args.handles.now) false))

pub returns-clause-lists : goal.returns-clause-lists
returns-clause-lists g c =
    let seen = ap (λ (h : Handles). h.lists) c.self.view_is in
    let lengths : c.push.new.self.items ≡ c.self.inside.lengths.items ++ length c.args.handles.now ∷ [] = c.in_ok-push.ensures.items ∙ ap (λ ns. ns ++ length c.args.handles.now ∷ []) c.in_ok-reserve.ensures.items in
    let handles : c.extend_from_slice.new.self.items ≡ c.self.inside.handles.items ++ c.args.handles.now = c.in_ok-extend_from_slice.ensures.items ∙ ap (λ xs. xs ++ c.args.handles.now) c.in_ok-reserve-2.ensures.items in
    rw (lengths, handles, ← seen) (cut_append c.self.inside.lengths.items c.self.inside.handles.items c.args.handles.now (length c.args.handles.now) c.self.invariant.all refl)

pub returns-clause-marks : goal.returns-clause-marks
returns-clause-marks g c =
    let seen = ap (λ (h : Handles). h.marks) c.self.view_is in
    let lengths : c.push.new.self.items ≡ c.self.inside.lengths.items ++ length c.args.handles.now ∷ [] = c.in_ok-push.ensures.items ∙ ap (λ ns. ns ++ length c.args.handles.now ∷ []) c.in_ok-reserve.ensures.items in
    let marks : c.resize.new.self.items ≡ c.self.inside.unborn.items ++ replicate (length c.args.handles.now) false = filled_up c.self.inside.unborn.items c.reserve-3.new.self.items c.resize.new.self.items false c.len.result c.reserve-3.new.self.len (length c.args.handles.now) c.in_ok-resize.ensures.items c.in_ok-reserve-3.ensures.items (omega (arith, c.in_ok-reserve-3.ensures.len, c.self.inside.unborn.ok.0)) (omega (arith, c.len.ensures, c.in_ok-extend_from_slice.ensures.len, c.in_ok-reserve-2.ensures.len, c.self.inside.handles.ok.0, c.self.invariant.all, c.self.invariant.marked)) in
    rw (lengths, marks, ← seen) (cut_append c.self.inside.lengths.items c.self.inside.unborn.items (replicate (length c.args.handles.now) false) (length c.args.handles.now) c.self.invariant.marked (length-replicate (length c.args.handles.now) false))
