use Rattle.std.proofs.Common.{◌∷◌, [], List, length, ap, arith, length-append}
use Rattle.std.proofs.lemmas.List.{length-map}
use Rattle.object_model.specs.Objects.{is_in}
use Rattle.object_model.specs.Uses.{InUse, Use, uses_in}
use Rattle.layer_model.specs.Parts.{use_failures}
use Rattle.object_records.specs.Shape.{arguments_of}
use Rattle.thread_layer.specs.declared.object_use.ObjectUse.{ObjectUse}
use Rattle.thread_layer.specs.Kept.{PlacedUses, use_seen}
use Rattle.thread_layer.specs.Room.{uses_held}
use Rattle.thread_layer.proofs.Room.{held_more}
use Rattle.thread_layer.proofs.state.UseState.take_in.Goals as goal

pub returns-in_err-gather-clause-succeeds : goal.returns-in_err-gather-clause-succeeds
returns-in_err-gather-clause-succeeds c = λ fits finds.
    let cmd = c.args.call.now.cmd in
    let args = arguments_of c.args.call.now in
    let kept = c.args.self.now.kept in
    let mine : InUse = record { number = c.args.number; thread = c.args.thread; uses = uses_in kept.births (is_in kept.living) cmd args } in
    let uses = ap (λ (v : PlacedUses). length (uses_in v.kept.births (is_in v.kept.living) cmd args)) c.self.view_is in
    let reports = ap (λ (v : PlacedUses). length (use_failures v.kept c.args.thread cmd args)) c.self.view_is in
    let room = ap (λ (v : PlacedUses). v.room) c.self.view_is in
    let held = held_more kept.opens mine in
    let wrong = c.in_err-gather.ensures.succeeds (omega (arith, uses, room, held, fits.uses)) (omega (arith, reports, finds)) in cc wrong

pub returns-in_err-add-clause-succeeds : goal.returns-in_err-add-clause-succeeds
returns-in_err-add-clause-succeeds c = λ fits finds.
    let cmd = c.args.call.now.cmd in
    let args = arguments_of c.args.call.now in
    let kept = c.args.self.now.kept in
    let mine : InUse = record { number = c.args.number; thread = c.args.thread; uses = uses_in kept.births (is_in kept.living) cmd args } in
    let uses = ap (λ (v : PlacedUses). length (uses_in v.kept.births (is_in v.kept.living) cmd args)) c.self.view_is in
    let gathered = ap (λ (us : List Use). length us) c.in_ok-gather.ensures.uses in
    let long = length-map c.gather.new.gathered.uses.items use_seen in
    let slice = ap (λ (us : List ObjectUse). length us) c.deref.ensures.value in
    let calls = ap (λ (v : PlacedUses). length v.kept.opens) c.self.view_is in
    let held_before = ap (λ (v : PlacedUses). uses_held v.kept.opens) c.self.view_is in
    let room = ap (λ (v : PlacedUses). v.room) c.self.view_is in
    let held = held_more kept.opens mine in
    let count = length-append kept.opens (mine ∷ []) in
    let wrong = c.in_err-add.ensures.succeeds (omega (arith, calls, room, count, fits.calls)) (omega (arith, uses, gathered, long, slice, held_before, room, held, fits.uses)) in cc wrong
