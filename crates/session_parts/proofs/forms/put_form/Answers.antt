use Rattle.std.proofs.Common.{◌≡◌, List, ℕ, Vec, Global, ap, arith, length, vec_capacity}
use Rattle.command_tables.specs.Handles.{count_in}
use Rattle.object_model.specs.declared.Argument.{Argument}
use Rattle.chain_model.specs.Chained.{handle_by}
use Rattle.chain_model.specs.Handed.{handle_in}
use Rattle.session_parts.proofs.Capacities.{within_at}
use Rattle.session_parts.proofs.Counted.{counted_part, params_long}
use Rattle.session_parts.proofs.forms.put_form.Goals as goal

pub returns-in_err-push_arguments-clause-succeeds : goal.returns-in_err-push_arguments-clause-succeeds
returns-in_err-push_arguments-clause-succeeds c = λ within room.
    let h = handle_by (handle_in c.args.handed.now.handed) in
    let k = c.loop-arg.arg-index in
    let arg = c.arg-item.result in
    let lists = ap (λ (xs : List (List ℕ)). length xs) c.loop-arg.invariant.lists in
    let count = ap count_in c.loop-arg.invariant.lists in
    let long = params_long h c.args.args.now k (omega (arith, c.loop-arg-test.true)) in
    let part = counted_part h c.args.args.now k arg c.loop-arg-test.true c.arg-item.is in
    let one = within_at (λ (v : Vec Argument Global). v.items) (vec_capacity c.args.room.now) c.args.args.now k arg within c.loop-arg-test.true c.arg-item.is in
    let at : length c.deref.result.now ≡ length arg.items = ap (λ (xs : List Argument). length xs) c.deref.ensures.value in
    let wrong = c.in_err-push_arguments.ensures.succeeds (omega (arith, one, at, c.loop-arg.invariant.handles_room)) (record {
      slots = omega (arith, lists, long, c.loop-arg-test.true, room.slots, c.clear.ensures.room.slots, c.loop-arg.invariant.args_room.slots);
      room = omega (arith, count, part, at, room.room, c.clear.ensures.room.room, c.loop-arg.invariant.args_room.room);
    }) in
    cc wrong
