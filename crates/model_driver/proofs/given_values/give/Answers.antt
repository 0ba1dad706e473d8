use Rattle.std.proofs.Common.{◌≡◌, ◌+◌, ◌-◌, ◌∷◌, ◌∙◌, [], length, ap, arith, length-append}
use Rattle.model_driver.proofs.Backs.{behind_more, values_more}
use Rattle.model_driver.proofs.given_values.give.Goals as goal

pub loop-turn-preserved : goal.loop-turn-preserved
loop-turn-preserved c =
    let one : c.args.count - c.loop-turn._turn ≡ (c.args.count - (c.loop-turn._turn + 1)) + 1 = omega arith in
    let pushed = rw c.unwrap.ensures at c.push.ensures.items in
    record {
      values = values_more c.args.policy c.push.new.self.items c.loop-turn.handles.items _ c.loop-turn.back.items c.give_one-value.new.back.items c.give_one-value.result _ _ c.loop-turn.invariant.values one c.give_one-value.ensures.value c.give_one-value.ensures.back pushed;
      behind = behind_more c.args.policy _ c.loop-turn.back.items c.give_one-value.new.back.items c.give_one-value.result _ _ c.loop-turn.invariant.behind one c.give_one-value.ensures.value c.give_one-value.ensures.back;
      heap = c.give_one-value.ensures.heap ∙ c.loop-turn.invariant.heap;
      book = c.give_one-value.ensures.book;
      room = omega (arith, c.loop-turn.invariant.room, c.give_one-value.ensures.length, c.give_one-value.ensures.capacity);
      grown = omega (arith, c.loop-turn.invariant.grown, c.give_one-value.ensures.length);
      capacity = omega (arith, c.loop-turn.invariant.capacity, c.give_one-value.ensures.capacity);
      free = λ room has. c.give_one-value.ensures.free room (c.loop-turn.invariant.free room has);
      answered = omega (arith, c.loop-turn.invariant.answered, c.push.ensures.capacity);
      handles = omega (arith, c.loop-turn.invariant.handles, c.push.ensures.capacity, ap length pushed, length-append c.loop-turn.handles.items (c.give_one-value.result ∷ []));
    }
