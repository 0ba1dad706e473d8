use Rattle.std.proofs.Common.{◌<◌, map, length, ap, arith, ◌∙◌}
use Rattle.terminator.specs.Shown.{drivers_named}
use Rattle.terminator.specs.Table.{value_of}
use Rattle.terminator.proofs.Answering.{gathered_none, gathered_step}
use Rattle.terminator.proofs.answers.Answers.gather.Goals as goal

pub loop-k-init : goal.loop-k-init
loop-k-init c = record {
  values = ap (map value_of) c.clear.ensures.items ∙ gathered_none c.args.self.cmd (drivers_named c.args.self.receivers) c.args.place;
  count = omega (arith, ap length c.clear.ensures.items);
  room = omega (arith, c.clear.ensures.capacity);
}

pub loop-k-preserved : goal.loop-k-preserved
loop-k-preserved c =
    let less : c.loop-k.k < length (drivers_named c.args.self.receivers) = omega (arith, c.loop-k-test.true, c.count-k-end.ensures) in
    record {
      values = gathered_step c.args.self.cmd (drivers_named c.args.self.receivers) c.args.self.replies.now c.loop-k.k c.args.place c.at.result c.deref.result.now c.index-self-k.result (map value_of c.loop-k.values.items) (map value_of c.add_value.new.values.items) less c.requires c.at.ensures
          c.deref.ensures.value c.loop-k.invariant.values c.in_ok-add_value.ensures.added;
      count = omega (arith, c.loop-k.invariant.count, c.in_ok-add_value.ensures.count);
      room = omega (arith, c.loop-k.invariant.room, c.in_ok-add_value.ensures.room);
    }
