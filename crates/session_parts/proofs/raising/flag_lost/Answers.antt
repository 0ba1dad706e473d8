use Rattle.std.proofs.Common.{arith}
use Rattle.session_parts.proofs.Rising.{flags_more}
use Rattle.session_parts.proofs.raising.flag_lost.Goals as goal

pub loop-preserved : goal.loop-preserved
loop-preserved c = record {
  flags = flags_more 0 c.args.lost.now c.loop.index c.args.flags.now.items c.loop.flags.items c.push.new.self.items c.loop-test.true c.loop.invariant.flags c.in_ok-push.ensures.items;
  count = omega (arith, c.loop.invariant.count, c.in_ok-push.ensures.len, c.loop.flags.ok.0, c.push.new.self.ok.0);
  room = omega (arith, c.loop.invariant.room, c.in_ok-push.ensures.capacity);
}
