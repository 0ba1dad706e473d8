use Rattle.std.proofs.Common.{arith}
use Rattle.session_parts.proofs.Passing.{names_more}
use Rattle.session_parts.proofs.keeping.keep_names.Goals as goal

pub loop-b-preserved : goal.loop-b-preserved
loop-b-preserved c = record {
  names = names_more c.args.made.now c.loop-b.b-index _ c.args.names.now.names c.loop-b.names.names c.push.new.self.names c.loop-b-test.true c.loop-b.invariant.names c.in_ok-push.ensures.ok;
  count = omega (arith, c.loop-b.invariant.count, c.in_ok-push.ensures.count);
  spare = omega (arith, c.loop-b.invariant.spare, c.in_ok-push.ensures.spare);
}
