use Rattle.std.proofs.Common.{◌+◌, ◌∙◌}
use Rattle.std.proofs.Math.ListN.{length-set}
use Rattle.terminator.proofs.Flat.{write_more}
use Rattle.terminator.proofs.values.write.Goals as goal

pub loop-k-preserved : goal.loop-k-preserved
loop-k-preserved c = record {
  rest = write_more c.loop-k.flat.items c.args.values.now _ _ c.args.start c.loop-k.k c.loop-k-test.true c.loop-k.invariant.rest;
  long = length-set c.loop-k.flat.items (c.args.start + c.loop-k.k) _ ∙ c.loop-k.invariant.long;
  capacity = c.loop-k.invariant.capacity;
}
