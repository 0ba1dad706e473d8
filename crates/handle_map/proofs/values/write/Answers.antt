use Rattle.std.proofs.Common.{◌+◌, get_or, ◌∙◌}
use Rattle.std.proofs.Math.ListN.{length-set}
use Rattle.handle_map.proofs.Flat.{write_more}
use Rattle.handle_map.proofs.values.write.Goals as goal

pub loop-k-preserved : goal.loop-k-preserved
loop-k-preserved c = record {
  rest = write_more c.loop-k.flat.items c.args.values.now _ c.args.start c.loop-k.k c.loop-k-test.true c.loop-k.invariant.rest;
  long = length-set c.loop-k.flat.items (c.args.start + c.loop-k.k) (get_or c.args.values.now c.loop-k.k 0) ∙ c.loop-k.invariant.long;
  capacity = c.loop-k.invariant.capacity;
}
