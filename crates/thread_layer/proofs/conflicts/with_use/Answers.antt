use Rattle.thread_layer.specs.Kept.{use_seen}
use Rattle.thread_layer.proofs.Least.{open_more}
use Rattle.thread_layer.proofs.Opens.{counted_left}
use Rattle.thread_layer.proofs.conflicts.with_use.Goals as goal

pub loop-i-preserved : goal.loop-i-preserved
loop-i-preserved c = record {
  least = open_more c.args.calls.now c.args.held.now c.loop-i.i c.loop-i.start _ c.args.thread (use_seen c.args.used.now) c.loop-i.least c.with_open-least.result _ c.loop-i-test.true c.loop-i.invariant.least c.with_open-least.ensures;
  left = counted_left c.args.calls.now c.loop-i.i c.loop-i.start _ _ c.loop-i-test.true c.loop-i.invariant.left;
}
