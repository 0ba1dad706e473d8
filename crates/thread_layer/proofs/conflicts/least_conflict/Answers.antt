use Rattle.thread_layer.specs.Kept.{opens_of}
use Rattle.thread_layer.proofs.Least.{use_more}
use Rattle.thread_layer.proofs.conflicts.least_conflict.Goals as goal

pub loop-i-preserved : goal.loop-i-preserved
loop-i-preserved c = use_more (opens_of c.args.calls.now c.args.held.now) c.args.thread c.args.uses.now c.loop-i.i _ c.loop-i.least c.with_use-least.result _ c.loop-i-test.true c.loop-i.invariant c.with_use-least.ensures
