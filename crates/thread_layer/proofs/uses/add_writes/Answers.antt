use Rattle.std.proofs.Common.{arith}
use Rattle.thread_layer.proofs.uses.add_writes.Goals as goal

pub returns-in_err-add_use-clause-succeeds : goal.returns-in_err-add_use-clause-succeeds
returns-in_err-add_use-clause-succeeds c = λ low. let wrong = c.in_err-add_use.ensures.succeeds (omega (arith, low, c.loop-i.invariant.count, c.loop-i.invariant.room, c.loop-i-test.true)) in cc wrong
