use Rattle.std.proofs.Common.{arith}
use Rattle.model_driver.proofs.Flats.{payload_left}
use Rattle.model_driver.proofs.flat_calls.append_calls.Goals as goal

pub list-requires : goal.list-requires
list-requires c = omega (arith, payload_left c.args.heads.now c.loop-i.i _ _ c.loop-i-test.true c.loop-i.invariant.rest)
