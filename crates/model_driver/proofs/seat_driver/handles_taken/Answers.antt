use Rattle.std.proofs.Common.{ap, arith, length}
use Rattle.model_driver.specs.Driver.{call_shown}
use Rattle.model_driver.proofs.Taken.{taken_few}
use Rattle.model_driver.proofs.seat_driver.handles_taken.Goals as goal

pub overflow_cast-count : goal.overflow_cast-count
overflow_cast-count c =
    let few = taken_few (call_shown c.args.call.now) c.loop-p.p c.requires (omega (arith, c.len-p-end.ensures.count, c.len-p-end.ensures.limit)) (omega (arith, c.len-p-end.ensures.count, c.loop-p-test.true)) in
    omega (arith, few, ap (λ xs. length xs) c.param.ensures)

pub overflow_add-count : goal.overflow_add-count
overflow_add-count c =
    let few = taken_few (call_shown c.args.call.now) c.loop-p.p c.requires (omega (arith, c.len-p-end.ensures.count, c.len-p-end.ensures.limit)) (omega (arith, c.len-p-end.ensures.count, c.loop-p-test.true)) in
    omega (arith, few, ap (λ xs. length xs) c.param.ensures, c.loop-p.invariant)
