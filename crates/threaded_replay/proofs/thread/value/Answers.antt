use Rattle.std.proofs.Common.{arith}
use Rattle.trace_format.proofs.NameLemmas.{digits_fit}
use Rattle.threaded_replay.proofs.thread.value.Goals as goal

pub overflow_mul-value : goal.overflow_mul-value
overflow_mul-value c = omega (arith, digits_fit _ _ c.loop-digit.invariant.small (omega arith))

pub overflow_add-value : goal.overflow_add-value
overflow_add-value c = omega (arith, digits_fit _ _ c.loop-digit.invariant.small (omega arith))
