-- By computation.
use Rattle.std.proofs.Common.{length, true≢false, sym, ap, arith}
use Rattle.shard_model.proofs.samples.entries_that_follow_no_plan.Goals as goal

pub returns : goal.returns
returns c = record { without_a_stream = λ h. h.0; begin_with_results = λ h. let e = ap length h.0.1 in omega arith; return_first = λ h. true≢false (sym h.0.0); behind_the_last = λ h. h.0 }
