use Rattle.std.proofs.Common.{◌-◌, ◌+◌, vec_len}
use Rattle.trace_format.specs.State.{SameThreads}
use Rattle.trace_format.proofs.state.grow.Given as goal

abbrev pub invariant-loop-alloc : goal.invariant-loop-alloc
invariant-loop-alloc l = SameThreads l.initial.threads.items l.threads.items

abbrev pub decreases-loop-alloc : goal.decreases-loop-alloc
decreases-loop-alloc l = l.thread + 1 - vec_len l.threads
