use Rattle.std.proofs.Common.{◌≡◌, ◌+◌, drop}
use Rattle.trace_format.specs.Accepting.{count_on}
use Rattle.trace_format.proofs.state.are_next.Given as goal

abbrev pub invariant-loop-name : goal.invariant-loop-name
invariant-loop-name l = (l.next ≡ l.fn.first + l.name-index) × (count_on l.thread l.fn.first l.results ≡ count_on l.thread l.next (drop l.name-index l.results))
