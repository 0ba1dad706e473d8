use Rattle.std.proofs.Common.{◌-◌, ◌≤◌, length}
use Rattle.trace_format.specs.Between.{PassBetween}
use Rattle.trace_format.specs.Grammar.{is_printable}
use Rattle.trace_format.proofs.parse.printable.are_blocks.Given as goal

abbrev pub invariant-loop-at : goal.invariant-loop-at
invariant-loop-at l = (l.at ≤ length l.line) × PassBetween is_printable l.line 0 l.at

abbrev pub decreases-loop-at : goal.decreases-loop-at
decreases-loop-at l = length l.line - l.at
