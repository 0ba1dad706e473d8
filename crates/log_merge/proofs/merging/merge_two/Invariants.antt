use Rattle.std.proofs.Common.{length, ◌-◌, ◌+◌, map}
use Rattle.log_merge.specs.Numbered.{numbered}
use Rattle.log_merge.proofs.Steps.{State}
use Rattle.log_merge.proofs.merging.merge_two.Given as goal

abbrev pub invariant-loop-i : goal.invariant-loop-i
invariant-loop-i l = State (map numbered l.xs) (map numbered l.ys) (map numbered l.merged.items) l.i l.j

abbrev pub decreases-loop-i : goal.decreases-loop-i
decreases-loop-i l = (length l.xs + length l.ys) - (l.i + l.j)
