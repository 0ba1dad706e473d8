use Rattle.std.proofs.Common.{◌≡◌, ◌-◌, ◌+◌, ℕ, vec_len}
use Rattle.stream_plans.specs.Tables.{cell}
use Rattle.stream_plans.proofs.table.add_rows.Given as goal

abbrev pub invariant-rows : goal.invariant-rows
invariant-rows g l = (r n : ℕ) → cell l.rows.items r n ≡ cell l.initial.rows.items r n

abbrev pub decreases-rows : goal.decreases-rows
decreases-rows g l = l.row + 1 - vec_len l.rows
