use Rattle.std.proofs.Common.{◌≡◌, ◌-◌, ◌+◌, ℕ, vec_len}
use Rattle.threaded_replay.specs.Origins.{cell}
use Rattle.threaded_replay.proofs.origins.add_rows.Given as goal

abbrev pub invariant-rows : goal.invariant-rows
invariant-rows l = (r n : ℕ) → cell l.rows.items r n ≡ cell l.initial.rows.items r n

abbrev pub decreases-rows : goal.decreases-rows
decreases-rows l = l.row + 1 - vec_len l.rows
