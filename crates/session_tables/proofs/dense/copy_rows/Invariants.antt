use Rattle.std.proofs.Common.{◌≡◌, ◌++◌, drop, map}
use Rattle.session_tables.proofs.dense.copy_rows.Given as goal

abbrev pub invariant-loop-row : goal.invariant-loop-row
invariant-loop-row g l = map (λ r. r.items) l.copies.items ++ map (λ r. r.items) (drop l.row-index l.rows) ≡ map (λ r. r.items) l.rows
