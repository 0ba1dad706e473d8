use Rattle.std.proofs.Common.{◌≡◌, ◌++◌, drop, map}
use Rattle.session_tables.specs.FiledRows.{cells_of}
use Rattle.session_tables.proofs.filed_rows.copy_filed.Given as goal

abbrev pub invariant-loop-row : goal.invariant-loop-row
invariant-loop-row g l = map cells_of l.copies.items ++ map cells_of (drop l.row-index l.rows) ≡ map cells_of l.rows
