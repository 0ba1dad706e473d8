use Rattle.std.proofs.Common.{◌≡◌, ◌-◌, ◌+◌, ℕ, vec_len}
use Rattle.session_tables.specs.FiledRows.{filed_cell}
use Rattle.session_tables.proofs.filed_rows.add_filed_rows.Given as goal

abbrev pub invariant-rows : goal.invariant-rows
invariant-rows g l = (empty : g.row.V.Denot) (r n : ℕ) → filed_cell empty l.rows.items r n ≡ filed_cell empty l.initial.rows.items r n

abbrev pub decreases-rows : goal.decreases-rows
decreases-rows g l = l.row + 1 - vec_len l.rows
