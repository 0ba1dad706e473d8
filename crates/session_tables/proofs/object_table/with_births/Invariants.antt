use Rattle.std.proofs.Common.{◌≡◌, ◌++◌, drop}
use Rattle.session_tables.specs.Births.{births_shown}
use Rattle.session_tables.proofs.object_table.with_births.Given as goal

abbrev pub invariant-loop-birth : goal.invariant-loop-birth
invariant-loop-birth l = l.table.births ++ births_shown (drop l.birth-index l.births) ≡ births_shown l.births
