use Rattle.std.proofs.Common.{◌≡◌, ◌++◌, map, drop}
use Rattle.dispatch_chain.specs.Rows.{entries_of}
use Rattle.dispatch_chain.proofs.table.rows_for.Given as goal

abbrev pub invariant-loop-cmd : goal.invariant-loop-cmd
invariant-loop-cmd l = map (λ row. row.items) l.rows.items ++ map (λ cmd. entries_of cmd l.kinds) (drop l.cmd-index l.commands) ≡ map (λ cmd. entries_of cmd l.kinds) l.commands
