use Rattle.std.proofs.Common.{◌≡◌, ◌++◌, ◌+◌, drop}
use Rattle.dispatch_chain.specs.Rows.{entries_from, entries_of}
use Rattle.dispatch_chain.proofs.table.row_for.Given as goal

abbrev pub invariant-loop-kind : goal.invariant-loop-kind
invariant-loop-kind l = record {
  told : l.entries.items ++ entries_from l.cmd (l.place + 1) (drop l.kind-index l.kinds) ≡ entries_of l.cmd l.kinds;
}
