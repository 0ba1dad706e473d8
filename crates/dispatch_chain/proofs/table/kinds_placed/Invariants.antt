use Rattle.std.proofs.Common.{◌≡◌, ◌++◌, drop}
use Rattle.dispatch_chain.specs.Rows.{kinds_placed}
use Rattle.dispatch_chain.proofs.table.kinds_placed.Given as goal

abbrev pub invariant-loop-part : goal.invariant-loop-part
invariant-loop-part l = l.kinds.items ++ kinds_placed (drop l.part-index l.parts) ≡ kinds_placed l.parts
