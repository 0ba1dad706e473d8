use Rattle.std.proofs.Common.{◌≡◌, ◌++◌, drop, map, take}
use Rattle.session_tables.proofs.Relisting.{unlinked}
use Rattle.session_tables.proofs.owned_lists.unlink.Given as goal

abbrev pub invariant-loop-entry : goal.invariant-loop-entry
invariant-loop-entry l = l.entry-items ≡ map unlinked (take l.entry-index l.initial.entry-items) ++ drop l.entry-index l.initial.entry-items
