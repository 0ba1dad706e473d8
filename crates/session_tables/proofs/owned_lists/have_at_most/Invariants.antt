use Rattle.std.proofs.Common.{◌≡◌, ◌+◌, take}
use Rattle.session_tables.specs.Owned.{links_of}
use Rattle.session_tables.proofs.owned_lists.have_at_most.Given as goal

abbrev pub invariant-loop-birth : goal.invariant-loop-birth
invariant-loop-birth l = l.left + links_of (take l.birth-index l.births) ≡ l.n
