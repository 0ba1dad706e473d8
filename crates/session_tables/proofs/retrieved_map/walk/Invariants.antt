use Rattle.session_tables.proofs.RetrievedLemmas.{IsWay}
use Rattle.session_tables.proofs.retrieved_map.walk.Given as goal

abbrev pub invariant-loop-link : goal.invariant-loop-link
invariant-loop-link l = IsWay l.entries l.bytes l.key l.link l.found

abbrev pub decreases-loop-link : goal.decreases-loop-link
decreases-loop-link l = l.link
