use Rattle.terminator.proofs.Chains.{IsWay}
use Rattle.terminator.proofs.chain.walk.Given as goal

abbrev pub invariant-loop-link : goal.invariant-loop-link
invariant-loop-link l = IsWay l.entries l.bytes l.key l.fn.owner l.link l.found

abbrev pub decreases-loop-link : goal.decreases-loop-link
decreases-loop-link l = l.link
