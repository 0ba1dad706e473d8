use Rattle.handle_map.proofs.Links.{IsWay}
use Rattle.handle_map.proofs.chain.walk.Given as goal

abbrev pub invariant-loop-link : goal.invariant-loop-link
invariant-loop-link g l = IsWay g.row.S l.entries l.ty l.id l.link

abbrev pub decreases-loop-link : goal.decreases-loop-link
decreases-loop-link g l = l.link
