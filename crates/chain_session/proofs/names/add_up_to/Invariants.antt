use Rattle.std.proofs.Common.{◌≤◌, ◌-◌, length, vec_len}
use Rattle.chain_session.proofs.names.add_up_to.Given as goal

abbrev pub invariant-loop-all : goal.invariant-loop-all
invariant-loop-all l = length l.all.items ≤ l.count

abbrev pub decreases-loop-all : goal.decreases-loop-all
decreases-loop-all l = l.count - vec_len l.all
