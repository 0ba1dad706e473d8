use Rattle.std.proofs.Common.{vec_len}
use Rattle.chain_session.proofs.names.leave_at_most.Given as goal

abbrev pub decreases-loop-all : goal.decreases-loop-all
decreases-loop-all l = vec_len l.all
