use Rattle.std.proofs.Common.{vec_len}
use Rattle.chain_session.proofs.room.SpareReplies.keep.Given as goal

abbrev pub decreases-loop-reply : goal.decreases-loop-reply
decreases-loop-reply l = vec_len l.replies
