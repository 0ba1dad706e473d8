use Rattle.std.proofs.Common.{vec_len}
use Rattle.trace_format.proofs.parse.room.EventRoom.give_back.Given as goal

abbrev pub decreases-loop-arg : goal.decreases-loop-arg
decreases-loop-arg l = vec_len l.args
