use Rattle.std.proofs.Common.{rules}
use Rattle.stream_log.proofs.ClockMoves.{splits}
use Rattle.stream_log.proofs.tick.share_of.Goals as goal

pub split_seat-seat-requires : goal.split_seat-seat-requires
split_seat-seat-requires g c = (search rules, search rules, splits _ _ _ (rw c.requires.1 c.requires.2))
