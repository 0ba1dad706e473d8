use Rattle.std.proofs.Common.{rules}
use Rattle.stream_log.proofs.ClockMoves.{joins}
use Rattle.stream_log.proofs.tick.Tick.join.Goals as goal

pub join_seat-requires : goal.join_seat-requires
join_seat-requires c = (search rules, search rules, search rules, search rules, joins _ _ _ _)
