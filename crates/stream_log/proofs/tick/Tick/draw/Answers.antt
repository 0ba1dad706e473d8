use Rattle.std.proofs.Common.{rules}
use Rattle.stream_log.proofs.ClockMoves.{draws}
use Rattle.stream_log.proofs.tick.Tick.draw.Goals as goal

pub fetch_add-found-requires : goal.fetch_add-found-requires
fetch_add-found-requires c = (search rules, search rules, draws _ _ _ (search rules))
