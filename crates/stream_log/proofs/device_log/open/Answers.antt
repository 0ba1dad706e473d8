use Rattle.std.proofs.Common.{rules}
use Rattle.stream_log.proofs.LogMoves.{begins}
use Rattle.stream_log.proofs.device_log.open.Goals as goal

pub of_words-requires : goal.of_words-requires
of_words-requires c = begins _ _ _ (search rules)
