use Rattle.shard_model.proofs.Opens.{none_left, still_apart}
use Rattle.shard_model.proofs.open_calls_are_of_threads.Goals as goal

pub returns : goal.returns
returns c = record { left = still_apart; none = none_left }
