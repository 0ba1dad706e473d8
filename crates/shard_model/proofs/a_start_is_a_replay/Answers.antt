use Rattle.shard_model.proofs.Replayed.{alike_so, starts_so}
use Rattle.shard_model.proofs.a_start_is_a_replay.Goals as goal

pub returns : goal.returns
returns c = record { starts = starts_so; alike = alike_so }
