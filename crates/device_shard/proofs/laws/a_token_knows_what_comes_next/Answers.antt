use Rattle.device_shard.proofs.Steps.{next_past, next_turned}
use Rattle.device_shard.proofs.laws.a_token_knows_what_comes_next.Goals as goal

pub returns : goal.returns
returns c = record { past = next_past; order = next_turned }
