use Rattle.shard_start.proofs.FewBorn.{few_born}
use Rattle.shard_start.proofs.births.few_objects_were_born.Goals as goal

pub returns : goal.returns
returns c = few_born
