use Rattle.std.proofs.Common.{map, arith}
use Rattle.device_shard.specs.Plans.{stream_planned}
use Rattle.device_shard.proofs.Measured.{few_each}
use Rattle.device_shard.proofs.measure.measure_all.Goals as goal

pub with_streams-requires : goal.with_streams-requires
with_streams-requires c = few_each c.args.due (map stream_planned c.args.streams.now) (omega (arith, c.requires))
