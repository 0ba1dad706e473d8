use Rattle.std.proofs.Common.{◌≡◌, map, take}
use Rattle.device_shard.specs.Making.{results_planned}
use Rattle.device_shard.specs.Plans.{stream_planned}
use Rattle.stream_crew.proofs.logs.count_results.Given as goal

abbrev pub invariant-loop-stream : goal.invariant-loop-stream
invariant-loop-stream l = l.count ≡ results_planned (map stream_planned (take l.stream-index l.streams))
