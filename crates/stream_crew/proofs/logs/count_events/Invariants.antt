use Rattle.std.proofs.Common.{◌≡◌, map, take}
use Rattle.shard_start.specs.Starting.{events_in}
use Rattle.device_shard.specs.Plans.{stream_planned}
use Rattle.stream_crew.proofs.logs.count_events.Given as goal

abbrev pub invariant-loop-stream : goal.invariant-loop-stream
invariant-loop-stream l = l.count ≡ events_in (map stream_planned (take l.stream-index l.streams))
