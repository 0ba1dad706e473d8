use Rattle.std.proofs.Common.{map, take}
use Rattle.std.specs.List.{AllByRecursion}
use Rattle.device_shard.specs.Plans.{stream_planned}
use Rattle.device_shard.specs.Rooms.{IsGrown, IsStreamWithin, needs_of}
use Rattle.device_shard.proofs.measure.with_streams.Given as goal

abbrev pub invariant-loop-stream : goal.invariant-loop-stream
invariant-loop-stream l = record {
  grows : IsGrown (needs_of l.fn.measure) (needs_of l.most);
  within : AllByRecursion (IsStreamWithin (needs_of l.most)) (map stream_planned (take l.stream-index l.streams));
}
