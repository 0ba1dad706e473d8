use Rattle.std.proofs.Common.{map, take}
use Rattle.std.specs.List.{AllByRecursion}
use Rattle.trace_format.specs.Content.{content}
use Rattle.shard_room.specs.Needs.{IsWithinAt}
use Rattle.device_shard.specs.Rooms.{IsGrown, needs_of}
use Rattle.device_shard.proofs.measure.with_events.Given as goal

abbrev pub invariant-loop-event : goal.invariant-loop-event
invariant-loop-event l = record {
  grows : IsGrown (needs_of l.fn.measure) (needs_of l.most);
  within : AllByRecursion (IsWithinAt (needs_of l.most)) (map content (take l.event-index l.events));
}
