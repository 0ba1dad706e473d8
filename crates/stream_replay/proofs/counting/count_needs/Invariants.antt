use Rattle.std.proofs.Common.{◌≡◌, map, take}
use Rattle.trace_format.specs.Content.{content}
use Rattle.stream_replay.specs.Seating.{needs_of_events, room_counted}
use Rattle.stream_replay.proofs.counting.count_needs.Given as goal

abbrev pub invariant-loop-event : goal.invariant-loop-event
invariant-loop-event l = room_counted l.counts ≡ needs_of_events (map content (take l.event-index l.events))
