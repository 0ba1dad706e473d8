use Rattle.std.proofs.Common.{map, take}
use Rattle.std.specs.List.{AllByRecursion}
use Rattle.trace_format.specs.Content.{content}
use Rattle.stream_crew.specs.Needs.{IsBelowAt, IsMore}
use Rattle.stream_crew.proofs.needs.with_events.Given as goal

abbrev pub invariant-loop-event : goal.invariant-loop-event
invariant-loop-event l = record {
  grows : IsMore l.fn.most l.more;
  below : AllByRecursion (IsBelowAt l.more) (map content (take l.event-index l.events));
}
