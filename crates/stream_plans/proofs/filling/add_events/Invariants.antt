use Rattle.std.proofs.Common.{map, take}
use Rattle.trace_format.specs.Content.{content}
use Rattle.stream_plans.specs.Tables.{Learns}
use Rattle.stream_plans.proofs.filling.add_events.Given as goal

abbrev pub invariant-loop-event : goal.invariant-loop-event
invariant-loop-event l = Learns l.initial.table.rows.items l.table.rows.items (map content (take l.event-index l.events))
