use Rattle.std.proofs.Common.{map, take}
use Rattle.trace_format.specs.Content.{content}
use Rattle.stream_plans.specs.Dealt.{IsDealt, events_in}
use Rattle.stream_plans.specs.Tables.{device_in}
use Rattle.stream_plans.proofs.dealing.deal_events.Given as goal

abbrev pub invariant-loop-event : goal.invariant-loop-event
invariant-loop-event l = IsDealt (device_in l.table.rows.items) l.devices.names.items (events_in l.parts.items) l.places.items l.at (map content (take l.event-index l.events))
