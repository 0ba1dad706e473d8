use Rattle.std.proofs.Common.{◌≡◌, map, drop}
use Rattle.trace_format.specs.Content.{content}
use Rattle.stream_plans.specs.Cuts.{devices_with}
use Rattle.stream_plans.specs.Dealt.{AreNumbered}
use Rattle.stream_plans.specs.Tables.{device_in}
use Rattle.stream_plans.proofs.naming.add_named.Given as goal

abbrev pub invariant-loop-event : goal.invariant-loop-event
invariant-loop-event l = record {
  names : devices_with (device_in l.table.rows.items) l.devices.names.items (map content (drop l.event-index l.events)) ≡ devices_with (device_in l.table.rows.items) l.initial.devices.names.items (map content l.events);
  numbered : AreNumbered l.devices;
}
