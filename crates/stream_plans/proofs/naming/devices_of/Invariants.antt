use Rattle.std.proofs.Common.{◌≡◌, [], map, take}
use Rattle.std.specs.List.{flat_map}
use Rattle.stream_plans.specs.Contents.{stream_part}
use Rattle.stream_plans.specs.Cuts.{devices_with}
use Rattle.stream_plans.specs.Dealt.{AreNumbered}
use Rattle.stream_plans.specs.Tables.{device_in}
use Rattle.stream_plans.proofs.naming.devices_of.Given as goal

abbrev pub invariant-loop-stream : goal.invariant-loop-stream
invariant-loop-stream l = record {
  names : l.devices.names.items ≡ devices_with (device_in l.table.rows.items) [] (flat_map (λ s. s.events) (map stream_part (take l.stream-index l.streams)));
  numbered : AreNumbered l.devices;
}
