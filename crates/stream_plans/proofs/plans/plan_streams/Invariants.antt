use Rattle.std.proofs.Common.{◌≡◌, map, take}
use Rattle.stream_plans.specs.Contents.{plan_content, stream_part}
use Rattle.stream_plans.specs.Cuts.{places_planned, plan_by}
use Rattle.stream_plans.specs.Tables.{device_in}
use Rattle.stream_plans.proofs.plans.plan_streams.Given as goal

-- the plans of the streams so far
abbrev pub invariant-loop-stream : goal.invariant-loop-stream
invariant-loop-stream l = record {
  plans : map plan_content l.plans.items ≡ map (plan_by (device_in l.table.rows.items) (map stream_part (take l.stream-index l.streams))) l.devices.names.items;
  places : map (λ p. p.items) l.places.items ≡ map (λ s. places_planned (device_in l.table.rows.items) l.devices.names.items (stream_part s).events) (take l.stream-index l.streams);
}
