use Rattle.std.proofs.Common.{map, take}
use Rattle.std.specs.List.{flat_map}
use Rattle.stream_plans.specs.Contents.{stream_part}
use Rattle.stream_plans.specs.Tables.{Learns}
use Rattle.stream_plans.proofs.filling.add_streams.Given as goal

abbrev pub invariant-loop-stream : goal.invariant-loop-stream
invariant-loop-stream l = Learns l.initial.table.rows.items l.table.rows.items (flat_map (λ s. s.events) (map stream_part (take l.stream-index l.streams)))
