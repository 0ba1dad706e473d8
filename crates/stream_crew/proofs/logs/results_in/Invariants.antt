use Rattle.std.proofs.Common.{◌≡◌, map, take}
use Rattle.std.specs.List.{sum_by}
use Rattle.trace_format.specs.Content.{content}
use Rattle.device_shard.specs.Shards.{results_at}
use Rattle.stream_crew.proofs.logs.results_in.Given as goal

abbrev pub invariant-loop-event : goal.invariant-loop-event
invariant-loop-event l = l.count ≡ sum_by results_at (map content (take l.event-index l.events))
