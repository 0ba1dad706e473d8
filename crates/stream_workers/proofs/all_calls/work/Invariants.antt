use Rattle.std.proofs.Common.{◌≡◌, ◌-◌, List, length, map}
use Rattle.device_shard.specs.Plans.{plan_content}
use Rattle.merge_model.specs.Planned.{PlannedCall}
use Rattle.stream_workers.specs.Work.{IsReadyFor, course}
use Rattle.stream_workers.proofs.Working.{Reached}
use Rattle.stream_workers.proofs.all_calls.work.Given as goal

-- of all calls that were planned so many are made, and the seat answers as it did
abbrev pub invariant-loop-call : goal.invariant-loop-call
invariant-loop-call g l =
    ((planned : List PlannedCall) → IsReadyFor g.D.SharedDriver.room (course g.N.ShardNames.shards g.N.ShardNames.clock (map plan_content l.plans)) planned l.initial.worker
    → Reached g.D.SharedDriver.room g.D.SharedDriver.log (course g.N.ShardNames.shards g.N.ShardNames.clock (map plan_content l.plans)) planned l.call l.initial.worker l.worker)
    × (g.D.SharedDriver.answers_by l.worker.seat ≡ g.D.SharedDriver.answers_by l.initial.worker.seat)

abbrev pub decreases-loop-call : goal.decreases-loop-call
decreases-loop-call g l = length l.initial.worker.places.items - l.call
