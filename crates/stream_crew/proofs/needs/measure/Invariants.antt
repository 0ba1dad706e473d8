use Rattle.std.proofs.Common.{map, take}
use Rattle.device_shard.specs.Plans.{plan_content}
use Rattle.stream_crew.specs.Needs.{AreBelow}
use Rattle.stream_crew.proofs.needs.measure.Given as goal

abbrev pub invariant-loop-plan : goal.invariant-loop-plan
invariant-loop-plan l = AreBelow l.most l.number (map plan_content (take l.plan-index l.plans))
