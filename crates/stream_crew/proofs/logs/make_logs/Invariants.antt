use Rattle.std.proofs.Common.{map, take}
use Rattle.std.specs.List.{AllZip}
use Rattle.device_shard.specs.Plans.{plan_content}
use Rattle.stream_crew.specs.Crews.{IsNewLog}
use Rattle.stream_crew.proofs.logs.make_logs.Given as goal

abbrev pub invariant-loop-plan : goal.invariant-loop-plan
invariant-loop-plan l = AllZip (IsNewLog l.threads) (map plan_content (take l.plan-index l.plans)) l.logs.items
