use Rattle.std.proofs.Common.{◌+◌, ◌∙◌, map, subst, take}
use Rattle.std.specs.List.{AllZip}
use Rattle.std.proofs.lemmas.List.{length-map, take_all}
use Rattle.std.proofs.lemmas.Slice.Zip.{AllZip-long}
use Rattle.device_shard.specs.Plans.{plan_content}
use Rattle.device_shard.proofs.Measured.{mapped}
use Rattle.stream_crew.specs.Crews.{IsNewLog}
use Rattle.stream_crew.proofs.Logging.{are_logs, zip_is}
use Rattle.stream_crew.proofs.logs.make_logs.Goals as goal

pub loop-plan-preserved : goal.loop-plan-preserved
loop-plan-preserved c =
    let plans = c.args.plans.now in
    let i = c.loop-plan.plan-index in
    zip_is (IsNewLog c.args.threads.now) (map plan_content (take i plans)) (map plan_content (take (i + 1) plans)) c.loop-plan.logs.items c.push.new.self.items (plan_content c.plan-item.result) c.in_ok-log.log
    (mapped plan_content plans i c.plan-item.result c.loop-plan-test.true c.plan-item.is) c.in_ok-push.ensures.items c.loop-plan.invariant c.in_ok-log.ensures

pub returns-clause-count : goal.returns-clause-count
returns-clause-count c =
    let plans = c.args.plans.now in
    let made : AllZip (IsNewLog c.args.threads.now) (map plan_content plans) c.loop-plan.logs.items =
    subst (λ ps. AllZip (IsNewLog c.args.threads.now) (map plan_content ps) c.loop-plan.logs.items) (take_all c.loop-plan.plan-index plans c.loop-plan-test.false) c.loop-plan.invariant in
    AllZip-long (IsNewLog c.args.threads.now) (map plan_content plans) c.loop-plan.logs.items made ∙ length-map plans plan_content

pub returns-clause-logs : goal.returns-clause-logs
returns-clause-logs c = λ names plan own.
    are_logs c.args.threads.now (map plan_content c.args.plans.now) names c.loop-plan.logs.items c.requires.threads plan own
    (subst (λ ps. AllZip (IsNewLog c.args.threads.now) (map plan_content ps) c.loop-plan.logs.items) (take_all c.loop-plan.plan-index c.args.plans.now c.loop-plan-test.false) c.loop-plan.invariant)
