use Rattle.std.proofs.Common.{map, take}
use Rattle.std.specs.List.{AllByRecursion}
use Rattle.stream_model.specs.Plans.{DevicePlan}
use Rattle.device_shard.specs.Plans.{plan_content}
use Rattle.device_shard.proofs.Measured.{all_more, all_taken}
use Rattle.stream_crew.specs.Needs.{IsBelowAt, events_at}
use Rattle.stream_crew.proofs.Counting.{plans_below}
use Rattle.stream_crew.proofs.needs.measure.Goals as goal

pub loop-plan-preserved : goal.loop-plan-preserved
loop-plan-preserved c =
    let old = c.loop-plan.most in
    let new = c.in_ok-most.most in
    all_more (λ (p : DevicePlan). AllByRecursion (IsBelowAt new) (events_at c.args.number p)) plan_content c.args.plans.now c.loop-plan.plan-index c.plan-item.result c.loop-plan-test.true c.plan-item.is
    (plans_below old new c.args.number (map plan_content (take c.loop-plan.plan-index c.args.plans.now)) c.in_ok-most.ensures.grows c.loop-plan.invariant) c.in_ok-most.ensures.below

pub returns : goal.returns
returns c =
    all_taken (λ (p : DevicePlan). AllByRecursion (IsBelowAt c.loop-plan.most) (events_at c.args.number p)) plan_content c.args.plans.now c.loop-plan.plan-index c.loop-plan-test.false c.loop-plan.invariant
