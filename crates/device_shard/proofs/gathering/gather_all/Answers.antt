use Rattle.std.proofs.Common.{◌<◌, ◌++◌, ◌∙◌, ap, length, map, subst, sym, take, arith}
use Rattle.std.specs.Prelude.{option_to_list}
use Rattle.std.proofs.lemmas.List.{length-map, take_all}
use Rattle.device_shard.specs.Gathering.{IsGathered}
use Rattle.device_shard.specs.Plans.{plan_content}
use Rattle.device_shard.proofs.Gathered.{as_many, has_log, named_at, names_more, next_log}
use Rattle.device_shard.proofs.Measured.{seen_at}
use Rattle.device_shard.proofs.gathering.gather_all.Goals as goal

pub unwrap-given-requires : goal.unwrap-given-requires
unwrap-given-requires g c =
    let i = c.loop-plan.plan-index in
    let named = named_at _ c.args.held (map plan_content c.args.plans.now) g.N.ShardNames.shards i (plan_content c.plan-item.result) c.requires.idle c.requires.names c.requires.starts
    (seen_at plan_content c.args.plans.now i c.plan-item.result c.loop-plan-test.true c.plan-item.is) in
    let some : 0 < length c.loop-plan.logs.items = has_log g.N.ShardNames.shards i named.name c.loop-plan.logs.items named.at c.loop-plan.invariant.logs in
    c.pop.ensures.variant.1 (omega (arith, some, c.loop-plan.logs.ok.0))

pub add_plan-requires-clause-named : goal.add_plan-requires-clause-named
add_plan-requires-clause-named g c =
    let i = c.loop-plan.plan-index in
    let named = named_at _ c.args.held (map plan_content c.args.plans.now) g.N.ShardNames.shards i (plan_content c.plan-item.result) c.requires.idle c.requires.names c.requires.starts
    (seen_at plan_content c.args.plans.now i c.plan-item.result c.loop-plan-test.true c.plan-item.is) in
    let next = next_log g.N.ShardNames.shards i named.name c.loop-plan.logs.items c.pop.new.self.items c.unwrap-given.result named.at
    (c.pop.ensures.items ∙ ap (λ o. c.pop.new.self.items ++ option_to_list o) c.unwrap-given.ensures) c.loop-plan.invariant.logs in
    (named.name, named.plan, next.0, named.can)

pub loop-plan-preserved : goal.loop-plan-preserved
loop-plan-preserved g c =
    let i = c.loop-plan.plan-index in
    let named = named_at _ c.args.held (map plan_content c.args.plans.now) g.N.ShardNames.shards i (plan_content c.plan-item.result) c.requires.idle c.requires.names c.requires.starts
    (seen_at plan_content c.args.plans.now i c.plan-item.result c.loop-plan-test.true c.plan-item.is) in
    let next = next_log g.N.ShardNames.shards i named.name c.loop-plan.logs.items c.pop.new.self.items c.unwrap-given.result named.at
    (c.pop.ensures.items ∙ ap (λ o. c.pop.new.self.items ++ option_to_list o) c.unwrap-given.ensures) c.loop-plan.invariant.logs in
    record {
      gathered = subst (λ ns. IsGathered c.args.clock.now ns c.add_plan.new.made) (sym (names_more g.N.ShardNames.shards i named.name named.at))
          (c.in_ok-add_plan.ensures.gathered (take i g.N.ShardNames.shards) named.name named.plan named.start named.can next.0 c.loop-plan.invariant.gathered);
      logs = next.1;
      tick = c.add_plan.ensures.tick ∙ c.loop-plan.invariant.tick;
    }

pub returns-clause-gathered : goal.returns-clause-gathered
returns-clause-gathered g c =
    let names = g.N.ShardNames.shards in
    let i = c.loop-plan.plan-index in
    let same = as_many _ c.args.held (map plan_content c.args.plans.now) names c.requires.idle c.requires.names in
    subst (λ ns. IsGathered c.args.clock.now ns c.loop-plan.made) (take_all i names (omega (arith, same, length-map c.args.plans.now plan_content, c.loop-plan-test.false))) c.loop-plan.invariant.gathered
