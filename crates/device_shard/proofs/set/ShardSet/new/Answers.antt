use Rattle.std.proofs.Common.{List, ap, length, map, refl, arith}
use Rattle.std.proofs.lemmas.List.{length-map}
use Rattle.trace_format.specs.declared.event.Name.{Name}
use Rattle.device_shard.specs.Plans.{plan_content}
use Rattle.device_shard.specs.Shards.{ShardName}
use Rattle.device_shard.proofs.Gathered.{as_many_cut, both_same, can_all, is_idle}
use Rattle.device_shard.proofs.set.ShardSet.new.Goals as goal

pub gather_all-requires-clause-idle : goal.gather_all-requires-clause-idle
gather_all-requires-clause-idle g c = is_idle _ (map plan_content c.args.plans.now) c.held-held.result c.requires.file c.held-held.ensures c.a_cut_plan_can_start.ensures.idle c.few_objects_were_born.ensures

pub gather_all-requires-clause-starts : goal.gather_all-requires-clause-starts
gather_all-requires-clause-starts g c = can_all _ (map plan_content c.args.plans.now) g.N.ShardNames.shards c.requires.file c.requires.names c.a_cut_plan_can_start.ensures.starts

pub invariant_of-set-clause-few : goal.invariant_of-set-clause-few
invariant_of-set-clause-few g c =
    let names : List ShardName = g.N.ShardNames.shards in
    let same = as_many_cut _ (map plan_content c.args.plans.now) names c.requires.file c.requires.names in
    let devices = ap (λ (ds : List Name). length ds) c.in_ok-gathered.ensures.gathered.devices in
    omega (arith, same, devices, length-map names (λ (n : ShardName). n.plan.device), length-map c.args.plans.now plan_content, c.requires.few)

pub invariant_of-set-clause-devices_are : goal.invariant_of-set-clause-devices_are
invariant_of-set-clause-devices_are g c = c.in_ok-gathered.ensures.gathered.devices

pub invariant_of-set-clause-logs_are : goal.invariant_of-set-clause-logs_are
invariant_of-set-clause-logs_are g c = c.in_ok-gathered.ensures.gathered.logs

pub invariant_of-set-clause-held_are : goal.invariant_of-set-clause-held_are
invariant_of-set-clause-held_are g c =
    both_same c.lock_at.ensures.there (both_same c.lock_at-2.ensures.there (both_same c.lock_at-3.ensures.there (both_same c.lock_at-4.ensures.there (both_same c.lock_at-5.ensures.there (both_same c.lock_at-6.ensures.there (both_same c.lock_at-7.ensures.there (both_same c.lock_at-8.ensures.there (both_same c.lock_at-9.ensures.there (both_same c.lock_at-10.ensures.there (both_same c.lock_at-11.ensures.there (both_same c.lock_at-12.ensures.there (both_same c.lock_at-13.ensures.there (both_same c.lock_at-14.ensures.there (both_same c.lock_at-15.ensures.there (both_same c.lock_at-16.ensures.there refl)))))))))))))))
