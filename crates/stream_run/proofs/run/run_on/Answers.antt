use Rattle.std.proofs.Common.{◌≡◌, ◌∙◌, Some, List, ap, map, refl, subst, sym}
use Rattle.std.specs.List.{AllByRecursion, flat_map}
use Rattle.stream_log.specs.Log.{SeenView}
use Rattle.trace_format.specs.declared.event.Name.{Name}
use Rattle.trace_format.specs.Content.{content}
use Rattle.model_driver.specs.Driver.{reply_shown}
use Rattle.stream_model.specs.Plans.{DevicePlan}
use Rattle.threaded_replay.specs.Files.{file_parts}
use Rattle.device_shard.specs.declared.plan.Plan.{Plan}
use Rattle.device_shard.specs.Plans.{plan_content}
use Rattle.device_shard.specs.Sets.{log_of}
use Rattle.stream_plans.specs.Cuts.{devices_cut}
use Rattle.stream_workers.specs.Work.{course}
use Rattle.stream_run.specs.Preparing.{calls_of_file}
use Rattle.stream_run.specs.Spending.{tokens_held}
use Rattle.stream_run.specs.Working.{IsLeft}
use Rattle.stream_run.proofs.Answering.{map_of_seats}
use Rattle.stream_run.proofs.Ran.{devices_named_by, has_run}
use Rattle.stream_run.proofs.Ready.{plans_are}
use Rattle.stream_run.proofs.Seen.{own_logs}
use Rattle.stream_run.proofs.run.run_on.Goals as goal

pub work_on-requires-clause-can : goal.work_on-requires-clause-can
work_on-requires-clause-can g c κs within =
    let file = file_parts c.args.file.now in
    let can = c.a_ready_file_can_be_run.ensures.can _ file c.args.prepared g.N.ShardNames.shards c.requires.ready c.requires.prepared c.requires.names c.requires.logs in
    (file, c.requires.prepared, can, c.requires.seats)

pub close_all-requires : goal.close_all-requires
close_all-requires g c =
    let file = file_parts c.args.file.now in
    let names = g.N.ShardNames.shards in
    let plans = map plan_content c.args.prepared.plans.items in
    let can = c.a_ready_file_can_be_run.ensures.can _ file c.args.prepared names c.requires.ready c.requires.prepared c.requires.names c.requires.logs in
    let worked = c.in_ok-set.ensures.worked file c.requires.prepared can c.requires.seats in
    let same = c.deref.ensures.value ∙ ap (λ v. v.items) c.in_ok-set.ensures.plans in
    subst (λ (ps : List Plan). AllByRecursion (λ (t : Name × SeenView). log_of names t.0 ≡ Some t.1.log) (flat_map (λ w. tokens_held (map (λ (p : DevicePlan). p.device) (map plan_content ps)) w.tokens.items) c.in_ok-set.workers.items)) (sym same)
    (own_logs g.D.SharedDriver.room g.D.SharedDriver.log (course names g.N.ShardNames.clock plans) (map (λ (p : DevicePlan). p.device) plans) (calls_of_file file) worked.old c.in_ok-set.workers.items worked.done can.cut.distinct
    (devices_named_by _ plans names c.requires.names))

pub returns-clause-ran : goal.returns-clause-ran
returns-clause-ran g c =
    let file = file_parts c.args.file.now in
    let names = g.N.ShardNames.shards in
    let plans = map plan_content c.args.prepared.plans.items in
    let can = c.a_ready_file_can_be_run.ensures.can _ file c.args.prepared names c.requires.ready c.requires.prepared c.requires.names c.requires.logs in
    let worked = c.in_ok-set.ensures.worked file c.requires.prepared can c.requires.seats in
    let same = c.deref.ensures.value ∙ ap (λ v. v.items) c.in_ok-set.ensures.plans in
    let ran = c.in_ok-ran.ran in
    let workers = c.in_ok-set.workers.items in
    let left = subst (λ (ps : List Plan). IsLeft names (map plan_content ps) workers ran.0.logs.items) same c.in_ok-ran.ensures.left in
    has_run g.D.SharedDriver.room g.D.SharedDriver.log _ file names g.N.ShardNames.clock plans worked.old workers c.args.seats.items ran.0.logs.items (map content ran.0.events.items) (map reply_shown ran.0.replies.items) ran.1.items
    (map (λ w. w.sent.items) workers) worked.done c.requires.ready c.requires.names (plans_are file plans (devices_cut file) c.requires.prepared.cut c.requires.prepared.devices) c.requires.prepared.devices can.cut.distinct worked.own left refl
    c.in_ok-ran.ensures.seats c.in_ok-ran.ensures.gathered c.what_was_made_is_a_merge.ensures.merge c.what_was_made_is_a_merge.ensures.each

-- each seat answers as it did
pub returns-clause-policy : goal.returns-clause-policy
returns-clause-policy g c =
    let answers_by = g.D.SharedDriver.answers_by in
    ap (map answers_by) c.in_ok-ran.ensures.seats ∙ (map_of_seats answers_by c.in_ok-set.workers.items ∙ c.in_ok-set.ensures.policy)
