use Rattle.std.proofs.Common.{◌≡◌, ◌+◌, ◌-◌, Some, None, List, set, length, map, refl, sym, ◌∙◌, ap, subst, arith}
use Rattle.std.specs.Prelude.{slice_get}
use Rattle.std.proofs.lemmas.List.{set-set}
use Rattle.std.proofs.lemmas.Option.{slice_get_within}
use Rattle.stream_log.specs.Clock.{tick_view}
use Rattle.stream_log.specs.Log.{SeenView}
use Rattle.model_driver.specs.Driver.{reply_shown}
use Rattle.dispatch_chain.specs.Seats.{kinds_of}
use Rattle.device_shard.specs.Plans.{plan_content}
use Rattle.device_shard.specs.Refs.{number_at}
use Rattle.device_shard.specs.Shards.{ShardName}
use Rattle.device_shard.proofs.Lists.{all_at}
use Rattle.stream_workers.specs.Steps.{ReturnsAt}
use Rattle.stream_workers.specs.Work.{Course, course}
use Rattle.stream_workers.proofs.Reading.{count_read, is_there, log_is, log_there, number_is, open_fits, open_here, open_name, open_next, open_replied, open_token, open_token_needs, plan_read, plan_within}
use Rattle.stream_workers.proofs.Returning.{has_returned}
use Rattle.stream_workers.proofs.calls.end_call.Goals as goal

pub unwrap-shard-requires : goal.unwrap-shard-requires
unwrap-shard-requires g c =
    let names : List ShardName = g.N.ShardNames.shards in
    let k : Course = course names g.N.ShardNames.clock (map plan_content c.args.plans.now) in
    let r = c.requires.replied in
    is_there number_at c.lock_at.result c.args.place (length names) c.lock_at.ensures (slice_get_within names c.args.place r.3.opened.begun.name (open_here r.0 k r.1 r.2 c.args.worker.now r.3 c.args.place r.4 c.args.place refl))

pub unwrap-log-requires : goal.unwrap-log-requires
unwrap-log-requires g c =
    let names : List ShardName = g.N.ShardNames.shards in
    let k : Course = course names g.N.ShardNames.clock (map plan_content c.args.plans.now) in
    let r = c.requires.replied in
    log_there (λ l. l.now) c.log_at.result names c.args.place r.3.opened.begun.name c.log_at.ensures (open_here r.0 k r.1 r.2 c.args.worker.now r.3 c.args.place r.4 c.args.place refl)

pub bounds-plans-place : goal.bounds-plans-place
bounds-plans-place g c =
    let names : List ShardName = g.N.ShardNames.shards in
    let k : Course = course names g.N.ShardNames.clock (map plan_content c.args.plans.now) in
    let r = c.requires.replied in
    plan_within c.args.plans.now names c.args.place c.args.place r.3.opened.begun.name c.requires.course.0.plans refl (open_here r.0 k r.1 r.2 c.args.worker.now r.3 c.args.place r.4 c.args.place refl)

pub token_from-seen-requires : goal.token_from-seen-requires
token_from-seen-requires g c =
    let k : Course = course g.N.ShardNames.shards g.N.ShardNames.clock (map plan_content c.args.plans.now) in
    let r = c.requires.replied in
    open_token_needs r.0 k r.1 r.2 c.args.worker.now r.3 c.args.place r.4

pub return_on-time-requires-clause-table : goal.return_on-time-requires-clause-table
return_on-time-requires-clause-table g c κs within n here = all_at (λ (m : ShardName). c.args.table.now.rows ≡ kinds_of m.start.parts.states.kept) g.N.ShardNames.shards (number_at c.unwrap-shard.result) n c.requires.course.1 here

pub return_on-time-requires-clause-plan : goal.return_on-time-requires-clause-plan
return_on-time-requires-clause-plan g c κs within n here =
    let names : List ShardName = g.N.ShardNames.shards in
    let number = number_is number_at c.lock_at.result c.unwrap-shard.result c.args.place (length names) c.lock_at.ensures c.unwrap-shard.ensures in
    plan_read c.args.plans.now names (number_at c.unwrap-shard.result) c.args.place c.index-plans-place.result n c.requires.course.0.plans number here c.index-plans-place.is

pub return_on-time-requires-clause-log : goal.return_on-time-requires-clause-log
return_on-time-requires-clause-log g c κs within n here =
    let names : List ShardName = g.N.ShardNames.shards in
    let number = number_is number_at c.lock_at.result c.unwrap-shard.result c.args.place (length names) c.lock_at.ensures c.unwrap-shard.ensures in
    log_is (λ l. l.now) c.log_at.result c.unwrap-log.result names c.args.place n c.log_at.ensures c.unwrap-log.ensures (ap (slice_get names) (sym number) ∙ here)

pub return_on-time-requires-clause-seen : goal.return_on-time-requires-clause-seen
return_on-time-requires-clause-seen g c κs within =
    let names : List ShardName = g.N.ShardNames.shards in
    let k : Course = course names g.N.ShardNames.clock (map plan_content c.args.plans.now) in
    let r = c.requires.replied in
    let seen = open_token r.0 k r.1 r.2 c.args.worker.now r.3 c.args.place r.4 c.token_from-seen.result c.token_from-seen.ensures.token in
    let log = log_is (λ l. l.now) c.log_at.result c.unwrap-log.result names c.args.place r.3.opened.begun.name c.log_at.ensures c.unwrap-log.ensures (ap (slice_get names) (sym r.4) ∙ r.3.opened.begun.is) in
    (ap (λ (s : SeenView). s.log) seen ∙ sym log, ap (λ (s : SeenView). s.thread) seen)

pub return_on-time-requires-clause-next : goal.return_on-time-requires-clause-next
return_on-time-requires-clause-next g c κs within n here =
    let names : List ShardName = g.N.ShardNames.shards in
    let k : Course = course names g.N.ShardNames.clock (map plan_content c.args.plans.now) in
    let r = c.requires.replied in
    let seen = open_token r.0 k r.1 r.2 c.args.worker.now r.3 c.args.place r.4 c.token_from-seen.result c.token_from-seen.ensures.token in
    let number = number_is number_at c.lock_at.result c.unwrap-shard.result c.args.place (length names) c.lock_at.ensures c.unwrap-shard.ensures in
    let name = open_name r.0 k r.1 r.2 c.args.worker.now r.3 c.args.place r.4 (number_at c.unwrap-shard.result) n number here in
    open_next r.0 k r.1 r.2 c.args.worker.now r.3 c.args.place r.4 n c.token_from-seen.result name seen

pub return_on-time-requires-clause-reply : goal.return_on-time-requires-clause-reply
return_on-time-requires-clause-reply g c κs within n here =
    let names : List ShardName = g.N.ShardNames.shards in
    let k : Course = course names g.N.ShardNames.clock (map plan_content c.args.plans.now) in
    let r = c.requires.replied in
    let seen = open_token r.0 k r.1 r.2 c.args.worker.now r.3 c.args.place r.4 c.token_from-seen.result c.token_from-seen.ensures.token in
    let number = number_is number_at c.lock_at.result c.unwrap-shard.result c.args.place (length names) c.lock_at.ensures c.unwrap-shard.ensures in
    let name = open_name r.0 k r.1 r.2 c.args.worker.now r.3 c.args.place r.4 (number_at c.unwrap-shard.result) n number here in
    open_replied r.0 k r.1 r.2 c.args.worker.now r.3 c.args.place r.4 n c.token_from-seen.result name seen

pub overflow_add-index_mut : goal.overflow_add-index_mut
overflow_add-index_mut g c =
    let names : List ShardName = g.N.ShardNames.shards in
    let k : Course = course names g.N.ShardNames.clock (map plan_content c.args.plans.now) in
    let r = c.requires.replied in
    let count = count_read c.args.worker.now.made.items names r.1.place c.args.place c.index_mut-2.result.now r.3.opened.begun.name r.3.opened.holds.made_are r.4 r.3.opened.begun.is c.index_mut-2.ensures.value in
    let fits = open_fits r.0 k r.1 r.2 c.args.worker.now r.3 c.args.place r.4 c.index_mut-2.result.now c.requires.course.0 count in omega (arith, fits)

pub returns-clause-returned : goal.returns-clause-returned
returns-clause-returned g c room b rest open_ place_is =
    let names : List ShardName = g.N.ShardNames.shards in
    let k : Course = course names g.N.ShardNames.clock (map plan_content c.args.plans.now) in
    let w = c.args.worker.now in
    let name : ShardName = open_.opened.begun.name in
    let seen = open_token room k b rest w open_ c.args.place place_is c.token_from-seen.result c.token_from-seen.ensures.token in
    let number = number_is number_at c.lock_at.result c.unwrap-shard.result c.args.place (length names) c.lock_at.ensures c.unwrap-shard.ensures in
    let returned = c.return_on-time.ensures.returned name (open_here room k b rest w open_ c.args.place place_is (number_at c.unwrap-shard.result) number) in
    let at = subst (λ (s : SeenView). ReturnsAt name s (reply_shown w.reply) w.tick.seen c.return_on-time.result.0 c.return_on-time.result.1) seen returned in
    let more = count_read w.made.items names b.place c.args.place c.index_mut-2.result.now name open_.opened.holds.made_are place_is open_.opened.begun.is c.index_mut-2.ensures.value in
    let seen_set = Some c.return_on-time.result.1 in
    let tokens = ap (λ ss. set ss c.args.place seen_set) c.token_from-seen.ensures.slots ∙ (set-set w.tokens.items c.args.place None seen_set ∙ ap (λ i. set w.tokens.items i seen_set) (sym place_is)) in
    let made = ap (λ i. set w.made.items i (c.index_mut-2.result.now + 1)) (sym place_is) ∙ ap (λ m. set w.made.items b.place (m + 1)) more in
    let tick = c.return_on-time.ensures.tick ∙ ap (λ t. tick_view t (w.tick.left - 1) c.return_on-time.result.0) c.requires.course.2 in
    has_returned room k b rest w _ open_ c.return_on-time.result.0 c.return_on-time.result.1 at refl tick tokens made
