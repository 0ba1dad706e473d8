use Rattle.std.proofs.Common.{◌≡◌, ◌+◌, ◌-◌, Some, None, List, [], ◌∷◌, ◌++◌, set, length, map, is_some, refl, sym, ◌∙◌, ap, subst, arith}
use Rattle.std.specs.Prelude.{slice_get}
use Rattle.std.proofs.lemmas.List.{set-set}
use Rattle.stream_log.specs.Clock.{tick_view}
use Rattle.stream_log.specs.Log.{SeenView}
use Rattle.trace_format.specs.Content.{TraceEvent, Begin, content}
use Rattle.model_driver.specs.Driver.{call_shown}
use Rattle.dispatch_chain.specs.Seats.{kinds_of}
use Rattle.device_shard.specs.Plans.{plan_content}
use Rattle.device_shard.specs.Refs.{number_at}
use Rattle.device_shard.specs.Shards.{ShardName}
use Rattle.device_shard.specs.Steps.{HasRoomForBegin, OfBegin}
use Rattle.device_shard.proofs.Lists.{all_at}
use Rattle.stream_workers.specs.Steps.{BeginsAt}
use Rattle.stream_workers.specs.Work.{Course, course}
use Rattle.stream_workers.proofs.Opening.{coming, has_begun}
use Rattle.stream_workers.proofs.Reading.{count_fits, count_read, event_is, event_needs, here_at, log_is, name_is, next_is, number_is, own_thread, plan_read, plan_within, token_is, token_needs}
use Rattle.stream_workers.proofs.calls.begin_call.Goals as goal

pub bounds-plans-place : goal.bounds-plans-place
bounds-plans-place g c =
    let names : List ShardName = g.N.ShardNames.shards in
    let k : Course = course names g.N.ShardNames.clock (map plan_content c.args.plans.now) in
    let r = c.requires.ready in
    let x = coming r.0 k r.1 r.2 c.args.worker.now r.3 in
    plan_within c.args.plans.now names r.1.place c.args.place x.name c.requires.course.0.plans r.4 x.here

pub event_in-event-requires : goal.event_in-event-requires
event_in-event-requires g c =
    let names : List ShardName = g.N.ShardNames.shards in
    let k : Course = course names g.N.ShardNames.clock (map plan_content c.args.plans.now) in
    let r = c.requires.ready in
    let x = coming r.0 k r.1 r.2 c.args.worker.now r.3 in
    let plan = plan_read c.args.plans.now names r.1.place c.args.place c.index-plans-place.result x.name c.requires.course.0.plans r.4 x.here c.index-plans-place.is in
    let count = count_read c.args.worker.now.made.items names r.1.place c.args.place c.index.result.now x.name r.3.holds.made_are r.4 x.here c.index.ensures in
    event_needs r.0 k r.1 r.2 c.args.worker.now r.3 c.args.place r.4 c.index-plans-place.result c.index.result.now plan count

pub token_from-seen-requires : goal.token_from-seen-requires
token_from-seen-requires g c =
    let k : Course = course g.N.ShardNames.shards g.N.ShardNames.clock (map plan_content c.args.plans.now) in
    let r = c.requires.ready in
    token_needs r.0 k r.1 r.2 c.args.worker.now r.3 c.args.place r.4

pub begin_on-begun-requires-clause-table : goal.begin_on-begun-requires-clause-table
begin_on-begun-requires-clause-table g c κs within n here = all_at (λ (m : ShardName). c.args.table.now.rows ≡ kinds_of m.start.parts.states.kept) g.N.ShardNames.shards (number_at c.unwrap-shard.result) n c.requires.course.1 here

pub begin_on-begun-requires-clause-plan : goal.begin_on-begun-requires-clause-plan
begin_on-begun-requires-clause-plan g c κs within n here =
    let names : List ShardName = g.N.ShardNames.shards in
    let number = number_is number_at c.lock_at.result c.unwrap-shard.result c.args.place (length names) c.lock_at.ensures c.unwrap-shard.ensures in
    plan_read c.args.plans.now names (number_at c.unwrap-shard.result) c.args.place c.index-plans-place.result n c.requires.course.0.plans number here c.index-plans-place.is

pub begin_on-begun-requires-clause-log : goal.begin_on-begun-requires-clause-log
begin_on-begun-requires-clause-log g c κs within n here =
    let names : List ShardName = g.N.ShardNames.shards in
    let number = number_is number_at c.lock_at.result c.unwrap-shard.result c.args.place (length names) c.lock_at.ensures c.unwrap-shard.ensures in
    log_is (λ l. l.now) c.log_at.result c.unwrap-log.result names c.args.place n c.log_at.ensures c.unwrap-log.ensures (ap (slice_get names) (sym number) ∙ here)

pub begin_on-begun-requires-clause-seen : goal.begin_on-begun-requires-clause-seen
begin_on-begun-requires-clause-seen g c κs within =
    let names : List ShardName = g.N.ShardNames.shards in
    let k : Course = course names g.N.ShardNames.clock (map plan_content c.args.plans.now) in
    let r = c.requires.ready in
    let x = coming r.0 k r.1 r.2 c.args.worker.now r.3 in
    let plan = plan_read c.args.plans.now names r.1.place c.args.place c.index-plans-place.result x.name c.requires.course.0.plans r.4 x.here c.index-plans-place.is in
    let count = count_read c.args.worker.now.made.items names r.1.place c.args.place c.index.result.now x.name r.3.holds.made_are r.4 x.here c.index.ensures in
    let event = event_is r.0 k r.1 r.2 c.args.worker.now r.3 c.args.place r.4 c.index-plans-place.result c.index.result.now (content c.event_in-event.result.now) plan count c.event_in-event.ensures in
    let seen = token_is r.0 k r.1 r.2 c.args.worker.now r.3 c.args.place r.4 c.token_from-seen.result c.token_from-seen.ensures.token in
    let log = log_is (λ l. l.now) c.log_at.result c.unwrap-log.result names c.args.place x.name c.log_at.ensures c.unwrap-log.ensures (ap (slice_get names) (sym r.4) ∙ x.here) in (
      ap (λ (s : SeenView). s.log) seen ∙ sym log,
      ap (λ (s : SeenView). s.thread) seen,
      own_thread r.0 k r.1 r.2 c.args.worker.now r.3 c.args.place r.4 (content c.event_in-event.result.now) event,
    )

pub begin_on-begun-requires-clause-next : goal.begin_on-begun-requires-clause-next
begin_on-begun-requires-clause-next g c κs within n here =
    let names : List ShardName = g.N.ShardNames.shards in
    let k : Course = course names g.N.ShardNames.clock (map plan_content c.args.plans.now) in
    let r = c.requires.ready in
    let x = coming r.0 k r.1 r.2 c.args.worker.now r.3 in
    let plan = plan_read c.args.plans.now names r.1.place c.args.place c.index-plans-place.result x.name c.requires.course.0.plans r.4 x.here c.index-plans-place.is in
    let count = count_read c.args.worker.now.made.items names r.1.place c.args.place c.index.result.now x.name r.3.holds.made_are r.4 x.here c.index.ensures in
    let event = event_is r.0 k r.1 r.2 c.args.worker.now r.3 c.args.place r.4 c.index-plans-place.result c.index.result.now (content c.event_in-event.result.now) plan count c.event_in-event.ensures in
    let seen = token_is r.0 k r.1 r.2 c.args.worker.now r.3 c.args.place r.4 c.token_from-seen.result c.token_from-seen.ensures.token in
    let number = number_is number_at c.lock_at.result c.unwrap-shard.result c.args.place (length names) c.lock_at.ensures c.unwrap-shard.ensures in
    let name = name_is r.0 k r.1 r.2 c.args.worker.now r.3 c.args.place r.4 (number_at c.unwrap-shard.result) n number here in
    next_is r.0 k r.1 r.2 c.args.worker.now r.3 c.args.place r.4 n c.token_from-seen.result (content c.event_in-event.result.now) name seen event

pub begin_on-begun-requires-clause-room : goal.begin_on-begun-requires-clause-room
begin_on-begun-requires-clause-room g c κs within =
    let names : List ShardName = g.N.ShardNames.shards in
    let k : Course = course names g.N.ShardNames.clock (map plan_content c.args.plans.now) in
    let r = c.requires.ready in
    let x = coming r.0 k r.1 r.2 c.args.worker.now r.3 in
    let plan = plan_read c.args.plans.now names r.1.place c.args.place c.index-plans-place.result x.name c.requires.course.0.plans r.4 x.here c.index-plans-place.is in
    let count = count_read c.args.worker.now.made.items names r.1.place c.args.place c.index.result.now x.name r.3.holds.made_are r.4 x.here c.index.ensures in
    let event = event_is r.0 k r.1 r.2 c.args.worker.now r.3 c.args.place r.4 c.index-plans-place.result c.index.result.now (content c.event_in-event.result.now) plan count c.event_in-event.ensures in
    subst (OfBegin (HasRoomForBegin c.args.worker.now.call.body)) (sym event) r.3.room_is.fit.0.0

pub overflow_add-index_mut : goal.overflow_add-index_mut
overflow_add-index_mut g c =
    let names : List ShardName = g.N.ShardNames.shards in
    let k : Course = course names g.N.ShardNames.clock (map plan_content c.args.plans.now) in
    let r = c.requires.ready in
    let x = coming r.0 k r.1 r.2 c.args.worker.now r.3 in
    let count = count_read c.args.worker.now.made.items names r.1.place c.args.place c.index_mut-2.result.now x.name r.3.holds.made_are r.4 x.here c.index_mut-2.ensures.value in
    let fits = count_fits r.0 k r.1 r.2 c.args.worker.now r.3 c.args.place r.4 c.index_mut-2.result.now c.requires.course.0 count in omega (arith, fits)

pub returns-clause-begun : goal.returns-clause-begun
returns-clause-begun g c room p rest ready place_is =
    let names : List ShardName = g.N.ShardNames.shards in
    let k : Course = course names g.N.ShardNames.clock (map plan_content c.args.plans.now) in
    let w = c.args.worker.now in
    let x = coming room k p rest w ready in
    let plan = plan_read c.args.plans.now names p.place c.args.place c.index-plans-place.result x.name c.requires.course.0.plans place_is x.here c.index-plans-place.is in
    let count = count_read w.made.items names p.place c.args.place c.index.result.now x.name ready.holds.made_are place_is x.here c.index.ensures in
    let event = event_is room k p rest w ready c.args.place place_is c.index-plans-place.result c.index.result.now (content c.event_in-event.result.now) plan count c.event_in-event.ensures in
    let seen = token_is room k p rest w ready c.args.place place_is c.token_from-seen.result c.token_from-seen.ensures.token in
    let number = number_is number_at c.lock_at.result c.unwrap-shard.result c.args.place (length names) c.lock_at.ensures c.unwrap-shard.ensures in
    let begun = c.begin_on-begun.ensures.begun x.name (here_at room k p rest w ready c.args.place place_is (number_at c.unwrap-shard.result) number) in
    let at = subst (λ (s : SeenView). BeginsAt x.name s (Begin p.begin) (call_shown c.begin_on-begun.new.out) w.tick.seen c.begin_on-begun.result) seen
    (subst (λ (e : TraceEvent). BeginsAt x.name c.token_from-seen.result e (call_shown c.begin_on-begun.new.out) w.tick.seen c.begin_on-begun.result) event begun) in
    let more = count_read w.made.items names p.place c.args.place c.index_mut-2.result.now x.name ready.holds.made_are place_is x.here c.index_mut-2.ensures.value in
    let seen_set = Some c.begin_on-begun.result.seen in
    let tokens = ap (λ ss. set ss c.args.place seen_set) c.token_from-seen.ensures.slots ∙ (set-set w.tokens.items c.args.place None seen_set ∙ ap (λ i. set w.tokens.items i seen_set) (sym place_is)) in
    let made = ap (λ i. set w.made.items i (c.index_mut-2.result.now + 1)) (sym place_is) ∙ ap (λ m. set w.made.items p.place (m + 1)) more in
    let tick = c.begin_on-begun.ensures.tick ∙ ap (λ t. tick_view t (w.tick.left - 1) c.begin_on-begun.result.time) c.requires.course.2 in
    let marks = c.push_reserved.ensures.items ∙ ap (λ u. w.sent.items ++ u ∷ []) c.is_some.ensures in
    has_begun room k p rest w _ ready x c.begin_on-begun.result at refl tick c.begin_on-begun.ensures.out tokens made marks c.push_reserved.ensures.len c.push_reserved.ensures.capacity
