use Rattle.std.proofs.Common.{◌≡◌, ◌==◌, ◌<◌, ◌≤◌, ◌+◌, ◌^◌, ℕ, true, List, [], ◌∷◌, ◌++◌, sym, ◌∙◌, ap, subst, arith}
use Rattle.std.specs.Prelude.{IsSome, find, slice_get, vec_capacity}
use Rattle.std.specs.Prelude.{Contains, reverse, slice_set}
use Rattle.std.specs.Option.{is_none}
use Rattle.model_driver.specs.Driver.{call_shown}
use Rattle.session_parts.specs.Room.{HasRoomToEnterAt, LosesNoRoom}
use Rattle.shard_model.specs.Replays.{Tells}
use Rattle.device_shard.specs.Steps.{OfBegin, told_as}
use Rattle.device_shard.proofs.Lists.{one}
use Rattle.stream_log.specs.declared.line.Line.{Line}
use Rattle.stream_log.specs.Clock.{TickView, tick_view}
use Rattle.stream_log.specs.Log.{OwnerView, appended, given, last_time, line, taken}
use Rattle.trace_format.specs.Content.{TraceEvent, content}
use Rattle.stream_model.specs.FileParts.{StreamPart}
use Rattle.stream_model.specs.Order.{event_thread}
use Rattle.stream_model.specs.Plans.{DevicePlan}
use Rattle.device_shard.specs.declared.lane.Lane.{Lane}
use Rattle.device_shard.specs.Plans.{plan_content}
use Rattle.device_shard.specs.Shards.{IsShard, ShardKept, ShardName}
use Rattle.device_shard.proofs.Stepping.{HasStepped, held_now, kept_as, lane_is, may_step, next_known, step_can, step_entries, step_one, step_room, step_stays, step_steps, step_tells, step_told, step_within}
use Rattle.device_shard.proofs.Streams.{has_stream, next_there}
use Rattle.device_shard.proofs.shard.Shard.begin_step.Goals as goal

pub place_in-place-requires : goal.place_in-place-requires
place_in-place-requires g c =
    let n : ShardName = c.self.invariant.0 in
    let is = c.self.invariant.2 in
    let e : TraceEvent = content c.args.event.now in
    let next = next_known n c.args.seen.list c.self.inside.owner.list c.args.seen.thread (event_thread e) e c.take.ensures.past c.requires.seen.1 (c.requires.next n c.self.invariant.1) in
    subst (λ (p : DevicePlan). IsSome (find (λ (q : StreamPart). q.thread == c.thread_at-thread.result) p.streams)) (sym (c.requires.plan n c.self.invariant.1))
    (subst (λ (t : ℕ). IsSome (find (λ (q : StreamPart). q.thread == t) n.plan.streams)) (sym c.thread_at-thread.ensures) (has_stream n.plan.streams (event_thread e) c.self.inside.owner.list e next))

pub index_mut-requires : goal.index_mut-requires
index_mut-requires g c =
    let n : ShardName = c.self.invariant.0 in
    let is = c.self.invariant.2 in
    let e : TraceEvent = content c.args.event.now in
    let next = next_known n c.args.seen.list c.self.inside.owner.list c.args.seen.thread (event_thread e) e c.take.ensures.past c.requires.seen.1 (c.requires.next n c.self.invariant.1) in
    let x : ShardKept = kept_as c.self.inside.owner c.self.inside.tick c.self.inside.parts c.self.inside.lanes.items c.self.inside.calls (vec_capacity c.self.inside.results) n.plan in
    let i : ℕ = c.place_in-place.result in
    let there = next_there n (event_thread e) i x.owner.list e
    (subst (λ (p : DevicePlan). slice_get p.streams i ≡ find (λ (q : StreamPart). q.thread == event_thread e) p.streams) (c.requires.plan n c.self.invariant.1)
    (subst (λ (t : ℕ). slice_get (plan_content c.args.plan.now).streams i ≡ find (λ (q : StreamPart). q.thread == t) (plan_content c.args.plan.now).streams) c.thread_at-thread.ensures c.place_in-place.ensures)) next in
    let m = may_step c.a_begin_is_a_step.ensures.can n g.N.ShardNames.clock x c.args.out.now.body e i there.0 is there.1 c.requires.room in
    let within = step_within x c.args.out.now.body i e m in omega (arith, within)

pub enter_lane-driver-requires-clause-can : goal.enter_lane-driver-requires-clause-can
enter_lane-driver-requires-clause-can g c =
    let n : ShardName = c.self.invariant.0 in
    let is = c.self.invariant.2 in
    let e : TraceEvent = content c.args.event.now in
    let next = next_known n c.args.seen.list c.self.inside.owner.list c.args.seen.thread (event_thread e) e c.take.ensures.past c.requires.seen.1 (c.requires.next n c.self.invariant.1) in
    let x : ShardKept = kept_as c.self.inside.owner c.self.inside.tick c.self.inside.parts c.self.inside.lanes.items c.self.inside.calls (vec_capacity c.self.inside.results) n.plan in
    let i : ℕ = c.place_in-place.result in
    let there = next_there n (event_thread e) i x.owner.list e
    (subst (λ (p : DevicePlan). slice_get p.streams i ≡ find (λ (q : StreamPart). q.thread == event_thread e) p.streams) (c.requires.plan n c.self.invariant.1)
    (subst (λ (t : ℕ). slice_get (plan_content c.args.plan.now).streams i ≡ find (λ (q : StreamPart). q.thread == t) (plan_content c.args.plan.now).streams) c.thread_at-thread.ensures c.place_in-place.ensures)) next in
    let m = may_step c.a_begin_is_a_step.ensures.can n g.N.ShardNames.clock x c.args.out.now.body e i there.0 is there.1 c.requires.room in
    step_can x c.args.out.now.body i e m

pub enter_lane-driver-requires-clause-room : goal.enter_lane-driver-requires-clause-room
enter_lane-driver-requires-clause-room g c =
    let n : ShardName = c.self.invariant.0 in
    let is = c.self.invariant.2 in
    let e : TraceEvent = content c.args.event.now in
    let next = next_known n c.args.seen.list c.self.inside.owner.list c.args.seen.thread (event_thread e) e c.take.ensures.past c.requires.seen.1 (c.requires.next n c.self.invariant.1) in
    let x : ShardKept = kept_as c.self.inside.owner c.self.inside.tick c.self.inside.parts c.self.inside.lanes.items c.self.inside.calls (vec_capacity c.self.inside.results) n.plan in
    let i : ℕ = c.place_in-place.result in
    let there = next_there n (event_thread e) i x.owner.list e
    (subst (λ (p : DevicePlan). slice_get p.streams i ≡ find (λ (q : StreamPart). q.thread == event_thread e) p.streams) (c.requires.plan n c.self.invariant.1)
    (subst (λ (t : ℕ). slice_get (plan_content c.args.plan.now).streams i ≡ find (λ (q : StreamPart). q.thread == t) (plan_content c.args.plan.now).streams) c.thread_at-thread.ensures c.place_in-place.ensures)) next in
    let m = may_step c.a_begin_is_a_step.ensures.can n g.N.ShardNames.clock x c.args.out.now.body e i there.0 is there.1 c.requires.room in
    let lane : c.index_mut.result.now ≡ m.lane = lane_is x c.args.out.now.body i e m c.index_mut.result.now c.index_mut.ensures.value in
    subst (λ (l : Lane). HasRoomToEnterAt x.parts (x.calls + 1) e l.call l.held (vec_capacity l.verdict.findings)) (sym lane) (step_room x c.args.out.now.body i e m)

pub enter_lane-driver-requires-clause-one : goal.enter_lane-driver-requires-clause-one
enter_lane-driver-requires-clause-one g c =
    let n : ShardName = c.self.invariant.0 in
    let is = c.self.invariant.2 in
    let e : TraceEvent = content c.args.event.now in
    let next = next_known n c.args.seen.list c.self.inside.owner.list c.args.seen.thread (event_thread e) e c.take.ensures.past c.requires.seen.1 (c.requires.next n c.self.invariant.1) in
    let x : ShardKept = kept_as c.self.inside.owner c.self.inside.tick c.self.inside.parts c.self.inside.lanes.items c.self.inside.calls (vec_capacity c.self.inside.results) n.plan in
    let i : ℕ = c.place_in-place.result in
    let there = next_there n (event_thread e) i x.owner.list e
    (subst (λ (p : DevicePlan). slice_get p.streams i ≡ find (λ (q : StreamPart). q.thread == event_thread e) p.streams) (c.requires.plan n c.self.invariant.1)
    (subst (λ (t : ℕ). slice_get (plan_content c.args.plan.now).streams i ≡ find (λ (q : StreamPart). q.thread == t) (plan_content c.args.plan.now).streams) c.thread_at-thread.ensures c.place_in-place.ensures)) next in
    let m = may_step c.a_begin_is_a_step.ensures.can n g.N.ShardNames.clock x c.args.out.now.body e i there.0 is there.1 c.requires.room in
    step_one x c.args.out.now.body i e m

pub enter_lane-driver-requires-clause-steps : goal.enter_lane-driver-requires-clause-steps
enter_lane-driver-requires-clause-steps g c =
    let n : ShardName = c.self.invariant.0 in
    let is = c.self.invariant.2 in
    let e : TraceEvent = content c.args.event.now in
    let next = next_known n c.args.seen.list c.self.inside.owner.list c.args.seen.thread (event_thread e) e c.take.ensures.past c.requires.seen.1 (c.requires.next n c.self.invariant.1) in
    let x : ShardKept = kept_as c.self.inside.owner c.self.inside.tick c.self.inside.parts c.self.inside.lanes.items c.self.inside.calls (vec_capacity c.self.inside.results) n.plan in
    let i : ℕ = c.place_in-place.result in
    let there = next_there n (event_thread e) i x.owner.list e
    (subst (λ (p : DevicePlan). slice_get p.streams i ≡ find (λ (q : StreamPart). q.thread == event_thread e) p.streams) (c.requires.plan n c.self.invariant.1)
    (subst (λ (t : ℕ). slice_get (plan_content c.args.plan.now).streams i ≡ find (λ (q : StreamPart). q.thread == t) (plan_content c.args.plan.now).streams) c.thread_at-thread.ensures c.place_in-place.ensures)) next in
    let m = may_step c.a_begin_is_a_step.ensures.can n g.N.ShardNames.clock x c.args.out.now.body e i there.0 is there.1 c.requires.room in
    let lane : c.index_mut.result.now ≡ m.lane = lane_is x c.args.out.now.body i e m c.index_mut.result.now c.index_mut.ensures.value in
    subst (λ (l : Lane). l.steps < 2 ^ 32) (sym lane) (step_steps x c.args.out.now.body i e m)

pub append-requires-clause-held : goal.append-requires-clause-held
append-requires-clause-held g c =
    let n : ShardName = c.self.invariant.0 in
    let is = c.self.invariant.2 in
    let e : TraceEvent = content c.args.event.now in
    let next = next_known n c.args.seen.list c.self.inside.owner.list c.args.seen.thread (event_thread e) e c.take.ensures.past c.requires.seen.1 (c.requires.next n c.self.invariant.1) in
    let own : c.take.new.self.held ≡ c.self.inside.owner.held ++ c.thread_at-thread.result ∷ [] = ap (λ (o : OwnerView). o.held) c.take.ensures.owner ∙ ap (λ t. c.self.inside.owner.held ++ t ∷ []) (c.requires.seen.1 ∙ sym c.thread_at-thread.ensures) in
    subst (λ (ts : List ℕ). Contains ts c.thread_at-thread.result) (sym own) (held_now c.self.inside.owner.held c.thread_at-thread.result)

pub append-requires-clause-room : goal.append-requires-clause-room
append-requires-clause-room g c =
    let n : ShardName = c.self.invariant.0 in
    let is = c.self.invariant.2 in
    let e : TraceEvent = content c.args.event.now in
    let next = next_known n c.args.seen.list c.self.inside.owner.list c.args.seen.thread (event_thread e) e c.take.ensures.past c.requires.seen.1 (c.requires.next n c.self.invariant.1) in
    let x : ShardKept = kept_as c.self.inside.owner c.self.inside.tick c.self.inside.parts c.self.inside.lanes.items c.self.inside.calls (vec_capacity c.self.inside.results) n.plan in
    let i : ℕ = c.place_in-place.result in
    let there = next_there n (event_thread e) i x.owner.list e
    (subst (λ (p : DevicePlan). slice_get p.streams i ≡ find (λ (q : StreamPart). q.thread == event_thread e) p.streams) (c.requires.plan n c.self.invariant.1)
    (subst (λ (t : ℕ). slice_get (plan_content c.args.plan.now).streams i ≡ find (λ (q : StreamPart). q.thread == t) (plan_content c.args.plan.now).streams) c.thread_at-thread.ensures c.place_in-place.ensures)) next in
    let m = may_step c.a_begin_is_a_step.ensures.can n g.N.ShardNames.clock x c.args.out.now.body e i there.0 is there.1 c.requires.room in
    (subst (λ k. 0 < k) (sym (ap (λ (o : OwnerView). o.entries) c.take.ensures.owner)) (step_entries x c.args.out.now.body i e m), omega arith)

pub give-seen-requires-clause-held : goal.give-seen-requires-clause-held
give-seen-requires-clause-held g c =
    let n : ShardName = c.self.invariant.0 in
    let is = c.self.invariant.2 in
    let e : TraceEvent = content c.args.event.now in
    let next = next_known n c.args.seen.list c.self.inside.owner.list c.args.seen.thread (event_thread e) e c.take.ensures.past c.requires.seen.1 (c.requires.next n c.self.invariant.1) in
    let own : c.append.new.self.held ≡ c.self.inside.owner.held ++ c.thread_at-thread.result ∷ [] =
    ap (λ (o : OwnerView). o.held) c.append.ensures ∙ (ap (λ (o : OwnerView). o.held) c.take.ensures.owner ∙ ap (λ t. c.self.inside.owner.held ++ t ∷ []) (c.requires.seen.1 ∙ sym c.thread_at-thread.ensures)) in
    subst (λ (ts : List ℕ). Contains ts c.thread_at-thread.result) (sym own) (held_now c.self.inside.owner.held c.thread_at-thread.result)

pub invariant_of-self : goal.invariant_of-self
invariant_of-self g c =
    let n : ShardName = c.self.invariant.0 in
    let is = c.self.invariant.2 in
    let e : TraceEvent = content c.args.event.now in
    let next = next_known n c.args.seen.list c.self.inside.owner.list c.args.seen.thread (event_thread e) e c.take.ensures.past c.requires.seen.1 (c.requires.next n c.self.invariant.1) in
    let x : ShardKept = kept_as c.self.inside.owner c.self.inside.tick c.self.inside.parts c.self.inside.lanes.items c.self.inside.calls (vec_capacity c.self.inside.results) n.plan in
    let i : ℕ = c.place_in-place.result in
    let there = next_there n (event_thread e) i x.owner.list e
    (subst (λ (p : DevicePlan). slice_get p.streams i ≡ find (λ (q : StreamPart). q.thread == event_thread e) p.streams) (c.requires.plan n c.self.invariant.1)
    (subst (λ (t : ℕ). slice_get (plan_content c.args.plan.now).streams i ≡ find (λ (q : StreamPart). q.thread == t) (plan_content c.args.plan.now).streams) c.thread_at-thread.ensures c.place_in-place.ensures)) next in
    let m = may_step c.a_begin_is_a_step.ensures.can n g.N.ShardNames.clock x c.args.out.now.body e i there.0 is there.1 c.requires.room in
    let lane : c.index_mut.result.now ≡ m.lane = lane_is x c.args.out.now.body i e m c.index_mut.result.now c.index_mut.ensures.value in
    let stepped : HasStepped x e m.lane c.enter_lane-driver.new.lane c.enter_lane-driver.new.parts = record {
      enters = c.enter_lane-driver.ensures.enters;
      room = subst (λ (l : Lane). LosesNoRoom x.parts l.call l.held l.verdict c.enter_lane-driver.new.parts c.enter_lane-driver.new.lane.call c.enter_lane-driver.new.lane.held c.enter_lane-driver.new.lane.verdict) lane c.enter_lane-driver.ensures.room;
      kinds = c.enter_lane-driver.ensures.kinds;
      steps = c.enter_lane-driver.ensures.steps ∙ ap (λ (l : Lane). l.steps + 1) lane;
    } in
    let time : ℕ = c.draw_time-time.result in
    let seen : last_time x.owner.list ≤ c.self.inside.tick.seen = is.seen in
    let drawn = c.draw_time-time.ensures.time.1 in
    let later : last_time x.owner.list < time = omega (arith, seen, drawn) in
    let stays = step_stays n g.N.ShardNames.clock x c.args.out.now.body i there.0 c.enter_lane-driver.new.lane c.enter_lane-driver.new.parts is c.a_begin_is_a_step.ensures.stays e m time there.1 stepped later in
    let taken_so : c.take.new.self ≡ taken x.owner (event_thread e) = c.take.ensures.owner ∙ ap (taken x.owner) c.requires.seen.1 in
    let appended_so = c.append.ensures ∙ (ap (λ (o : OwnerView). appended o (line c.thread_at-thread.result time true [])) taken_so ∙ ap (λ t. appended (taken x.owner (event_thread e)) (line t time true [])) c.thread_at-thread.ensures) in
    let owner : c.give-seen.new.self ≡ given (appended (taken x.owner (event_thread e)) (line (event_thread e) time true [])) (event_thread e) =
    c.give-seen.ensures.owner ∙ (ap (λ (o : OwnerView). given o c.thread_at-thread.result) appended_so ∙ ap (given (appended (taken x.owner (event_thread e)) (line (event_thread e) time true []))) c.thread_at-thread.ensures) in
    let tick : c.draw_time-time.new.own ≡ record { clock = x.tick.clock; left = 0; seen = time } = c.draw_time-time.ensures.own ∙ ap (λ k. tick_view k 0 time) (c.requires.clock ∙ sym is.clock) in (
      n,
      c.self.invariant.1,
      subst (λ (o : OwnerView). IsShard n g.N.ShardNames.clock (kept_as o c.draw_time-time.new.own c.enter_lane-driver.new.parts (slice_set x.lanes i c.enter_lane-driver.new.lane) (x.calls + 1) x.results x.plan)) (sym owner)
          (subst (λ (t : TickView). IsShard n g.N.ShardNames.clock (kept_as (given (appended (taken x.owner (event_thread e)) (line (event_thread e) time true [])) (event_thread e)) t c.enter_lane-driver.new.parts (slice_set x.lanes i c.enter_lane-driver.new.lane) (x.calls + 1) x.results x.plan)) (sym tick) stays),
    )

pub returns-clause-tells : goal.returns-clause-tells
returns-clause-tells g c other at =
    let n : ShardName = c.self.invariant.0 in
    let is = c.self.invariant.2 in
    let e : TraceEvent = content c.args.event.now in
    let next = next_known n c.args.seen.list c.self.inside.owner.list c.args.seen.thread (event_thread e) e c.take.ensures.past c.requires.seen.1 (c.requires.next n c.self.invariant.1) in
    let x : ShardKept = kept_as c.self.inside.owner c.self.inside.tick c.self.inside.parts c.self.inside.lanes.items c.self.inside.calls (vec_capacity c.self.inside.results) n.plan in
    let i : ℕ = c.place_in-place.result in
    let there = next_there n (event_thread e) i x.owner.list e
    (subst (λ (p : DevicePlan). slice_get p.streams i ≡ find (λ (q : StreamPart). q.thread == event_thread e) p.streams) (c.requires.plan n c.self.invariant.1)
    (subst (λ (t : ℕ). slice_get (plan_content c.args.plan.now).streams i ≡ find (λ (q : StreamPart). q.thread == t) (plan_content c.args.plan.now).streams) c.thread_at-thread.ensures c.place_in-place.ensures)) next in
    let m = may_step c.a_begin_is_a_step.ensures.can n g.N.ShardNames.clock x c.args.out.now.body e i there.0 is there.1 c.requires.room in
    let lane : c.index_mut.result.now ≡ m.lane = lane_is x c.args.out.now.body i e m c.index_mut.result.now c.index_mut.ensures.value in
    let stepped : HasStepped x e m.lane c.enter_lane-driver.new.lane c.enter_lane-driver.new.parts = record {
      enters = c.enter_lane-driver.ensures.enters;
      room = subst (λ (l : Lane). LosesNoRoom x.parts l.call l.held l.verdict c.enter_lane-driver.new.parts c.enter_lane-driver.new.lane.call c.enter_lane-driver.new.lane.held c.enter_lane-driver.new.lane.verdict) lane c.enter_lane-driver.ensures.room;
      kinds = c.enter_lane-driver.ensures.kinds;
      steps = c.enter_lane-driver.ensures.steps ∙ ap (λ (l : Lane). l.steps + 1) lane;
    } in
    let tells = step_tells n g.N.ShardNames.clock x c.args.out.now.body i there.0 c.enter_lane-driver.new.lane c.enter_lane-driver.new.parts is c.a_begin_is_a_step.ensures.tells e m _ _ there.1 stepped c.enter_lane-driver.ensures.skip c.enter_lane-driver.ensures.tells in
    let same : n ≡ other = one n other (sym c.self.invariant.1 ∙ at) in
    subst (λ (list : List Line). OfBegin (λ b. Tells other.start other.plan.streams (reverse list) b (is_none c.enter_lane-driver.result) (told_as c.enter_lane-driver.result (call_shown c.enter_lane-driver.new.out))) e) c.self.view_is
    (subst (λ (q : ShardName). OfBegin (λ b. Tells q.start q.plan.streams (reverse x.owner.list) b (is_none c.enter_lane-driver.result) (told_as c.enter_lane-driver.result (call_shown c.enter_lane-driver.new.out))) e) same tells)

pub returns-clause-told : goal.returns-clause-told
returns-clause-told g c goes =
    let n : ShardName = c.self.invariant.0 in
    let is = c.self.invariant.2 in
    let e : TraceEvent = content c.args.event.now in
    let next = next_known n c.args.seen.list c.self.inside.owner.list c.args.seen.thread (event_thread e) e c.take.ensures.past c.requires.seen.1 (c.requires.next n c.self.invariant.1) in
    let x : ShardKept = kept_as c.self.inside.owner c.self.inside.tick c.self.inside.parts c.self.inside.lanes.items c.self.inside.calls (vec_capacity c.self.inside.results) n.plan in
    let i : ℕ = c.place_in-place.result in
    let there = next_there n (event_thread e) i x.owner.list e
    (subst (λ (p : DevicePlan). slice_get p.streams i ≡ find (λ (q : StreamPart). q.thread == event_thread e) p.streams) (c.requires.plan n c.self.invariant.1)
    (subst (λ (t : ℕ). slice_get (plan_content c.args.plan.now).streams i ≡ find (λ (q : StreamPart). q.thread == t) (plan_content c.args.plan.now).streams) c.thread_at-thread.ensures c.place_in-place.ensures)) next in
    let m = may_step c.a_begin_is_a_step.ensures.can n g.N.ShardNames.clock x c.args.out.now.body e i there.0 is there.1 c.requires.room in
    let lane : c.index_mut.result.now ≡ m.lane = lane_is x c.args.out.now.body i e m c.index_mut.result.now c.index_mut.ensures.value in
    let stepped : HasStepped x e m.lane c.enter_lane-driver.new.lane c.enter_lane-driver.new.parts = record {
      enters = c.enter_lane-driver.ensures.enters;
      room = subst (λ (l : Lane). LosesNoRoom x.parts l.call l.held l.verdict c.enter_lane-driver.new.parts c.enter_lane-driver.new.lane.call c.enter_lane-driver.new.lane.held c.enter_lane-driver.new.lane.verdict) lane c.enter_lane-driver.ensures.room;
      kinds = c.enter_lane-driver.ensures.kinds;
      steps = c.enter_lane-driver.ensures.steps ∙ ap (λ (l : Lane). l.steps + 1) lane;
    } in
    step_told n g.N.ShardNames.clock x c.args.out.now.body i there.0 c.enter_lane-driver.new.lane c.enter_lane-driver.new.parts is c.a_begin_is_a_step.ensures.told e m c.enter_lane-driver.result (call_shown c.enter_lane-driver.new.out) there.1 stepped c.enter_lane-driver.ensures.skip
    c.enter_lane-driver.ensures.tells goes
