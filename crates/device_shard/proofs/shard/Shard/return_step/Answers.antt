use Rattle.std.proofs.Common.{◌≡◌, ◌==◌, ◌<◌, ◌≤◌, ◌+◌, ◌-◌, ◌^◌, ℕ, Bool, false, Some, List, [], ◌∷◌, ◌++◌, length, refl, sym, ◌∙◌, ap, subst, arith}
use Rattle.std.specs.Prelude.{Contains, IsSome, find, slice_get, slice_set, vec_capacity}
use Rattle.command_tables.specs.Calls.{ReplyContent, call_content}
use Rattle.model_driver.specs.Driver.{reply_shown}
use Rattle.stream_log.specs.declared.line.Line.{Line}
use Rattle.stream_log.specs.Clock.{TickView, tick_view}
use Rattle.stream_log.specs.Log.{IsPast, OwnerView, appended, given, last_time, line, taken}
use Rattle.trace_format.specs.Content.{TraceEvent, Begin, Return, content}
use Rattle.stream_model.specs.FileParts.{StreamPart}
use Rattle.stream_model.specs.Plans.{DevicePlan}
use Rattle.session_parts.specs.Leaving.{CanLeaveAt, LeavesAt}
use Rattle.session_parts.specs.Room.{HasRoomToLeaveAt, TakesResultsAt}
use Rattle.device_shard.specs.declared.lane.Lane.{Lane}
use Rattle.device_shard.specs.Lanes.{replies_read}
use Rattle.device_shard.specs.Plans.{plan_content}
use Rattle.device_shard.specs.Shards.{IsShard, ShardKept, ShardName}
use Rattle.device_shard.specs.Steps.{AreResults}
use Rattle.device_shard.specs.Turns.{HasReturned, results_read}
use Rattle.device_shard.proofs.Lists.{one}
use Rattle.std.proofs.lemmas.Option.{get_or_from_slice_get, slice_get_within}
use Rattle.device_shard.proofs.Stepping.{MayReturnAt, back_then, begin_is, held_now, kept_as, may_return_at, next_known, read_few}
use Rattle.device_shard.proofs.Streams.{has_stream, next_there}
use Rattle.device_shard.proofs.shard.Shard.return_step.Goals as goal

pub place_in-place-requires : goal.place_in-place-requires
place_in-place-requires g c =
    let n : ShardName = c.self.invariant.0 in
    let is = c.self.invariant.2 in
    let t : ℕ = c.args.thread in
    let past : IsPast t c.args.seen.list c.self.inside.owner.list = subst (λ u. IsPast u c.args.seen.list c.self.inside.owner.list) c.requires.seen.1 c.take.ensures.past in
    let next = next_known n c.args.seen.list c.self.inside.owner.list t t (Return t) past refl (c.requires.next n c.self.invariant.1) in
    subst (λ (p : DevicePlan). IsSome (find (λ (q : StreamPart). q.thread == t) p.streams)) (sym (c.requires.plan n c.self.invariant.1)) (has_stream n.plan.streams t c.self.inside.owner.list (Return t) next)

pub index_mut-lane-requires : goal.index_mut-lane-requires
index_mut-lane-requires g c =
    let n : ShardName = c.self.invariant.0 in
    let is = c.self.invariant.2 in
    let t : ℕ = c.args.thread in
    let past : IsPast t c.args.seen.list c.self.inside.owner.list = subst (λ u. IsPast u c.args.seen.list c.self.inside.owner.list) c.requires.seen.1 c.take.ensures.past in
    let next = next_known n c.args.seen.list c.self.inside.owner.list t t (Return t) past refl (c.requires.next n c.self.invariant.1) in
    let x : ShardKept = kept_as c.self.inside.owner c.self.inside.tick c.self.inside.parts c.self.inside.lanes.items c.self.inside.calls (vec_capacity c.self.inside.results) n.plan in
    let i : ℕ = c.place_in-place.result in
    let reply : ReplyContent = reply_shown c.args.reply.now in
    let there = next_there n t i x.owner.list (Return t) (subst (λ (p : DevicePlan). slice_get p.streams i ≡ find (λ (q : StreamPart). q.thread == t) p.streams) (c.requires.plan n c.self.invariant.1) c.place_in-place.ensures) next in
    let s : StreamPart = there.0 in
    let here : slice_get (plan_content c.args.plan.now).streams i ≡ Some s = ap (λ (p : DevicePlan). slice_get p.streams i) (c.requires.plan n c.self.invariant.1) ∙ there.1.here in
    let m : MayReturnAt x s i reply = may_return_at c.a_return_is_a_step.ensures.can n g.N.ShardNames.clock x t i s c.args.seen reply is there.1 past c.requires.seen.1 (c.requires.reply n c.self.invariant.1) in
    let within = slice_get_within x.lanes i m.lane m.can.at in omega (arith, within)

pub overflow_sub-lane : goal.overflow_sub-lane
overflow_sub-lane g c =
    let n : ShardName = c.self.invariant.0 in
    let is = c.self.invariant.2 in
    let t : ℕ = c.args.thread in
    let past : IsPast t c.args.seen.list c.self.inside.owner.list = subst (λ u. IsPast u c.args.seen.list c.self.inside.owner.list) c.requires.seen.1 c.take.ensures.past in
    let next = next_known n c.args.seen.list c.self.inside.owner.list t t (Return t) past refl (c.requires.next n c.self.invariant.1) in
    let x : ShardKept = kept_as c.self.inside.owner c.self.inside.tick c.self.inside.parts c.self.inside.lanes.items c.self.inside.calls (vec_capacity c.self.inside.results) n.plan in
    let i : ℕ = c.place_in-place.result in
    let reply : ReplyContent = reply_shown c.args.reply.now in
    let there = next_there n t i x.owner.list (Return t) (subst (λ (p : DevicePlan). slice_get p.streams i ≡ find (λ (q : StreamPart). q.thread == t) p.streams) (c.requires.plan n c.self.invariant.1) c.place_in-place.ensures) next in
    let s : StreamPart = there.0 in
    let here : slice_get (plan_content c.args.plan.now).streams i ≡ Some s = ap (λ (p : DevicePlan). slice_get p.streams i) (c.requires.plan n c.self.invariant.1) ∙ there.1.here in
    let m : MayReturnAt x s i reply = may_return_at c.a_return_is_a_step.ensures.can n g.N.ShardNames.clock x t i s c.args.seen reply is there.1 past c.requires.seen.1 (c.requires.reply n c.self.invariant.1) in
    let lane : c.index_mut-lane.result.now ≡ m.lane = c.index_mut-lane.ensures.value ∙ get_or_from_slice_get x.lanes i m.lane c.index_mut-lane.result.now m.can.at in
    subst (λ (l : Lane). 1 ≤ l.steps) (sym lane) (let made = m.can.made in omega (arith, made))

pub event_in-begin-requires : goal.event_in-begin-requires
event_in-begin-requires g c =
    let n : ShardName = c.self.invariant.0 in
    let is = c.self.invariant.2 in
    let t : ℕ = c.args.thread in
    let past : IsPast t c.args.seen.list c.self.inside.owner.list = subst (λ u. IsPast u c.args.seen.list c.self.inside.owner.list) c.requires.seen.1 c.take.ensures.past in
    let next = next_known n c.args.seen.list c.self.inside.owner.list t t (Return t) past refl (c.requires.next n c.self.invariant.1) in
    let x : ShardKept = kept_as c.self.inside.owner c.self.inside.tick c.self.inside.parts c.self.inside.lanes.items c.self.inside.calls (vec_capacity c.self.inside.results) n.plan in
    let i : ℕ = c.place_in-place.result in
    let reply : ReplyContent = reply_shown c.args.reply.now in
    let there = next_there n t i x.owner.list (Return t) (subst (λ (p : DevicePlan). slice_get p.streams i ≡ find (λ (q : StreamPart). q.thread == t) p.streams) (c.requires.plan n c.self.invariant.1) c.place_in-place.ensures) next in
    let s : StreamPart = there.0 in
    let here : slice_get (plan_content c.args.plan.now).streams i ≡ Some s = ap (λ (p : DevicePlan). slice_get p.streams i) (c.requires.plan n c.self.invariant.1) ∙ there.1.here in
    let m : MayReturnAt x s i reply = may_return_at c.a_return_is_a_step.ensures.can n g.N.ShardNames.clock x t i s c.args.seen reply is there.1 past c.requires.seen.1 (c.requires.reply n c.self.invariant.1) in
    let lane : c.index_mut-lane.result.now ≡ m.lane = c.index_mut-lane.ensures.value ∙ get_or_from_slice_get x.lanes i m.lane c.index_mut-lane.result.now m.can.at in
    let made = m.can.made in
    let far = slice_get_within s.events m.can.place (Begin m.begin) m.can.begin in
    (s, here, subst (λ (l : Lane). l.steps - 1 < length s.events) (sym lane) (omega (arith, made, far)))

pub leave_lane-requires-clause-can : goal.leave_lane-requires-clause-can
leave_lane-requires-clause-can g c =
    let n : ShardName = c.self.invariant.0 in
    let is = c.self.invariant.2 in
    let t : ℕ = c.args.thread in
    let past : IsPast t c.args.seen.list c.self.inside.owner.list = subst (λ u. IsPast u c.args.seen.list c.self.inside.owner.list) c.requires.seen.1 c.take.ensures.past in
    let next = next_known n c.args.seen.list c.self.inside.owner.list t t (Return t) past refl (c.requires.next n c.self.invariant.1) in
    let x : ShardKept = kept_as c.self.inside.owner c.self.inside.tick c.self.inside.parts c.self.inside.lanes.items c.self.inside.calls (vec_capacity c.self.inside.results) n.plan in
    let i : ℕ = c.place_in-place.result in
    let reply : ReplyContent = reply_shown c.args.reply.now in
    let there = next_there n t i x.owner.list (Return t) (subst (λ (p : DevicePlan). slice_get p.streams i ≡ find (λ (q : StreamPart). q.thread == t) p.streams) (c.requires.plan n c.self.invariant.1) c.place_in-place.ensures) next in
    let s : StreamPart = there.0 in
    let here : slice_get (plan_content c.args.plan.now).streams i ≡ Some s = ap (λ (p : DevicePlan). slice_get p.streams i) (c.requires.plan n c.self.invariant.1) ∙ there.1.here in
    let m : MayReturnAt x s i reply = may_return_at c.a_return_is_a_step.ensures.can n g.N.ShardNames.clock x t i s c.args.seen reply is there.1 past c.requires.seen.1 (c.requires.reply n c.self.invariant.1) in
    let lane : c.index_mut-lane.result.now ≡ m.lane = c.index_mut-lane.ensures.value ∙ get_or_from_slice_get x.lanes i m.lane c.index_mut-lane.result.now m.can.at in
    let begin : content c.event_in-begin.result.now ≡ Begin m.begin = begin_is x s c.event_in-begin.ensures.0 (plan_content c.args.plan.now).streams i reply m (content c.event_in-begin.result.now) here c.event_in-begin.ensures.1
    (subst (λ (l : Lane). slice_get c.event_in-begin.ensures.0.events (l.steps - 1) ≡ Some (content c.event_in-begin.result.now)) lane c.event_in-begin.ensures.2) in
    subst (λ (e : TraceEvent). CanLeaveAt x.parts e (call_content c.index_mut-lane.result.now.call) c.index_mut-lane.result.now.held c.index_mut-lane.result.now.verdict.skip (replies_read c.index_mut-lane.result.now.verdict.skip reply)) (sym begin)
    (subst (λ (l : Lane). CanLeaveAt x.parts (Begin m.begin) (call_content l.call) l.held l.verdict.skip (replies_read l.verdict.skip reply)) (sym lane) m.can.can)

pub leave_lane-requires-clause-room : goal.leave_lane-requires-clause-room
leave_lane-requires-clause-room g c =
    let n : ShardName = c.self.invariant.0 in
    let is = c.self.invariant.2 in
    let t : ℕ = c.args.thread in
    let past : IsPast t c.args.seen.list c.self.inside.owner.list = subst (λ u. IsPast u c.args.seen.list c.self.inside.owner.list) c.requires.seen.1 c.take.ensures.past in
    let next = next_known n c.args.seen.list c.self.inside.owner.list t t (Return t) past refl (c.requires.next n c.self.invariant.1) in
    let x : ShardKept = kept_as c.self.inside.owner c.self.inside.tick c.self.inside.parts c.self.inside.lanes.items c.self.inside.calls (vec_capacity c.self.inside.results) n.plan in
    let i : ℕ = c.place_in-place.result in
    let reply : ReplyContent = reply_shown c.args.reply.now in
    let there = next_there n t i x.owner.list (Return t) (subst (λ (p : DevicePlan). slice_get p.streams i ≡ find (λ (q : StreamPart). q.thread == t) p.streams) (c.requires.plan n c.self.invariant.1) c.place_in-place.ensures) next in
    let s : StreamPart = there.0 in
    let here : slice_get (plan_content c.args.plan.now).streams i ≡ Some s = ap (λ (p : DevicePlan). slice_get p.streams i) (c.requires.plan n c.self.invariant.1) ∙ there.1.here in
    let m : MayReturnAt x s i reply = may_return_at c.a_return_is_a_step.ensures.can n g.N.ShardNames.clock x t i s c.args.seen reply is there.1 past c.requires.seen.1 (c.requires.reply n c.self.invariant.1) in
    let lane : c.index_mut-lane.result.now ≡ m.lane = c.index_mut-lane.ensures.value ∙ get_or_from_slice_get x.lanes i m.lane c.index_mut-lane.result.now m.can.at in
    let begin : content c.event_in-begin.result.now ≡ Begin m.begin = begin_is x s c.event_in-begin.ensures.0 (plan_content c.args.plan.now).streams i reply m (content c.event_in-begin.result.now) here c.event_in-begin.ensures.1
    (subst (λ (l : Lane). slice_get c.event_in-begin.ensures.0.events (l.steps - 1) ≡ Some (content c.event_in-begin.result.now)) lane c.event_in-begin.ensures.2) in
    subst (λ (e : TraceEvent). HasRoomToLeaveAt x.parts e (call_content c.index_mut-lane.result.now.call) c.index_mut-lane.result.now.verdict.skip x.results) (sym begin)
    (subst (λ (l : Lane). HasRoomToLeaveAt x.parts (Begin m.begin) (call_content l.call) l.verdict.skip x.results) (sym lane) m.can.room)

pub leave_lane-requires-clause-steps : goal.leave_lane-requires-clause-steps
leave_lane-requires-clause-steps g c =
    let n : ShardName = c.self.invariant.0 in
    let is = c.self.invariant.2 in
    let t : ℕ = c.args.thread in
    let past : IsPast t c.args.seen.list c.self.inside.owner.list = subst (λ u. IsPast u c.args.seen.list c.self.inside.owner.list) c.requires.seen.1 c.take.ensures.past in
    let next = next_known n c.args.seen.list c.self.inside.owner.list t t (Return t) past refl (c.requires.next n c.self.invariant.1) in
    let x : ShardKept = kept_as c.self.inside.owner c.self.inside.tick c.self.inside.parts c.self.inside.lanes.items c.self.inside.calls (vec_capacity c.self.inside.results) n.plan in
    let i : ℕ = c.place_in-place.result in
    let reply : ReplyContent = reply_shown c.args.reply.now in
    let there = next_there n t i x.owner.list (Return t) (subst (λ (p : DevicePlan). slice_get p.streams i ≡ find (λ (q : StreamPart). q.thread == t) p.streams) (c.requires.plan n c.self.invariant.1) c.place_in-place.ensures) next in
    let s : StreamPart = there.0 in
    let here : slice_get (plan_content c.args.plan.now).streams i ≡ Some s = ap (λ (p : DevicePlan). slice_get p.streams i) (c.requires.plan n c.self.invariant.1) ∙ there.1.here in
    let m : MayReturnAt x s i reply = may_return_at c.a_return_is_a_step.ensures.can n g.N.ShardNames.clock x t i s c.args.seen reply is there.1 past c.requires.seen.1 (c.requires.reply n c.self.invariant.1) in
    let lane : c.index_mut-lane.result.now ≡ m.lane = c.index_mut-lane.ensures.value ∙ get_or_from_slice_get x.lanes i m.lane c.index_mut-lane.result.now m.can.at in
    subst (λ (l : Lane). l.steps < 2 ^ 32) (sym lane) m.can.steps

pub append-requires-clause-held : goal.append-requires-clause-held
append-requires-clause-held g c =
    let n : ShardName = c.self.invariant.0 in
    let is = c.self.invariant.2 in
    let t : ℕ = c.args.thread in
    let past : IsPast t c.args.seen.list c.self.inside.owner.list = subst (λ u. IsPast u c.args.seen.list c.self.inside.owner.list) c.requires.seen.1 c.take.ensures.past in
    let next = next_known n c.args.seen.list c.self.inside.owner.list t t (Return t) past refl (c.requires.next n c.self.invariant.1) in
    let own : c.take.new.self.held ≡ c.self.inside.owner.held ++ t ∷ [] = ap (λ (o : OwnerView). o.held) c.take.ensures.owner ∙ ap (λ u. c.self.inside.owner.held ++ u ∷ []) c.requires.seen.1 in
    subst (λ (ts : List ℕ). Contains ts t) (sym own) (held_now c.self.inside.owner.held t)

pub append-requires-clause-room : goal.append-requires-clause-room
append-requires-clause-room g c =
    let n : ShardName = c.self.invariant.0 in
    let is = c.self.invariant.2 in
    let t : ℕ = c.args.thread in
    let past : IsPast t c.args.seen.list c.self.inside.owner.list = subst (λ u. IsPast u c.args.seen.list c.self.inside.owner.list) c.requires.seen.1 c.take.ensures.past in
    let next = next_known n c.args.seen.list c.self.inside.owner.list t t (Return t) past refl (c.requires.next n c.self.invariant.1) in
    let x : ShardKept = kept_as c.self.inside.owner c.self.inside.tick c.self.inside.parts c.self.inside.lanes.items c.self.inside.calls (vec_capacity c.self.inside.results) n.plan in
    let i : ℕ = c.place_in-place.result in
    let reply : ReplyContent = reply_shown c.args.reply.now in
    let there = next_there n t i x.owner.list (Return t) (subst (λ (p : DevicePlan). slice_get p.streams i ≡ find (λ (q : StreamPart). q.thread == t) p.streams) (c.requires.plan n c.self.invariant.1) c.place_in-place.ensures) next in
    let s : StreamPart = there.0 in
    let here : slice_get (plan_content c.args.plan.now).streams i ≡ Some s = ap (λ (p : DevicePlan). slice_get p.streams i) (c.requires.plan n c.self.invariant.1) ∙ there.1.here in
    let m : MayReturnAt x s i reply = may_return_at c.a_return_is_a_step.ensures.can n g.N.ShardNames.clock x t i s c.args.seen reply is there.1 past c.requires.seen.1 (c.requires.reply n c.self.invariant.1) in
    let lane : c.index_mut-lane.result.now ≡ m.lane = c.index_mut-lane.ensures.value ∙ get_or_from_slice_get x.lanes i m.lane c.index_mut-lane.result.now m.can.at in
    let skips : c.leave_lane.new.lane.verdict.skip ≡ m.lane.verdict.skip = ap (λ (l : Lane). l.verdict.skip) c.leave_lane.ensures.steps ∙ ap (λ (l : Lane). l.verdict.skip) lane in
    let handles : c.handles_read-handles.result.now ≡ results_read m.lane.verdict.skip reply = c.handles_read-handles.ensures ∙ ap (λ (u : Bool). results_read u reply) skips in
    let few : length (results_read m.lane.verdict.skip reply) ≤ x.owner.results = read_few m.lane.verdict.skip reply x.owner.results m.can.results in (
      subst (λ k. 0 < k) (sym (ap (λ (o : OwnerView). o.entries) c.take.ensures.owner)) m.can.entries,
      subst (λ k. length c.handles_read-handles.result.now ≤ k) (sym (ap (λ (o : OwnerView). o.results) c.take.ensures.owner)) (subst (λ (hs : List ℕ). length hs ≤ x.owner.results) (sym handles) few),
    )

pub give-seen-requires-clause-held : goal.give-seen-requires-clause-held
give-seen-requires-clause-held g c =
    let n : ShardName = c.self.invariant.0 in
    let is = c.self.invariant.2 in
    let t : ℕ = c.args.thread in
    let past : IsPast t c.args.seen.list c.self.inside.owner.list = subst (λ u. IsPast u c.args.seen.list c.self.inside.owner.list) c.requires.seen.1 c.take.ensures.past in
    let next = next_known n c.args.seen.list c.self.inside.owner.list t t (Return t) past refl (c.requires.next n c.self.invariant.1) in
    let own : c.append.new.self.held ≡ c.self.inside.owner.held ++ t ∷ [] =
    ap (λ (o : OwnerView). o.held) c.append.ensures ∙ (ap (λ (o : OwnerView). o.held) c.take.ensures.owner ∙ ap (λ u. c.self.inside.owner.held ++ u ∷ []) c.requires.seen.1) in
    subst (λ (ts : List ℕ). Contains ts t) (sym own) (held_now c.self.inside.owner.held t)

pub invariant_of-self : goal.invariant_of-self
invariant_of-self g c =
    let n : ShardName = c.self.invariant.0 in
    let is = c.self.invariant.2 in
    let t : ℕ = c.args.thread in
    let past : IsPast t c.args.seen.list c.self.inside.owner.list = subst (λ u. IsPast u c.args.seen.list c.self.inside.owner.list) c.requires.seen.1 c.take.ensures.past in
    let next = next_known n c.args.seen.list c.self.inside.owner.list t t (Return t) past refl (c.requires.next n c.self.invariant.1) in
    let x : ShardKept = kept_as c.self.inside.owner c.self.inside.tick c.self.inside.parts c.self.inside.lanes.items c.self.inside.calls (vec_capacity c.self.inside.results) n.plan in
    let i : ℕ = c.place_in-place.result in
    let reply : ReplyContent = reply_shown c.args.reply.now in
    let there = next_there n t i x.owner.list (Return t) (subst (λ (p : DevicePlan). slice_get p.streams i ≡ find (λ (q : StreamPart). q.thread == t) p.streams) (c.requires.plan n c.self.invariant.1) c.place_in-place.ensures) next in
    let s : StreamPart = there.0 in
    let here : slice_get (plan_content c.args.plan.now).streams i ≡ Some s = ap (λ (p : DevicePlan). slice_get p.streams i) (c.requires.plan n c.self.invariant.1) ∙ there.1.here in
    let m : MayReturnAt x s i reply = may_return_at c.a_return_is_a_step.ensures.can n g.N.ShardNames.clock x t i s c.args.seen reply is there.1 past c.requires.seen.1 (c.requires.reply n c.self.invariant.1) in
    let lane : c.index_mut-lane.result.now ≡ m.lane = c.index_mut-lane.ensures.value ∙ get_or_from_slice_get x.lanes i m.lane c.index_mut-lane.result.now m.can.at in
    let begin : content c.event_in-begin.result.now ≡ Begin m.begin = begin_is x s c.event_in-begin.ensures.0 (plan_content c.args.plan.now).streams i reply m (content c.event_in-begin.result.now) here c.event_in-begin.ensures.1
    (subst (λ (l : Lane). slice_get c.event_in-begin.ensures.0.events (l.steps - 1) ≡ Some (content c.event_in-begin.result.now)) lane c.event_in-begin.ensures.2) in
    let skips : c.leave_lane.new.lane.verdict.skip ≡ m.lane.verdict.skip = ap (λ (l : Lane). l.verdict.skip) c.leave_lane.ensures.steps ∙ ap (λ (l : Lane). l.verdict.skip) lane in
    let handles : c.handles_read-handles.result.now ≡ results_read m.lane.verdict.skip reply = c.handles_read-handles.ensures ∙ ap (λ (u : Bool). results_read u reply) skips in
    let left = subst (λ (e : TraceEvent). LeavesAt x.parts e (call_content c.index_mut-lane.result.now.call) c.index_mut-lane.result.now.held c.index_mut-lane.result.now.verdict.skip (replies_read c.index_mut-lane.result.now.verdict.skip reply) c.leave_lane.new.parts c.leave_lane.ensures.leaves.0) begin c.leave_lane.ensures.leaves.1 in
    let took = subst (λ (e : TraceEvent). TakesResultsAt x.parts e (call_content c.index_mut-lane.result.now.call) c.index_mut-lane.result.now.verdict.skip c.leave_lane.new.parts) begin c.leave_lane.ensures.takes in
    let has : HasReturned x m.begin i m.lane c.leave_lane.new.parts reply c.leave_lane.ensures.leaves.0 = record {
      at = m.can.at;
      leaves = subst (λ (l : Lane). LeavesAt x.parts (Begin m.begin) (call_content l.call) l.held l.verdict.skip (replies_read l.verdict.skip reply) c.leave_lane.new.parts c.leave_lane.ensures.leaves.0) lane left;
      takes = subst (λ (l : Lane). TakesResultsAt x.parts (Begin m.begin) (call_content l.call) l.verdict.skip c.leave_lane.new.parts) lane took;
      kinds = c.leave_lane.ensures.kinds;
    } in
    let time : ℕ = c.draw_time-time.result in
    let taken_so : c.take.new.self ≡ taken x.owner t = c.take.ensures.owner ∙ ap (taken x.owner) c.requires.seen.1 in
    let appended_so : c.append.new.self ≡ appended (taken x.owner t) (line t time false (results_read m.lane.verdict.skip reply)) =
    c.append.ensures ∙ (ap (λ (o : OwnerView). appended o (line t time false c.handles_read-handles.result.now)) taken_so ∙ ap (λ (hs : List ℕ). appended (taken x.owner t) (line t time false hs)) handles) in
    let owner : c.give-seen.new.self ≡ given (appended (taken x.owner t) (line t time false (results_read m.lane.verdict.skip reply))) t = c.give-seen.ensures.owner ∙ ap (λ (o : OwnerView). given o t) appended_so in
    let seen : last_time x.owner.list ≤ c.self.inside.tick.seen = is.seen in
    let drawn = c.draw_time-time.ensures.time.1 in
    let later : last_time x.owner.list < time = omega (arith, seen, drawn) in
    let stays = c.a_return_is_a_step.ensures.stays n g.N.ShardNames.clock x t i s c.args.seen reply m.lane m.begin c.leave_lane.new.parts c.leave_lane.ensures.leaves.0 time (vec_capacity c.leave_lane.new.results) is there.1 past c.requires.seen.1 (c.requires.reply n c.self.invariant.1) m.can has later c.leave_lane.ensures.results in
    let tick : c.draw_time-time.new.own ≡ record { clock = x.tick.clock; left = 0; seen = time } = c.draw_time-time.ensures.own ∙ ap (λ k. tick_view k 0 time) (c.requires.clock ∙ sym is.clock) in
    let new : c.leave_lane.new.lane ≡ record m.lane { steps = m.lane.steps + 1 } = c.leave_lane.ensures.steps ∙ ap (λ (l : Lane). record l { steps = l.steps + 1 }) lane in
    let results : ℕ = vec_capacity c.leave_lane.new.results in (
      n,
      c.self.invariant.1,
      subst (λ (o : OwnerView). IsShard n g.N.ShardNames.clock (kept_as o c.draw_time-time.new.own c.leave_lane.new.parts (slice_set x.lanes i c.leave_lane.new.lane) x.calls results x.plan)) (sym owner)
          (subst (λ (k : TickView). IsShard n g.N.ShardNames.clock (kept_as (given (appended (taken x.owner t) (line t time false (results_read m.lane.verdict.skip reply))) t) k c.leave_lane.new.parts (slice_set x.lanes i c.leave_lane.new.lane) x.calls results x.plan)) (sym tick)
          (subst (λ (l : Lane). IsShard n g.N.ShardNames.clock (back_then x t i l c.leave_lane.new.parts (results_read m.lane.verdict.skip reply) time results)) (sym new) stays)),
    )

pub returns-clause-entry : goal.returns-clause-entry
returns-clause-entry g c =
    let n : ShardName = c.self.invariant.0 in
    let is = c.self.invariant.2 in
    let t : ℕ = c.args.thread in
    let past : IsPast t c.args.seen.list c.self.inside.owner.list = subst (λ u. IsPast u c.args.seen.list c.self.inside.owner.list) c.requires.seen.1 c.take.ensures.past in
    let next = next_known n c.args.seen.list c.self.inside.owner.list t t (Return t) past refl (c.requires.next n c.self.invariant.1) in
    let x : ShardKept = kept_as c.self.inside.owner c.self.inside.tick c.self.inside.parts c.self.inside.lanes.items c.self.inside.calls (vec_capacity c.self.inside.results) n.plan in
    let i : ℕ = c.place_in-place.result in
    let reply : ReplyContent = reply_shown c.args.reply.now in
    let there = next_there n t i x.owner.list (Return t) (subst (λ (p : DevicePlan). slice_get p.streams i ≡ find (λ (q : StreamPart). q.thread == t) p.streams) (c.requires.plan n c.self.invariant.1) c.place_in-place.ensures) next in
    let s : StreamPart = there.0 in
    let here : slice_get (plan_content c.args.plan.now).streams i ≡ Some s = ap (λ (p : DevicePlan). slice_get p.streams i) (c.requires.plan n c.self.invariant.1) ∙ there.1.here in
    let m : MayReturnAt x s i reply = may_return_at c.a_return_is_a_step.ensures.can n g.N.ShardNames.clock x t i s c.args.seen reply is there.1 past c.requires.seen.1 (c.requires.reply n c.self.invariant.1) in
    let lane : c.index_mut-lane.result.now ≡ m.lane = c.index_mut-lane.ensures.value ∙ get_or_from_slice_get x.lanes i m.lane c.index_mut-lane.result.now m.can.at in
    let skips : c.leave_lane.new.lane.verdict.skip ≡ m.lane.verdict.skip = ap (λ (l : Lane). l.verdict.skip) c.leave_lane.ensures.steps ∙ ap (λ (l : Lane). l.verdict.skip) lane in
    let handles : c.handles_read-handles.result.now ≡ results_read m.lane.verdict.skip reply = c.handles_read-handles.ensures ∙ ap (λ (u : Bool). results_read u reply) skips in
    let time : ℕ = c.draw_time-time.result in
    let taken_so : c.take.new.self ≡ taken x.owner t = c.take.ensures.owner ∙ ap (taken x.owner) c.requires.seen.1 in
    let appended_so : c.append.new.self ≡ appended (taken x.owner t) (line t time false (results_read m.lane.verdict.skip reply)) =
    c.append.ensures ∙ (ap (λ (o : OwnerView). appended o (line t time false c.handles_read-handles.result.now)) taken_so ∙ ap (λ (hs : List ℕ). appended (taken x.owner t) (line t time false hs)) handles) in
    let owner : c.give-seen.new.self ≡ given (appended (taken x.owner t) (line t time false (results_read m.lane.verdict.skip reply))) t = c.give-seen.ensures.owner ∙ ap (λ (o : OwnerView). given o t) appended_so in
    let list = c.self.view_is in (
      results_read m.lane.verdict.skip reply,
      ap (λ (o : OwnerView). o.list) owner ∙ ap (λ (es : List Line). es ++ line t time false (results_read m.lane.verdict.skip reply) ∷ []) list,
      λ (q : ShardName) at. subst (λ (p : ShardName). AreResults p c.args.seen reply (results_read m.lane.verdict.skip reply)) (one n q (sym c.self.invariant.1 ∙ at))
          (c.a_return_is_a_step.ensures.results n g.N.ShardNames.clock x t i s c.args.seen reply m.lane is there.1 past c.requires.seen.1 m.can.at),
    )
