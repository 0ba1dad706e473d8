-- A begin and a return by the event that comes next.
use Rattle.std.proofs.Common.{◌≡◌, ◌<◌, ◌≤◌, ◌+◌, ◌-◌, ◌^◌, ℕ, Bool, true, false, Option, Some, None, List, [], ◌∷◌, ◌++◌, length, refl, sym, ◌∙◌, ap, subst, arith}
use Rattle.std.specs.Prelude.{reverse, slice_get, slice_index_or, slice_set, vec_capacity}
use Rattle.std.specs.List.{AllByRecursion}
use Rattle.std.specs.Option.{is_none}
use Rattle.std.proofs.lemmas.List.{length-append}
use Rattle.std.proofs.lemmas.Option.{get_or_from_slice_get, slice_get_within}
use Rattle.atomic_table.specs.Seated.{TableId}
use Rattle.command_tables.specs.Calls.{DriverCallContent, ReplyContent, call_content}
use Rattle.command_tables.specs.declared.call.LayerCall.{LayerCall}
use Rattle.dispatch_chain.specs.Seats.{kinds_of}
use Rattle.stream_log.specs.Clock.{TickView}
use Rattle.stream_log.specs.Log.{IsPast, OwnerView, SeenView, appended, given, last_time, line, taken}
use Rattle.stream_log.specs.declared.line.Line.{Line}
use Rattle.trace_format.specs.Content.{BeginEvent, TraceEvent, Begin, Return}
use Rattle.stream_model.specs.FileParts.{StreamPart}
use Rattle.stream_model.specs.Order.{event_thread}
use Rattle.stream_model.specs.Plans.{DevicePlan}
use Rattle.session_parts.specs.declared.parts.SessionParts.{SessionParts}
use Rattle.session_parts.specs.Entering.{CanEnterAt, EntersAt}
use Rattle.session_parts.specs.Room.{HasRoomToEnterAt, LosesNoRoom}
use Rattle.shard_model.specs.Followed.{next_event}
use Rattle.shard_model.specs.Replays.{Tells, told_by}
use Rattle.device_shard.specs.declared.lane.Lane.{Lane}
use Rattle.device_shard.specs.Lanes.{EntersOne}
use Rattle.device_shard.specs.Shards.{IsShard, ShardKept, ShardName}
use Rattle.device_shard.specs.Steps.{HasRoomForBegin, IsReplied, IsToldOf, OfBegin, told_as}
use Rattle.device_shard.specs.Turns.{CanBegin, CanReturn, HasBegun, IsNextAt, begun_then, results_read}
use Rattle.device_shard.proofs.Lists.{one}
use Rattle.device_shard.proofs.Steps.{next_past}

-- what is kept, by its parts
abbrev pub kept_as : OwnerView → TickView → SessionParts → List Lane → ℕ → ℕ → DevicePlan → ShardKept
kept_as owner tick parts lanes calls results plan = record { owner = owner; tick = tick; parts = parts; lanes = lanes; calls = calls; results = results; plan = plan }

-- the owner holds the token that it took
pub held_now : (held : List ℕ) (t : ℕ) → (x : ℕ) × (x < length (held ++ t ∷ [])) × (slice_index_or (held ++ t ∷ []) x t ≡ t)
held_now held t =
    let long : length (held ++ t ∷ []) ≡ length held + 1 = length-append held (t ∷ []) in (length held, omega (arith, long), at held)
  where
    at : (xs : List ℕ) → slice_index_or (xs ++ t ∷ []) (length xs) t ≡ t
    at [] = refl
    at (x ∷ xs) = at xs

-- the next event, by what the token knows
pub next_known : (n : ShardName) (seen list : List Line) (thread t : ℕ) (e : TraceEvent) → IsPast thread seen list → thread ≡ t → next_event n.plan.streams thread seen ≡ Some e → next_event n.plan.streams t list ≡ Some e
next_known n seen list thread t e past own next = ap (λ u. next_event n.plan.streams u list) (sym own) ∙ (next_past n.plan.streams thread seen list past ∙ next)

-- ---- a begin

-- the begin that an event is may be made at a lane
pub record MayStep (x : ShardKept) (body : LayerCall) (e : TraceEvent) (i : ℕ) : Type 0 where
  pub lane : Lane
  pub can : OfBegin (λ b. CanBegin x b i lane) e
  pub fits : OfBegin (HasRoomForBegin body) e

abbrev pub CanLaw : Type 0
CanLaw = (n : ShardName) (counts : TableId) (x : ShardKept) (b : BeginEvent) (i : ℕ) (s : StreamPart) → IsShard n counts x → IsNextAt n x.owner.list b.thread (Begin b) i s → (l : Lane) × CanBegin x b i l

pub may_step : CanLaw → (n : ShardName) (counts : TableId) (x : ShardKept) (body : LayerCall) (e : TraceEvent) (i : ℕ) (s : StreamPart) → IsShard n counts x → IsNextAt n x.owner.list (event_thread e) e i s → OfBegin (HasRoomForBegin body) e
    → MayStep x body e i
may_step law n counts x body (Begin b) i s is comes fits = let could = law n counts x b i s is comes in record { lane = could.0; can = could.1; fits = fits }
may_step law n counts x body (Return t) i s is comes fits = absurd fits

module _ (x : ShardKept) (body : LayerCall) (i : ℕ) where
  pub step_at : (e : TraceEvent) (m : MayStep x body e i) → slice_get x.lanes i ≡ Some m.lane
  step_at (Begin b) m = m.can.at
  step_at (Return t) m = absurd m.can

  pub step_within : (e : TraceEvent) → MayStep x body e i → i < length x.lanes
  step_within e m = slice_get_within x.lanes i m.lane (step_at e m)

  pub lane_is : (e : TraceEvent) (m : MayStep x body e i) (d : Lane) → d ≡ slice_index_or x.lanes i d → d ≡ m.lane
  lane_is e m d is = is ∙ get_or_from_slice_get x.lanes i m.lane d (step_at e m)

  pub step_can : (e : TraceEvent) → MayStep x body e i → CanEnterAt x.parts (x.calls + 1) e
  step_can (Begin b) m = m.can.can
  step_can (Return t) m = absurd m.can

  pub step_room : (e : TraceEvent) (m : MayStep x body e i) → HasRoomToEnterAt x.parts (x.calls + 1) e m.lane.call m.lane.held (vec_capacity m.lane.verdict.findings)
  step_room (Begin b) m = m.can.room
  step_room (Return t) m = absurd m.can

  pub step_one : (e : TraceEvent) → MayStep x body e i → EntersOne x.parts (x.calls + 1) e body
  step_one (Begin b) m = m.can.one body m.fits
  step_one (Return t) m = absurd m.can

  pub step_steps : (e : TraceEvent) (m : MayStep x body e i) → m.lane.steps < 2 ^ 32
  step_steps (Begin b) m = m.can.steps
  step_steps (Return t) m = absurd m.can

  pub step_entries : (e : TraceEvent) → MayStep x body e i → 0 < x.owner.entries
  step_entries (Begin b) m = m.can.entries
  step_entries (Return t) m = absurd m.can

  pub step_calls : (e : TraceEvent) → MayStep x body e i → x.calls + 1 < 2 ^ 32
  step_calls (Begin b) m = m.can.calls
  step_calls (Return t) m = absurd m.can

-- it has been made
pub record HasStepped (x : ShardKept) (e : TraceEvent) (l new : Lane) (y : SessionParts) : Type 0 where
  pub enters : EntersAt x.parts (x.calls + 1) e (call_content new.call) new.held new.verdict y
  pub room : LosesNoRoom x.parts l.call l.held l.verdict y new.call new.held new.verdict
  pub kinds : kinds_of y.states.kept ≡ kinds_of x.parts.states.kept
  pub steps : new.steps ≡ l.steps + 1

abbrev pub StaysLaw : Type 0
StaysLaw =
    (n : ShardName) (counts : TableId) (x : ShardKept) (b : BeginEvent) (i : ℕ) (s : StreamPart) (l new : Lane) (y : SessionParts) (time : ℕ) → IsShard n counts x → IsNextAt n x.owner.list b.thread (Begin b) i s → HasBegun x b i l new y →
    last_time x.owner.list < time → IsShard n counts (begun_then x b i new y time)

abbrev pub TellsLaw : Type 0
TellsLaw =
    (n : ShardName) (counts : TableId) (x : ShardKept) (b : BeginEvent) (i : ℕ) (s : StreamPart) (l new : Lane) (y : SessionParts) → IsShard n counts x → IsNextAt n x.owner.list b.thread (Begin b) i s → HasBegun x b i l new y →
    Tells n.start n.plan.streams (reverse x.owner.list) b new.verdict.skip (told_by y (call_content new.call) new.verdict.skip)

abbrev pub ToldLaw : Type 0
ToldLaw =
    (n : ShardName) (counts : TableId) (x : ShardKept) (b : BeginEvent) (i : ℕ) (s : StreamPart) (l new : Lane) (y : SessionParts) → IsShard n counts x → IsNextAt n x.owner.list b.thread (Begin b) i s → HasBegun x b i l new y →
    new.verdict.skip ≡ false → AllByRecursion (IsToldOf b) (told_by y (call_content new.call) new.verdict.skip)

-- of the one driver that is told
pub one_told : (b : BeginEvent) (driver : Option ℕ) (call : DriverCallContent) → is_none driver ≡ false → AllByRecursion (IsToldOf b) (told_as driver call) → IsToldOf b call
one_told b None call goes all = cc goes
one_told b (Some driver) call goes all = all.0

-- what is kept then
abbrev pub stepped_then : ShardKept → ℕ → ℕ → Lane → SessionParts → ℕ → ShardKept
stepped_then x thread i new y time =
    kept_as (given (appended (taken x.owner thread) (line thread time true [])) thread) (record { clock = x.tick.clock; left = 0; seen = time }) y (slice_set x.lanes i new) (x.calls + 1) x.results x.plan

module _ (n : ShardName) (counts : TableId) (x : ShardKept) (body : LayerCall) (i : ℕ) (s : StreamPart) (new : Lane) (y : SessionParts) (is : IsShard n counts x) where
  begun : (b : BeginEvent) (m : MayStep x body (Begin b) i) → HasStepped x (Begin b) m.lane new y → HasBegun x b i m.lane new y
  begun b m h = record { at = m.can.at; enters = h.enters; room = h.room; kinds = h.kinds; steps = h.steps }

  pub step_stays : StaysLaw → (e : TraceEvent) (m : MayStep x body e i) (time : ℕ) → IsNextAt n x.owner.list (event_thread e) e i s → HasStepped x e m.lane new y → last_time x.owner.list < time
      → IsShard n counts (stepped_then x (event_thread e) i new y time)
  step_stays law (Begin b) m time comes h later = law n counts x b i s m.lane new y time is comes (begun b m h) later
  step_stays law (Return t) m time comes h later = absurd m.can

  pub step_tells : TellsLaw → (e : TraceEvent) (m : MayStep x body e i) (skip : Bool) (told : List DriverCallContent) → IsNextAt n x.owner.list (event_thread e) e i s → HasStepped x e m.lane new y → skip ≡ new.verdict.skip
      → told ≡ told_by y (call_content new.call) new.verdict.skip → OfBegin (λ b. Tells n.start n.plan.streams (reverse x.owner.list) b skip told) e
  step_tells law (Begin b) m skip told comes h skips tells =
      subst (λ (u : Bool). Tells n.start n.plan.streams (reverse x.owner.list) b u told) (sym skips)
      (subst (λ (cs : List DriverCallContent). Tells n.start n.plan.streams (reverse x.owner.list) b new.verdict.skip cs) (sym tells) (law n counts x b i s m.lane new y is comes (begun b m h)))
  step_tells law (Return t) m skip told comes h skips tells = absurd m.can

  pub step_told : ToldLaw → (e : TraceEvent) (m : MayStep x body e i) (driver : Option ℕ) (call : DriverCallContent) → IsNextAt n x.owner.list (event_thread e) e i s → HasStepped x e m.lane new y → is_none driver ≡ new.verdict.skip
      → told_as driver call ≡ told_by y (call_content new.call) new.verdict.skip → is_none driver ≡ false → OfBegin (λ b. IsToldOf b call) e
  step_told law (Begin b) m driver call comes h skips tells goes =
      let all = law n counts x b i s m.lane new y is comes (begun b m h) (sym skips ∙ goes) in one_told b driver call goes (subst (λ (cs : List DriverCallContent). AllByRecursion (IsToldOf b) cs) (sym tells) all)
  step_told law (Return t) m driver call comes h skips tells goes = absurd m.can

-- ---- a return

abbrev pub CanReturnLaw : Type 0
CanReturnLaw =
    (n : ShardName) (counts : TableId) (x : ShardKept) (thread : ℕ) (i : ℕ) (s : StreamPart) (seen : SeenView) (reply : ReplyContent) → IsShard n counts x → IsNextAt n x.owner.list thread (Return thread) i s →
    IsPast thread seen.list x.owner.list → seen.thread ≡ thread → IsReplied n seen reply → (l : Lane) × (b : BeginEvent) × CanReturn x s i l b reply

-- the open call of a thread may leave
pub record MayReturnAt (x : ShardKept) (s : StreamPart) (i : ℕ) (reply : ReplyContent) : Type 0 where
  pub lane : Lane
  pub begin : BeginEvent
  pub can : CanReturn x s i lane begin reply

pub may_return_at : CanReturnLaw → (n : ShardName) (counts : TableId) (x : ShardKept) (thread : ℕ) (i : ℕ) (s : StreamPart) (seen : SeenView) (reply : ReplyContent) → IsShard n counts x → IsNextAt n x.owner.list thread (Return thread) i s
    → IsPast thread seen.list x.owner.list → seen.thread ≡ thread → IsReplied n seen reply → MayReturnAt x s i reply
may_return_at law n counts x thread i s seen reply is comes past own replied =
    let could = law n counts x thread i s seen reply is comes past own replied in record { lane = could.0; begin = could.1; can = could.2 }

-- the event in the place of the begin is the begin
pub begin_is : (x : ShardKept) (s there : StreamPart) (streams : List StreamPart) (i : ℕ) (reply : ReplyContent) (m : MayReturnAt x s i reply) (e : TraceEvent) → slice_get streams i ≡ Some s → slice_get streams i ≡ Some there
    → slice_get there.events (m.lane.steps - 1) ≡ Some e → e ≡ Begin m.begin
begin_is x s there streams i reply m e here at event =
    let same : there ≡ s = one there s (sym at ∙ here) in
    let made = m.can.made in
    let place : m.lane.steps - 1 ≡ m.can.place = omega (arith, made) in
    one e (Begin m.begin) (sym event ∙ (ap (λ (p : StreamPart). slice_get p.events (m.lane.steps - 1)) same ∙ (ap (slice_get s.events) place ∙ m.can.begin)))

-- what is kept then
abbrev pub back_then : ShardKept → ℕ → ℕ → Lane → SessionParts → List ℕ → ℕ → ℕ → ShardKept
back_then x thread i new y handles time results =
    kept_as (given (appended (taken x.owner thread) (line thread time false handles)) thread) (record { clock = x.tick.clock; left = 0; seen = time }) y (slice_set x.lanes i new) x.calls results x.plan

-- how many results are read
pub read_few : (skip : Bool) (reply : ReplyContent) (n : ℕ) → (skip ≡ false → length reply.handles ≤ n) → length (results_read skip reply) ≤ n
read_few true reply n few = omega arith
read_few false reply n few = few refl
