-- Room for a begin, and the room of a plan behind it.
use Rattle.std.proofs.Common.{◌≡◌, ◌≤◌, ◌+◌, ◌*◌, ◌||◌, ℕ, Bool, true, false, cond, List, [], length, map, refl, sym, subst, arith}
use Rattle.std.proofs.lemmas.Nat.{mul-le}
use Rattle.command_tables.specs.Calls.{CallContent, ReplyContent, call_content}
use Rattle.command_tables.specs.declared.call.LayerCall.{LayerCall}
use Rattle.trace_format.specs.Content.{BeginEvent}
use Rattle.object_model.specs.Findings.{is_failing}
use Rattle.object_model.specs.History.{Birth}
use Rattle.replay_model.specs.Setup.{Setup}
use Rattle.layer_model.specs.Walks.{PartState, enter_parts, kind_of}
use Rattle.lifetime_layer.specs.declared.verdict.Verdict.{Verdict}
use Rattle.terminator.specs.Calls.{TerminatorState}
use Rattle.chain_model.specs.Chained.{form_by}
use Rattle.chain_model.specs.Handed.{handle_in}
use Rattle.chain_model.specs.Simulated.{after_none, after_walk, base_of, walk_of}
use Rattle.replay_model.specs.Past.{arguments_in}
use Rattle.dispatch_chain.specs.Forms.{CanHold}
use Rattle.dispatch_chain.specs.Holding.{HeldCalls}
use Rattle.dispatch_chain.specs.Rows.{entries_of}
use Rattle.dispatch_chain.specs.Seats.{kinds_of}
use Rattle.session_model.specs.Beginning.{begun_kept, kept_after_begin, loader_kept}
use Rattle.session_model.specs.Session.{SessionKept}
use Rattle.session_model.specs.Steps.{NoneOpen}
use Rattle.session_parts.specs.declared.parts.SessionParts.{SessionParts}
use Rattle.session_parts.specs.Entering.{CanEnter, Entered, Enters}
use Rattle.session_parts.specs.Judging.{walk_at}
use Rattle.session_parts.specs.Room.{HasRoomToComeDown, HasRoomToEnter, LosesNoRoom, form_entering, opened_now}
use Rattle.walk_bounds.specs.Bounds.{AllHaveUses, AllLight, HaveBorn, failures_most, uses_together}
use Rattle.shard_room.specs.Needs.{IsWithin, Needs, names_at}
use Rattle.shard_room.specs.Room.{HasCallRoom, HasPlanRoom, HoldForms, is_among}
use Rattle.shard_room.proofs.Fitting.{fit_call, lists_stay}
use Rattle.shard_room.proofs.Keeping.{born_more, names_left}
use Rattle.shard_room.proofs.Laws.{BearsNone, FindsFew, LightAreRoomy, StaysLight}
use Rattle.shard_room.proofs.Seats.{births_stay, entries_few, kinds_long, uses_kinds, uses_rooms, walk_kinds}
use Rattle.shard_room.proofs.Sizes.{IsSmall, args_six, args_within, form_small, found_few, uses_few}

-- ---- room for a begin

module _ (n : Needs) (threads : List ℕ) (due : ℕ) (x : SessionParts) (number : ℕ) (b : BeginEvent) (plan : HasPlanRoom n threads due x) (within : IsWithin n b) (among : is_among b.thread threads ≡ true) (can : CanEnter x number b) where
  -- no more objects were born than were planned
  born_so_far : HaveBorn n.born x.states.kept
  born_so_far = let few = plan.born.few in born_more plan.born.so_far n.born x.states.kept (omega (arith, few)) plan.born.have

  -- the thread has no call open
  idle : NoneOpen b.thread x.states.kept
  idle = subst (λ (states : List PartState). NoneOpen b.thread states) (sym can.shows.states) can.steps.idle

  -- the call in the handles above the first part
  abbrev coming : CallContent
  coming = form_entering x (opened_now x number b)

  small : IsSmall n coming
  small = form_small n b (handle_in x.names.kept.handed) x.names.kept.names (base_of (opened_now x number b)) refl within

  light_below : StaysLight → AllLight n.uses threads (walk_at x.states.kept x.names.kept.handed (opened_now x number b)).states
  light_below stays =
      stays n.uses n.born threads b.thread number 1 x.states.kept coming (uses_few n b (handle_in x.names.kept.handed) x.names.kept.names (base_of (opened_now x number b)) refl within) born_so_far among idle plan.light

  uses_below : AllHaveUses (uses_together threads n.uses) (walk_at x.states.kept x.names.kept.handed (opened_now x number b)).states x.states.rooms
  uses_below = uses_kinds (uses_together threads n.uses) x.states.kept (walk_at x.states.kept x.names.kept.handed (opened_now x number b)).states x.states.rooms (walk_kinds b.thread number 1 x.states.kept coming) plan.uses

  found_fits : FindsFew → (findings : ℕ) → length x.states.kept * (3 * n.args) ≤ findings → length (walk_at x.states.kept x.names.kept.handed (opened_now x number b)).found.reports ≤ findings
  found_fits finds findings fits =
      let found = finds b.thread number 1 x.states.kept coming in
      let few : failures_most coming ≤ 3 * n.args = found_few n b (handle_in x.names.kept.handed) x.names.kept.names (base_of (opened_now x number b)) within in
      let most = mul-le (length x.states.kept) (failures_most coming) (length x.states.kept) (3 * n.args) (omega arith) few in
      omega (arith, found, most, fits)

  held_fits : (held : HeldCalls) → HoldForms n (length x.states.kept) held.rooms → CanHold held.rooms (length (entries_of b.cmd (kinds_of x.states.kept))) coming
  held_fits held hold =
      let few : length (entries_of b.cmd (kinds_of x.states.kept)) ≤ length x.states.kept = entries_few b.cmd x.states.kept in
      record {
        count = omega (arith, few, hold.count);
        each = λ i r less at.
            let fits = hold.each i r (omega (arith, less, few)) at in
            let slots = fits.0 in
            let handles = fits.1.0 in
            let bytes = fits.1.1 in
            record { slots = omega (arith, small.slots, slots); handles = omega (arith, small.handles, handles); bytes = omega (arith, small.bytes, bytes) };
      }

  comes_down : FindsFew → StaysLight → LightAreRoomy → (call : LayerCall) (held : HeldCalls) (findings : ℕ) → HasCallRoom n (length x.states.kept) call held findings
      → HasRoomToComeDown x (opened_now x number b) x.names.room.scratch.handles call held findings
  comes_down finds stays roomy call held findings room = record {
    handles = args_within n.wide x.names.room.scratch.handles x.names.kept.names b.args plan.scratch.handles within.wide;
    form = record {
      handles = record { slots = omega (arith, small.slots, room.handles.slots); room = omega (arith, small.handles, room.handles.room) };
      bytes = omega (arith, small.bytes, room.bytes);
    };
    roomy = roomy n.uses threads (walk_at x.states.kept x.names.kept.handed (opened_now x number b)).states x.states.rooms (light_below stays) uses_below;
    first = room.first;
    found = found_fits finds findings room.found;
    held = held_fits held room.held;
  }

pub enters_so : FindsFew → StaysLight → LightAreRoomy → (n : Needs) (threads : List ℕ) (due : ℕ) (x : SessionParts) (number : ℕ) (b : BeginEvent) (call : LayerCall) (held : HeldCalls) (findings : ℕ)
    → HasPlanRoom n threads due x → HasCallRoom n (length x.states.kept) call held findings → IsWithin n b → is_among b.thread threads ≡ true → CanEnter x number b → HasRoomToEnter x number b call held findings
enters_so finds stays roomy n threads due x number b call held findings plan room within among can = record {
  args = fit_call n.wide n.results x.names.room.scratch (names_at b) plan.scratch (args_six n b within) within.wide;
  down = comes_down n threads due x number b plan within among can finds stays roomy call held findings room;
}

-- ---- what is kept then

-- the parts are as they were, or as a walk leaves them
begun_by : (P : List PartState → Type 0) (s : Setup) (k : SessionKept) (b : BeginEvent) (own : List ReplyContent) (births : List Birth) → P k.chain.states → P (walk_of k.chain (begun_kept s k b).opened).states
    → P (kept_after_begin s k b own births).chain.states
begun_by P s k b own births same walked = go ((begun_kept s k b).opened.refused || is_failing (loader_kept k b))
  where
    go : (u : Bool) → P (cond u (after_none k.chain (begun_kept s k b).opened) (after_walk k.chain (begun_kept s k b).opened (walk_of k.chain (begun_kept s k b).opened))).states
    go true = same
    go false = walked

module _ (n : Needs) (threads : List ℕ) (due : ℕ) (x y : SessionParts) (number : ℕ) (b : BeginEvent) (call below : LayerCall) (held after : HeldCalls) (before verdict : Verdict) (plan : HasPlanRoom n threads due x) (within : IsWithin n b)
    (among : is_among b.thread threads ≡ true) (can : CanEnter x number b) (enters : Enters x number b (call_content below) after verdict y) (lost : LosesNoRoom x call held before y below after verdict) where
  -- the call as it came down
  abbrev came : CallContent
  came = form_by (handle_in can.kept.chain.handed) (base_of (begun_kept can.setup can.kept b).opened) (arguments_in can.kept.names b.args)

  entered : Entered can.setup can.kept b (call_content below) after verdict y
  entered = enters can.setup can.kept can.shows can.counted can.allowed

  since : (P : List PartState → Type 0) → P x.states.kept → P (enter_parts b.thread (can.kept.calls + 1) 1 x.states.kept came).states → P y.states.kept
  since P same walked =
      subst P (sym (entered.shows []).states)
      (begun_by P can.setup can.kept b [] entered.births (subst P can.shows.states same)
      (subst (λ (states : List PartState). P (enter_parts b.thread (can.kept.calls + 1) 1 states came).states) can.shows.states walked))

  kinds_same : map kind_of y.states.kept ≡ map kind_of x.states.kept
  kinds_same = since (λ states. map kind_of states ≡ map kind_of x.states.kept) refl (walk_kinds b.thread (can.kept.calls + 1) 1 x.states.kept came)

  light_then : StaysLight → AllLight n.uses threads y.states.kept
  light_then stays =
      since (λ states. AllLight n.uses threads states) plan.light
      (stays n.uses n.born threads b.thread (can.kept.calls + 1) 1 x.states.kept came
      (uses_few n b (handle_in can.kept.chain.handed) can.kept.names (base_of (begun_kept can.setup can.kept b).opened) refl within)
      (born_so_far n threads due x number b plan within among can) among (idle n threads due x number b plan within among can) plan.light)

  born_then : BearsNone → HaveBorn plan.born.so_far y.states.kept
  born_then bears = since (λ states. HaveBorn plan.born.so_far states) plan.born.have (bears plan.born.so_far b.thread (can.kept.calls + 1) 1 x.states.kept came plan.born.have)

  uses_then : AllHaveUses (uses_together threads n.uses) y.states.kept y.states.rooms
  uses_then =
      uses_rooms (uses_together threads n.uses) y.states.kept x.states.rooms y.states.rooms lost.states.count (λ i q r was is. (lost.states.each i q r was is).uses)
      (uses_kinds (uses_together threads n.uses) x.states.kept y.states.kept x.states.rooms kinds_same plan.uses)

  room_then : StaysLight → BearsNone → HasPlanRoom n threads due y
  room_then stays bears = record {
    scratch = lists_stay n.wide n.results x.names.room.scratch y.names.room.scratch lost.names.scratch plan.scratch;
    names = names_left due 0 due (due * n.bytes) 0 (due * n.bytes) x.names.room y.names.room (omega arith) (omega arith) plan.names lost.names;
    births = births_stay due x.states.rooms y.states.rooms lost.states plan.births;
    uses = uses_then;
    light = light_then stays;
    born = record { so_far = plan.born.so_far; have = born_then bears; few = plan.born.few };
    ids = subst (λ (t : TerminatorState). due ≤ t.spare) (sym lost.terminator) plan.ids;
    values = subst (λ (t : TerminatorState). due ≤ t.values) (sym lost.terminator) plan.values;
    bytes = subst (λ (t : TerminatorState). due * n.bytes ≤ t.bytes) (sym lost.terminator) plan.bytes;
    few = plan.few;
  }

pub stays_so : StaysLight → BearsNone → (n : Needs) (threads : List ℕ) (due : ℕ) (x y : SessionParts) (number : ℕ) (b : BeginEvent) (call below : LayerCall) (held after : HeldCalls) (findings : ℕ) (before verdict : Verdict)
    → HasPlanRoom n threads due x → IsWithin n b → is_among b.thread threads ≡ true → CanEnter x number b → Enters x number b (call_content below) after verdict y → LosesNoRoom x call held before y below after verdict → HasPlanRoom n threads due y
stays_so stays bears n threads due x y number b call below held after findings before verdict plan within among can enters lost =
    room_then n threads due x y number b call below held after before verdict plan within among can enters lost stays bears

pub as_many : (x y : SessionParts) → kinds_of y.states.kept ≡ kinds_of x.states.kept → length y.states.kept ≡ length x.states.kept
as_many x y kinds = kinds_long x.states.kept y.states.kept kinds
