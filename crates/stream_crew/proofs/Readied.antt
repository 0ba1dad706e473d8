-- A worker with what its stream has is ready.
use Rattle.std.proofs.Common.{◌≡◌, ◌≤◌, ◌<◌, ◌+◌, ℕ, zero, suc, Option, Some, Global, Vec, List, [], ◌∷◌, length, map, replicate, refl, sym, ◌∙◌, ap, subst, arith}
use Rattle.std.specs.Prelude.{drop, option_and_then, slice_get, slice_index_or, vec_len}
use Rattle.std.specs.List.{AllByRecursion}
use Rattle.std.specs.Option.{option_map}
use Rattle.std.proofs.lemmas.List.{length-map, length-replicate}
use Rattle.std.proofs.lemmas.Option.{slice_get-map}
use Rattle.atomic_table.specs.Seated.{TableId}
use Rattle.stream_log.specs.Clock.{TickView, tick_view}
use Rattle.stream_log.specs.Log.{SeenView, seen_view}
use Rattle.model_driver.specs.Seats.{FitsIn, SeatRoom}
use Rattle.stream_model.specs.Plans.{DevicePlan, events_planned}
use Rattle.device_shard.specs.declared.plan.Plan.{Plan}
use Rattle.device_shard.specs.Plans.{plan_content}
use Rattle.device_shard.specs.Shards.{ShardName}
use Rattle.device_shard.proofs.Lists.{one}
use Rattle.merge_model.specs.Planned.{PlannedCall}
use Rattle.stream_workers.specs.declared.worker.Worker.{Worker}
use Rattle.stream_workers.specs.Held.{Holds, list_at, token_at}
use Rattle.stream_workers.specs.Work.{Course, HasRoomForCalls, IsCourse, IsReady, OwnsStream, needs_of_calls}
use Rattle.stream_crew.specs.declared.needs.Most.{Most}
use Rattle.stream_crew.specs.Needs.{AreBelow, IsBelow}
use Rattle.stream_crew.specs.Crews.{ArePlanned, ArePlannedFor, AreReady, HaveRoom, HaveThreads, IsUnused, places_of}
use Rattle.stream_crew.specs.Dealing.{items_of, slots_of}
use Rattle.stream_crew.specs.Making.{HasLot, HaveLots, IsNewWorker, Lots, lots_of}
use Rattle.stream_crew.proofs.Fitting.{all_below, all_fit, apart_of, owns}
use Rattle.stream_crew.proofs.Places.{all_by}

-- ---- by the number of a stream

same_at : {X : Type 0} (xs : List X) (k : ℕ) (x y : X) → slice_get xs k ≡ Some x → slice_get xs k ≡ Some y → x ≡ y
same_at xs k x y here there = one x y (sym here ∙ there)

planned_for : (plans : List DevicePlan) (threads : List ℕ) (calls : List (List PlannedCall)) (k t : ℕ) (cs : List PlannedCall) → ArePlanned plans threads calls → slice_get threads k ≡ Some t → slice_get calls k ≡ Some cs → ArePlannedFor plans t cs
planned_for plans [] calls k t cs all at here = cc at
planned_for plans (u ∷ threads) [] k t cs all at here = cc here
planned_for plans (u ∷ threads) (ds ∷ calls) zero t cs all at here = subst (λ (v : ℕ). ArePlannedFor plans v cs) (one u t at) (subst (ArePlannedFor plans u) (one ds cs here) all.0)
planned_for plans (u ∷ threads) (ds ∷ calls) (suc k) t cs all at here = planned_for plans threads calls k t cs all.1 at here

pub as_many_calls : (plans : List DevicePlan) (threads : List ℕ) (calls : List (List PlannedCall)) → ArePlanned plans threads calls → length calls ≡ length threads
as_many_calls plans [] [] all = refl
as_many_calls plans [] (cs ∷ calls) all = absurd all
as_many_calls plans (t ∷ threads) [] all = absurd all
as_many_calls plans (t ∷ threads) (cs ∷ calls) all = ap (λ (n : ℕ). suc n) (as_many_calls plans threads calls all.1)

room_at : {S : Type 0} (room : S → SeatRoom) (seats : List S) (calls : List (List PlannedCall)) (k : ℕ) (s : S) (cs : List PlannedCall) → HaveRoom room seats calls → slice_get seats k ≡ Some s → slice_get calls k ≡ Some cs → FitsIn (needs_of_calls cs) (room s)
room_at room [] calls k s cs all at here = cc at
room_at room (u ∷ seats) [] k s cs all at here = cc here
room_at room (u ∷ seats) (ds ∷ calls) zero s cs all at here = subst (λ v. FitsIn (needs_of_calls cs) (room v)) (one u s at) (subst (λ (es : List PlannedCall). FitsIn (needs_of_calls es) (room u)) (one ds cs here) all.0)
room_at room (u ∷ seats) (ds ∷ calls) (suc k) s cs all at here = room_at room seats calls k s cs all.1 at here

ready_by : {S : Type 0} (room : S → SeatRoom) (course : Course) (calls : List (List PlannedCall)) (workers : List (Worker S)) → length calls ≡ length workers
    → ((k : ℕ) (cs : List PlannedCall) (w : Worker S) → slice_get calls k ≡ Some cs → slice_get workers k ≡ Some w → IsReady room course cs w × (w.places.items ≡ places_of cs)) → AreReady room course calls workers
ready_by room course [] [] count all = tt
ready_by room course [] (w ∷ workers) count all = absurd (omega (arith, count))
ready_by room course (cs ∷ calls) [] count all = absurd (omega (arith, count))
ready_by room course (cs ∷ calls) (w ∷ workers) count all = (all zero cs w refl refl, ready_by room course calls workers (omega (arith, count)) (λ k ds v. all (suc k) ds v))

-- ---- tokens

token_of : (names : List ShardName) (t k : ℕ) (n : ShardName) → slice_get names k ≡ Some n → token_at (slots_of names t) k ≡ Some (seen_view n.log t [])
token_of names t k n at = ap (λ o. option_and_then (λ (slot : Option SeenView). slot) o) (slice_get-map (λ (m : ShardName). Some (seen_view m.log t [])) names k ∙ ap (option_map (λ (m : ShardName). Some (seen_view m.log t []))) at)

nothing_seen : (names : List ShardName) (t k : ℕ) → list_at (slots_of names t) k ≡ []
nothing_seen [] t k = refl
nothing_seen (n ∷ names) t zero = refl
nothing_seen (n ∷ names) t (suc k) = nothing_seen names t k

none_made : (m k : ℕ) → ◌≡◌ {A = ℕ} (slice_index_or (replicate m 0) k 0) 0
none_made zero k = refl
none_made (suc m) zero = refl
none_made (suc m) (suc k) = none_made m k

-- ---- a worker

pub tokens_known : {S : Type 0} (names : List ShardName) (plans : List DevicePlan) (clock : TableId) (seen : ℕ) (lots : Lots S) (k : ℕ) (w : Worker S) → HasLot plans clock seen lots k w → lots.slots ≡ map (slots_of names) lots.threads → w.tokens.items ≡ slots_of names w.thread
tokens_known names plans clock seen lots k w lot dealt =
    let there : slice_get lots.slots k ≡ Some (slots_of names w.thread) =
    ap (λ xss. slice_get xss k) dealt ∙ (slice_get-map (slots_of names) lots.threads k ∙ ap (option_map (slots_of names)) lot.thread) in
    same_at lots.slots k w.tokens.items (slots_of names w.thread) lot.tokens there

places_known : {S : Type 0} (plans : List DevicePlan) (clock : TableId) (seen : ℕ) (lots : Lots S) (calls : List (List PlannedCall)) (k : ℕ) (cs : List PlannedCall) (w : Worker S) → HasLot plans clock seen lots k w → map places_of calls ≡ lots.places
    → slice_get calls k ≡ Some cs → w.places.items ≡ places_of cs
places_known plans clock seen lots calls k cs w lot are at =
    let there : slice_get lots.places k ≡ Some (places_of cs) = ap (λ xss. slice_get xss k) (sym are) ∙ (slice_get-map places_of calls k ∙ ap (option_map places_of) at) in
    same_at lots.places k w.places.items (places_of cs) lot.places there

holds_first : {S : Type 0} (names : List ShardName) (m : Most) (w : Worker S) (cs : List PlannedCall) → IsNewWorker m w → w.tokens.items ≡ slots_of names w.thread → ArePlannedFor (map (λ (n : ShardName). n.plan) names) w.thread cs → Holds names w.thread cs w.tokens.items w.made.items
holds_first names m w cs made tokens planned =
    let plan : ShardName → DevicePlan = λ (n : ShardName). n.plan in
    let long : length w.tokens.items ≡ length names = ap (λ xs. length xs) tokens ∙ length-map names (λ (n : ShardName). Some (seen_view n.log w.thread [])) in
    let none : (k : ℕ) → slice_index_or w.made.items k 0 ≡ 0 = λ k. ap (λ xs. slice_index_or xs k 0) made.made ∙ none_made (length w.tokens.items) k in
    record {
      slots_are = long;
      made_are = ap (λ xs. length xs) made.made ∙ (length-replicate (length w.tokens.items) 0 ∙ long);
      own = planned.own;
      planned = subst (λ (b : ℕ). AllByRecursion (λ (c : PlannedCall). c.place < b) cs) (length-map names plan) planned.within;
      each = λ k n at. (
        [],
        ap (λ xs. token_at xs k) tokens ∙ token_of names w.thread k n at,
        record {
          made_is = none k;
          left = ap (λ (i : ℕ). drop i (events_planned n.plan.streams w.thread)) (none k) ∙ planned.each k n.plan (slice_get-map plan names k ∙ ap (option_map plan) at);
        },
      );
    }

room_first : {S : Type 0} (room : S → SeatRoom) (m : Most) (w : Worker S) (cs : List PlannedCall) → IsNewWorker m w → FitsIn (needs_of_calls cs) (room w.seat) → w.places.items ≡ places_of cs → length w.places.items + length w.places.items ≤ w.tick.left
    → AllByRecursion (λ (c : PlannedCall). IsBelow m c.begin) cs → HasRoomForCalls room w cs
room_first room m w cs made fits places draws below =
    let long : length w.places.items ≡ length cs = ap (λ xs. length xs) places ∙ length-map cs (λ (c : PlannedCall). c.place) in
    let unsent : vec_len w.sent ≡ 0 = omega (arith, ap (λ xs. length xs) made.unsent, w.sent.ok.0) in
    record {
      draws = omega (arith, long, draws);
      seat = fits;
      fit = all_fit m w cs made below;
      sent = omega (arith, long, made.sent, unsent);
    }

is_ready : {S : Type 0} (room : S → SeatRoom) (names : List ShardName) (clock : TableId) (plans : List DevicePlan) (seen : ℕ) (lots : Lots S) (k : ℕ) (cs : List PlannedCall) (w : Worker S)
    → IsCourse (record { names = names; clock = clock; plans = plans }) → HasLot plans clock seen lots k w → HaveThreads lots.threads plans → w.tokens.items ≡ slots_of names w.thread → w.places.items ≡ places_of cs → ArePlannedFor plans w.thread cs
    → FitsIn (needs_of_calls cs) (room w.seat) → IsReady room (record { names = names; clock = clock; plans = plans }) cs w
is_ready room names clock plans seen lots k cs w course lot have tokens places planned fits =
    let plans_are : plans ≡ map (λ (n : ShardName). n.plan) names = course.plans in
    let threads : HaveThreads lots.threads (map (λ (n : ShardName). n.plan) names) = subst (HaveThreads lots.threads) plans_are have in
    let calls : ArePlannedFor (map (λ (n : ShardName). n.plan) names) w.thread cs = subst (λ ps. ArePlannedFor ps w.thread cs) plans_are planned in
    let below : AllByRecursion (λ (c : PlannedCall). IsBelow lot.most c.begin) cs =
    all_below lot.most (map (λ (n : ShardName). n.plan) names) lots.threads k w.thread cs (subst (AreBelow lot.most k) plans_are lot.below) threads (apart_of names course.starts) lot.thread calls in
    let left = ap (λ (t : TickView). t.left) lot.tick in
    record {
      holds = holds_first names lot.most w cs lot.made tokens calls;
      stream = subst (OwnsStream names w.thread) (sym lot.stream) (owns names lots.threads k w.thread threads course.starts lot.thread);
      clock = ap (λ (t : TickView). t.clock) lot.tick;
      room_is = room_first room lot.most w cs lot.made fits places (omega (arith, left)) below;
    }

-- all of them
pub are_ready : {S : Type 0} (room : S → SeatRoom) (names : List ShardName) (clock : TableId) (plans : List DevicePlan) (seen : ℕ) (lots : Lots S) (calls : List (List PlannedCall)) (workers : List (Worker S))
    → IsCourse (record { names = names; clock = clock; plans = plans }) → length workers ≡ length lots.threads → HaveLots plans clock seen lots workers → HaveThreads lots.threads plans → lots.slots ≡ map (slots_of names) lots.threads → ArePlanned plans lots.threads calls
    → map places_of calls ≡ lots.places → HaveRoom room lots.seats calls → AreReady room (record { names = names; clock = clock; plans = plans }) calls workers
are_ready room names clock plans seen lots calls workers course many have threads dealt planned places fits =
    ready_by room (record { names = names; clock = clock; plans = plans }) calls workers (as_many_calls plans lots.threads calls planned ∙ sym many) (
    λ k cs w at here.
    let lot = have k w here in
    let placed = places_known plans clock seen lots calls k cs w lot places at in (
      is_ready room names clock plans seen lots k cs w course lot threads (tokens_known names plans clock seen lots k w lot dealt) placed (planned_for plans lots.threads calls k w.thread cs planned lot.thread at)
          (room_at room lots.seats calls k w.seat cs fits lot.seat at),
      placed,
    )
    )

pub are_unused : {S : Type 0} (names : List ShardName) (plans : List DevicePlan) (clock : TableId) (seen : ℕ) (lots : Lots S) (workers : List (Worker S)) → HaveLots plans clock seen lots workers → lots.slots ≡ map (slots_of names) lots.threads → AllByRecursion IsUnused workers
are_unused names plans clock seen lots workers have dealt =
    all_by IsUnused workers (
    λ k w at.
    let lot = have k w at in
    record { sent = lot.made.unsent; lists = λ i. ap (λ xs. list_at xs i) (tokens_known names plans clock seen lots k w lot dealt) ∙ nothing_seen names w.thread i }
    )

-- ---- while they are made

pub names_count : (names : List ShardName) (plans : List Plan) → map (λ (n : ShardName). n.plan) names ≡ map plan_content plans → length names ≡ length plans
names_count names plans same = sym (length-map names (λ (n : ShardName). n.plan)) ∙ (ap (λ (ps : List DevicePlan). length ps) same ∙ length-map plans plan_content)

pub slots_count : (slots : List (Vec (Option SeenView) Global)) (names : List ShardName) (threads : List ℕ) → items_of slots ≡ map (slots_of names) threads → length slots ≡ length threads
slots_count slots names threads dealt =
    sym (length-map slots (λ (v : Vec (Option SeenView) Global). v.items)) ∙ (ap (λ (xss : List (List (Option SeenView))). length xss) dealt ∙ length-map threads (slots_of names))

items_at : {X : Type 0} (vecs : List (Vec X Global)) (k : ℕ) (v w : Vec X Global) → slice_get vecs k ≡ Some v → w ≡ v → slice_get (items_of vecs) k ≡ Some w.items
items_at {X} vecs k v w at same =
    let items : Vec X Global → List X = λ (u : Vec X Global). u.items in slice_get-map items vecs k ∙ (ap (option_map items) at ∙ ap (λ (u : Vec X Global). Some u.items) (sym same))

-- a worker that was made of what comes next
pub lot_of : {S : Type 0} (plans : List DevicePlan) (clock : TableId) (seen : ℕ) (threads : List ℕ) (places : List (Vec ℕ Global)) (slots : List (Vec (Option SeenView) Global)) (seats : List S) (k : ℕ) (most : Most) (w : Worker S) (own : Vec ℕ Global)
    (held : Vec (Option SeenView) Global) (seat : S) (thread : ℕ) → w.stream ≡ k → w.thread ≡ thread → slice_get threads k ≡ Some thread → w.places ≡ own → slice_get places k ≡ Some own → w.tokens ≡ held → slice_get slots k ≡ Some held → w.seat ≡ seat
    → slice_get seats k ≡ Some seat → w.tick ≡ tick_view clock (length own.items + length own.items) seen → AreBelow most k plans → IsNewWorker most w → HasLot plans clock seen (lots_of threads places slots seats) k w
lot_of plans clock seen threads places slots seats k most w own held seat thread stream is at own_is own_at held_is held_at seat_is seat_at tick below made = record {
  stream = stream;
  thread = at ∙ ap (λ (t : ℕ). Some t) (sym is);
  places = items_at places k own w.places own_at own_is;
  tokens = items_at slots k held w.tokens held_at held_is;
  seat = seat_at ∙ ap (λ s. Some s) (sym seat_is);
  tick = tick ∙ ap (λ (v : Vec ℕ Global). tick_view clock (length v.items + length v.items) seen) (sym own_is);
  most = most;
  below = below;
  made = made;
}
