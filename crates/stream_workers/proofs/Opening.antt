-- The begin of a worker's next call.
use Rattle.std.proofs.Common.{◌≡◌, ◌+◌, ◌-◌, ◌<◌, ◌≤◌, ◌^◌, ℕ, Bool, true, false, not, is_some, Option, Some, None, List, [], ◌∷◌, ◌++◌, length, map, get_or, set, refl, sym, ◌∙◌, ap, subst, arith}
use Rattle.std.specs.Prelude.{slice_get, vec_capacity, vec_len}
use Rattle.std.specs.Option.{is_none, option_map, option_map_or}
use Rattle.std.proofs.lemmas.List.{length-map}
use Rattle.std.proofs.lemmas.Option.{slice_get-map}
use Rattle.command_tables.specs.Calls.{DriverCallContent}
use Rattle.command_tables.specs.declared.call.LayerCall.{LayerCall}
use Rattle.stream_log.specs.declared.line.Line.{Line}
use Rattle.stream_log.specs.Clock.{TickView, tick_view}
use Rattle.stream_log.specs.Log.{SeenView, line, seen_view}
use Rattle.trace_format.specs.Content.{BeginEvent, Begin, Return}
use Rattle.model_driver.specs.declared.driver.DriverCall.{DriverCall}
use Rattle.model_driver.specs.declared.driver.DriverReply.{DriverReply}
use Rattle.model_driver.specs.Driver.{call_shown}
use Rattle.model_driver.specs.Seats.{FitsIn, SeatRoom, joined_room}
use Rattle.terminator.specs.Calls.{KeepsCallRoom}
use Rattle.stream_model.specs.FileParts.{StreamPart}
use Rattle.stream_model.specs.Plans.{DevicePlan, events_planned}
use Rattle.shard_start.specs.Starting.{CanStart, events_in}
use Rattle.device_shard.specs.declared.begun.Begun.{Begun}
use Rattle.device_shard.specs.Shards.{ShardName}
use Rattle.device_shard.specs.Steps.{HasRoomForBegin, told_as}
use Rattle.device_shard.proofs.Lists.{all_at, one, part_fits, within}
use Rattle.device_shard.proofs.Steps.{next_past, next_turned}
use Rattle.stream_workers.specs.declared.worker.Worker.{Worker}
use Rattle.merge_model.specs.Planned.{PlannedCall, calls_at, events_of_calls}
use Rattle.stream_workers.specs.Calls.{BegunCall, IsBegun}
use Rattle.stream_workers.specs.Opens.{HasBegun, HaveGainedOne, IsOpen}
use Rattle.stream_workers.specs.Held.{HaveGrown, HoldsOpen}
use Rattle.stream_workers.specs.Steps.{BeginsAt}
use Rattle.stream_workers.specs.Work.{AllFit, Course, IsCourse, IsReady, OwnsStream, needs_of_begin, needs_of_calls}
use Rattle.stream_workers.proofs.Holding.{Comes, begun_holds, comes, gained_one, grown_one, next_seen}

-- ---- what a worker reads

-- the plan with a number is that of the shard with the number
pub plan_is : {P : Type 0} (f : P → DevicePlan) (plans : List P) (names : List ShardName) (k : ℕ) (q : P) (n : ShardName) → map f plans ≡ map (λ (m : ShardName). m.plan) names → slice_get plans k ≡ Some q → slice_get names k ≡ Some n → f q ≡ n.plan
plan_is f plans names k q n same at here =
    one (f q) n.plan
    (sym (slice_get-map f plans k ∙ ap (option_map f) at) ∙ (ap (λ (ps : List DevicePlan). slice_get ps k) same ∙ (slice_get-map (λ (m : ShardName). m.plan) names k ∙ ap (option_map (λ (m : ShardName). m.plan)) here)))

-- and there are as many
pub as_many : {P : Type 0} (f : P → DevicePlan) (plans : List P) (names : List ShardName) → map f plans ≡ map (λ (m : ShardName). m.plan) names → length plans ≡ length names
as_many f plans names same = sym (length-map plans f) ∙ (ap length same ∙ length-map names (λ (m : ShardName). m.plan))

module _ {S : Type 0} (room : S → SeatRoom) (c : Course) (p : PlannedCall) (rest : List PlannedCall) (w : Worker S) (ready : IsReady room c (p ∷ rest) w) where
  pub coming : Comes c.names w.thread w.stream p rest w.tokens.items w.made.items
  coming = comes c.names w.thread w.stream p rest w.tokens.items w.made.items ready.holds (λ n at. all_at (λ (m : ShardName). option_map_or (λ (s : StreamPart). s.events) (slice_get m.plan.streams w.stream) [] ≡ events_planned m.plan.streams w.thread) c.names p.place n ready.stream at)

  -- the worker has fewer steps there than 2 ^ 32
  pub few_made : IsCourse c → get_or w.made.items p.place 0 < 2 ^ 32
  few_made is =
      let x = coming in
      let far = within x.part.events (get_or w.made.items p.place 0) (Begin p.begin) x.event in
      let all : length x.part.events ≤ events_in x.name.plan.streams = part_fits (λ (s : StreamPart). s.events) x.name.plan.streams w.stream x.part x.part_at in
      let few = (all_at (λ (m : ShardName). CanStart m.start m.plan.streams) c.names p.place x.name is.starts x.here).few in
      omega (arith, far, all, few)

-- ---- what it comes to

is_some_not : (o : Option ℕ) → not (is_none o) ≡ is_some o
is_some_not None = refl
is_some_not (Some x) = refl

told_none : (o : Option ℕ) (call : DriverCallContent) → is_none o ≡ true → told_as o call ≡ []
told_none None call skips = refl
told_none (Some x) call skips = cc skips

told_one : (o : Option ℕ) (call : DriverCallContent) → is_none o ≡ false → told_as o call ≡ call ∷ []
told_one None call goes = cc goes
told_one (Some x) call goes = refl

-- what fitted fits
fits_still : (old new : LayerCall) (b : BeginEvent) → KeepsCallRoom old new → HasRoomForBegin old b → HasRoomForBegin new b
fits_still old new b keeps fits =
    let slots = keeps.handles.slots in
    let room = keeps.handles.room in
    let bytes = keeps.bytes in
    let a = fits.handles.slots in
    let n = fits.handles.room in
    let m = fits.bytes in
    record { handles = record { slots = omega (arith, slots, a); room = omega (arith, room, n) }; bytes = omega (arith, bytes, m) }

all_fit : (old new : DriverCall) (reply : DriverReply) (calls : List PlannedCall) → KeepsCallRoom old.body new.body → AllFit old reply calls → AllFit new reply calls
all_fit old new reply [] keeps fit = tt
all_fit old new reply (c ∷ calls) keeps fit = ((fits_still old.body new.body c.begin keeps fit.0.0, fit.0.1), all_fit old new reply calls keeps fit.1)

abbrev pub call_begun : PlannedCall → List Line → ℕ → Option ℕ → ℕ → DriverCallContent → BegunCall
call_begun p before thread driver time told = record { place = p.place; before = before; entry = line thread time true []; begin = p.begin; skip = is_none driver; told = told_as driver told }

module _ {S : Type 0} (room : S → SeatRoom) (c : Course) (p : PlannedCall) (rest : List PlannedCall) (old new : Worker S) (ready : IsReady room c (p ∷ rest) old) (x : Comes c.names old.thread old.stream p rest old.tokens.items old.made.items) (b : Begun)
    (at : BeginsAt x.name (seen_view x.name.log old.thread x.list) (Begin p.begin) (call_shown new.call) old.tick.seen b) (same : new ≡ record old { tokens = new.tokens; made = new.made; tick = new.tick; call = new.call; sent = new.sent })
    (tick : new.tick ≡ tick_view c.clock (old.tick.left - 1) b.time) (out : KeepsCallRoom old.call.body new.call.body) (tokens : new.tokens.items ≡ set old.tokens.items p.place (Some b.seen))
    (made : new.made.items ≡ set old.made.items p.place (get_or old.made.items p.place 0 + 1)) (marks : new.sent.items ≡ old.sent.items ++ is_some b.driver ∷ []) (marked : vec_len new.sent ≡ vec_len old.sent + 1)
    (capacity : vec_capacity new.sent ≡ vec_capacity old.sent) where
  thread_is : new.thread ≡ old.thread
  thread_is = ap (λ (w : Worker S). w.thread) same

  is_begun : IsBegun c.names old.thread (call_begun p at.before old.thread b.driver b.time (call_shown new.call))
  is_begun =
      let next = next_seen x.name old.thread x.list (get_or old.made.items p.place 0) (Begin p.begin) (Return old.thread ∷ events_of_calls old.thread (calls_at p.place rest)) x.seen in
      record {
        name = x.name;
        is = x.here;
        own = refl;
        came = next_turned x.name.plan.streams old.thread at.before ∙ (next_past x.name.plan.streams old.thread x.list at.before at.past ∙ next);
        tells = at.tells;
        silent = told_none b.driver (call_shown new.call);
        one = λ goes. ap length (told_one b.driver (call_shown new.call) goes);
      }

  slots_are : new.tokens.items ≡ set old.tokens.items p.place (Some (seen_view x.name.log old.thread (at.before ++ line old.thread b.time true [] ∷ [])))
  slots_are = tokens ∙ ap (λ (s : SeenView). set old.tokens.items p.place (Some s)) at.token

  opened : IsOpen c (call_begun p at.before old.thread b.driver b.time (call_shown new.call)) rest new
  opened =
      let draws = ready.room_is.draws in
      let left = ap (λ (t : TickView). t.left) tick in
      let seen = ap (λ (t : TickView). t.seen) tick in
      let full = ready.room_is.sent in
      let holds = begun_holds c.names old.thread old.stream p rest old.tokens.items old.made.items (call_begun p at.before old.thread b.driver b.time (call_shown new.call)) ready.holds x refl at.past refl in
      record {
        begun = subst (λ t. IsBegun c.names t (call_begun p at.before old.thread b.driver b.time (call_shown new.call))) (sym thread_is) is_begun;
        holds = subst (λ t. HoldsOpen c.names t (call_begun p at.before old.thread b.driver b.time (call_shown new.call)) rest new.tokens.items new.made.items) (sym thread_is)
            (subst (λ (ss : List (Option SeenView)). HoldsOpen c.names old.thread (call_begun p at.before old.thread b.driver b.time (call_shown new.call)) rest ss new.made.items) (sym slots_are)
            (subst (λ (ks : List ℕ). HoldsOpen c.names old.thread (call_begun p at.before old.thread b.driver b.time (call_shown new.call)) rest (set old.tokens.items p.place (Some (seen_view x.name.log old.thread (at.before ++ line old.thread b.time true [] ∷ [])))) ks)
            (sym made) holds));
        stream = subst (λ t. OwnsStream c.names t new.stream) (sym thread_is) (subst (OwnsStream c.names old.thread) (sym (ap (λ (w : Worker S). w.stream) same)) ready.stream);
        clock = ap (λ (t : TickView). t.clock) tick;
        seen = omega (arith, seen);
        draws = omega (arith, draws, left);
        fit = subst (λ (r : DriverReply). AllFit new.call r rest) (sym (ap (λ (w : Worker S). w.reply) same)) (all_fit old.call new.call old.reply rest out ready.room_is.fit.1);
        sent = omega (arith, full, marked, capacity);
      }

  pub has_begun : HasBegun room c p rest old new
  has_begun =
      let inside = ready.holds.planned.0 in
      let many = ready.holds.slots_are in
      let not_skipped = is_some_not b.driver in
      record {
        call = call_begun p at.before old.thread b.driver b.time (call_shown new.call);
        place = refl;
        begin = refl;
        stepped = record {
          thread = thread_is;
          stream = ap (λ (w : Worker S). w.stream) same;
          places = ap (λ (w : Worker S). w.places) same;
          seat = ap (λ (w : Worker S). w.seat) same;
          later = at.later;
          seen = ap (λ (t : TickView). t.seen) tick;
          gained = subst (λ (ss : List (Option SeenView)). HaveGainedOne old.thread p.place (line old.thread b.time true []) old.tokens.items ss) (sym slots_are)
              (gained_one old.thread p.place (line old.thread b.time true []) old.tokens.items x.name x.list at.before x.token at.past refl (omega (arith, inside, many)));
          grown = subst (λ (ss : List (Option SeenView)). HaveGrown old.tokens.items ss) (sym slots_are)
              (grown_one old.thread p.place (line old.thread b.time true []) old.tokens.items x.name x.list at.before x.token at.past (omega (arith, inside, many)));
        };
        marked = marks ∙ ap (λ (u : Bool). old.sent.items ++ u ∷ []) (sym not_skipped);
        to_send = record {
          opened = opened;
          told = told_one b.driver (call_shown new.call);
          told_is = at.told_is;
          seat = subst (λ (s : S). FitsIn (joined_room (needs_of_begin p.begin) (needs_of_calls rest)) (room s)) (sym (ap (λ (w : Worker S). w.seat) same)) ready.room_is.seat;
          reply = subst (λ (r : DriverReply). length p.begin.results ≤ vec_capacity r.handles) (sym (ap (λ (w : Worker S). w.reply) same)) ready.room_is.fit.0.1;
          front = old.sent.items;
          marked = marks ∙ ap (λ (u : Bool). old.sent.items ++ u ∷ []) (sym not_skipped);
        };
      }
