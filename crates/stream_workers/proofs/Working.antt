-- One call more of a worker.
use Rattle.std.proofs.Common.{◌≡◌, ◌==◌, ◌+◌, ◌<◌, ◌≤◌, ℕ, zero, suc, Bool, true, false, cond, not, Option, Some, None, List, [], ◌∷◌, ◌++◌, drop, take, length, map, append-nil, append_assoc, refl, sym, ◌∙◌, ap, subst, arith}
use Rattle.std.specs.Prelude.{filter, slice_get}
use Rattle.std.specs.List.{AllByRecursion, flat_map, zip}
use Rattle.std.specs.Option.{option_map}
use Rattle.std.proofs.lemmas.Grind.{flat_map-append}
use Rattle.std.proofs.lemmas.List.{length-map, map-append}
use Rattle.std.proofs.lemmas.List.Elements.{filter-append}
use Rattle.std.proofs.lemmas.Option.{slice_get-map}
use Rattle.command_tables.specs.Calls.{DriverCallContent, ReplyContent}
use Rattle.stream_log.specs.declared.line.Line.{Line}
use Rattle.stream_log.specs.Log.{SeenView}
use Rattle.model_driver.specs.Driver.{reply_shown}
use Rattle.model_driver.specs.Logs.{Log, logged}
use Rattle.model_driver.proofs.Telling.{logged_nothing, logged_twice}
use Rattle.model_driver.specs.Seats.{SeatRoom}
use Rattle.device_shard.specs.Lanes.{replies_read}
use Rattle.device_shard.proofs.Lists.{drop_here, one}
use Rattle.stream_workers.specs.declared.worker.Worker.{Worker}
use Rattle.merge_model.specs.Planned.{PlannedCall}
use Rattle.stream_workers.specs.Calls.{BegunCall, IsMade, MadeCall, RiseBetween, entries_made, exchange_made, planned_of}
use Rattle.stream_workers.specs.Held.{GoesOn, HaveGained, HaveGrown, StandsAt, lines_of_thread, list_at}
use Rattle.stream_workers.specs.Opens.{HasBegun, HasReturned, HasSent}
use Rattle.stream_workers.specs.Work.{Course, HasDone, HasMadeCalls, IsReady, IsReadyFor}
use Rattle.stream_workers.proofs.Holding.{goes_same, goes_through, there}

-- ---- lists

take_next : {X : Type 0} (xs : List X) (k : ℕ) (x : X) → slice_get xs k ≡ Some x → take (suc k) xs ≡ take k xs ++ x ∷ []
take_next [] k x at = cc at
take_next {X = X} (y ∷ xs) zero x at = ap (λ (z : X). z ∷ []) (one y x at)
take_next {X = X} (y ∷ xs) (suc k) x at = ap (λ (zs : List X). y ∷ zs) (take_next xs k x at)

take_all : {X : Type 0} (xs : List X) (k : ℕ) → length xs ≤ k → take k xs ≡ xs
take_all [] zero far = refl
take_all [] (suc k) far = refl
take_all (x ∷ xs) zero far = absurd (omega (arith, far))
take_all {X = X} (x ∷ xs) (suc k) far = ap (λ (zs : List X). x ∷ zs) (take_all xs k (omega (arith, far)))

drop_all : {X : Type 0} (xs : List X) (k : ℕ) → length xs ≤ k → drop k xs ≡ []
drop_all [] zero far = refl
drop_all [] (suc k) far = refl
drop_all (x ∷ xs) zero far = absurd (omega (arith, far))
drop_all (x ∷ xs) (suc k) far = drop_all xs k (omega (arith, far))

all_push : {X : Type 0} (P : X → Type 0) (xs : List X) (x : X) → AllByRecursion P xs → P x → AllByRecursion P (xs ++ x ∷ [])
all_push P [] x all last = (last, tt)
all_push P (y ∷ xs) x all last = (all.0, all_push P xs x all.1 last)

-- ---- what a call adds

rise_push : (from between upto : ℕ) (calls : List MadeCall) (m : MadeCall) → RiseBetween from calls between → between < m.begun.entry.time → upto ≡ m.entry.time → RiseBetween from (calls ++ m ∷ []) upto
rise_push from between upto [] m rise later last = (omega (arith, rise, later), omega (arith, last))
rise_push from between upto (c ∷ calls) m rise later last = (rise.0, rise_push c.entry.time between upto calls m rise.1 later last)

entries_push : (k : ℕ) (calls : List MadeCall) (m : MadeCall) → entries_made k (calls ++ m ∷ []) ≡ entries_made k calls ++ cond (m.begun.place == k) (m.begun.entry ∷ m.entry ∷ []) []
entries_push k calls m =
    ap (flat_map (λ (x : MadeCall). x.begun.entry ∷ x.entry ∷ [])) (filter-append (λ (x : MadeCall). x.begun.place == k) calls (m ∷ []))
    ∙ (flat_map-append (λ (x : MadeCall). x.begun.entry ∷ x.entry ∷ []) (filter (λ (x : MadeCall). x.begun.place == k) calls) (filter (λ (x : MadeCall). x.begun.place == k) (m ∷ []))
    ∙ ap (λ (es : List Line). entries_made k calls ++ es) (go (m.begun.place == k)))
  where
    go : (u : Bool) → flat_map (λ (x : MadeCall). x.begun.entry ∷ x.entry ∷ []) (cond u (m ∷ []) []) ≡ cond u (m.begun.entry ∷ m.entry ∷ []) []
    go true = refl
    go false = refl

exchanges_push : (calls : List MadeCall) (m : MadeCall) → flat_map exchange_made (calls ++ m ∷ []) ≡ flat_map exchange_made calls ++ exchange_made m
exchanges_push calls m = flat_map-append exchange_made calls (m ∷ []) ∙ ap (λ (xs : List (DriverCallContent × ReplyContent)). flat_map exchange_made calls ++ xs) (append-nil (exchange_made m))

-- two entries more at one plan
two_more : (u : Bool) (lines calls : List Line) (e f : Line) → ((lines ++ calls) ++ cond u (e ∷ []) []) ++ cond u (f ∷ []) [] ≡ lines ++ (calls ++ cond u (e ∷ f ∷ []) [])
two_more true lines calls e f = append_assoc (lines ++ calls) (e ∷ []) (f ∷ []) ∙ append_assoc lines calls (e ∷ f ∷ [])
two_more false lines calls e f = append-nil ((lines ++ calls) ++ []) ∙ append_assoc lines calls []

-- calls that stood in what the tokens had seen
still_stand : (old new : List (Option SeenView)) (calls : List MadeCall) → HaveGrown old new → AllByRecursion (StandsAt old) calls → AllByRecursion (StandsAt new) calls
still_stand old new [] grown stand = tt
still_stand old new (m ∷ calls) grown stand =
    (goes_through (m.until ++ m.entry ∷ []) (list_at old m.begun.place) (list_at new m.begun.place) stand.0 (grown m.begun.place), still_stand old new calls grown stand.1)

-- ---- so far

-- so many of the planned calls were made
pub record Reached {S : Type 0} (room : S → SeatRoom) (log : S → Log) (c : Course) (planned : List PlannedCall) (k : ℕ) (old new : Worker S) : Type 0 where
  pub calls : List MadeCall
  pub are : map planned_of calls ≡ take k planned
  pub done : HasMadeCalls log c calls old new
  pub ready : IsReady room c (drop k planned) new
  pub places : new.places ≡ old.places

pub none_yet : {S : Type 0} (room : S → SeatRoom) (log : S → Log) (c : Course) (planned : List PlannedCall) (w : Worker S) → IsReadyFor room c planned w → Reached room log c planned 0 w w
none_yet room log c planned w is =
    record {
      calls = [];
      are = refl;
      done = record {
        thread = refl;
        stream = refl;
        made = tt;
        rise = omega arith;
        gained = λ k. sym (append-nil (lines_of_thread w.thread (list_at w.tokens.items k)));
        grown = λ k. goes_same (list_at w.tokens.items k) (list_at w.tokens.items k) refl;
        stand = tt;
        told = logged_nothing (log w.seat);
        sent = sym (append-nil w.sent.items);
      };
      ready = is.ready;
      places = refl;
    }

-- which call is next
pub record NextOf (planned : List PlannedCall) (k place : ℕ) : Type 0 where
  pub call : PlannedCall
  pub at : slice_get planned k ≡ Some call
  pub rest : drop k planned ≡ call ∷ drop (suc k) planned
  pub place_is : call.place ≡ place

pub next_of : (planned : List PlannedCall) (places : List ℕ) (k place : ℕ) → map (λ (p : PlannedCall). p.place) planned ≡ places → slice_get places k ≡ Some place → k < length places → NextOf planned k place
next_of planned places k place are at far =
    let many = ap length are in
    let long = length-map planned (λ (p : PlannedCall). p.place) in
    let it = there planned k (omega (arith, far, many, long)) in
    record {
      call = it.0;
      at = it.1;
      rest = drop_here planned k it.0 it.1;
      place_is = one it.0.place place (sym (slice_get-map (λ (p : PlannedCall). p.place) planned k ∙ ap (option_map (λ (p : PlannedCall). p.place)) it.1) ∙ (ap (λ (ps : List ℕ). slice_get ps k) are ∙ at));
    }

module _ {S : Type 0} (room : S → SeatRoom) (log : S → Log) (c : Course) (planned : List PlannedCall) (k place : ℕ) (old w x y z : Worker S) (so_far : Reached room log c planned k old w) (next : NextOf planned k place)
    (begun : HasBegun room c next.call (drop (suc k) planned) w x) (sent : HasSent room log c begun.call (drop (suc k) planned) x y) (returned : HasReturned room c begun.call (drop (suc k) planned) y z) where
  thread_x : x.thread ≡ old.thread
  thread_x = begun.stepped.thread ∙ so_far.done.thread

  thread_y : y.thread ≡ old.thread
  thread_y = ap (λ (v : Worker S). v.thread) sent.same ∙ thread_x

  begins : returned.call.begun ≡ begun.call
  begins = returned.begun

  place_of : returned.call.begun.place ≡ next.call.place
  place_of = ap (λ (b : BegunCall). b.place) begins ∙ begun.place

  plan_of : planned_of returned.call ≡ next.call
  plan_of =
      ap (λ k. record { place = k; begin = returned.call.begun.begin }) place_of
      ∙ ap (λ b. record { place = next.call.place; begin = b }) (ap (λ (b : BegunCall). b.begin) begins ∙ begun.begin)

  gains : HaveGained old.thread (so_far.calls ++ returned.call ∷ []) old.tokens.items z.tokens.items
  gains j =
      let first : lines_of_thread old.thread (list_at x.tokens.items j) ≡ lines_of_thread old.thread (list_at w.tokens.items j) ++ cond (returned.call.begun.place == j) (returned.call.begun.entry ∷ []) [] =
      subst (λ t. lines_of_thread t (list_at x.tokens.items j) ≡ lines_of_thread t (list_at w.tokens.items j) ++ cond (returned.call.begun.place == j) (returned.call.begun.entry ∷ []) []) so_far.done.thread
      (subst (λ (e : Line). lines_of_thread w.thread (list_at x.tokens.items j) ≡ lines_of_thread w.thread (list_at w.tokens.items j) ++ cond (returned.call.begun.place == j) (e ∷ []) []) (ap (λ (b : BegunCall). b.entry) (sym begins))
      (subst (λ p. lines_of_thread w.thread (list_at x.tokens.items j) ≡ lines_of_thread w.thread (list_at w.tokens.items j) ++ cond (p == j) (begun.call.entry ∷ []) []) (sym place_of) (begun.stepped.gained j))) in
      let second : lines_of_thread old.thread (list_at z.tokens.items j) ≡ lines_of_thread old.thread (list_at y.tokens.items j) ++ cond (returned.call.begun.place == j) (returned.call.entry ∷ []) [] =
      subst (λ t. lines_of_thread t (list_at z.tokens.items j) ≡ lines_of_thread t (list_at y.tokens.items j) ++ cond (returned.call.begun.place == j) (returned.call.entry ∷ []) []) thread_y
      (subst (λ p. lines_of_thread y.thread (list_at z.tokens.items j) ≡ lines_of_thread y.thread (list_at y.tokens.items j) ++ cond (p == j) (returned.call.entry ∷ []) []) (ap (λ (b : BegunCall). b.place) (sym begins)) (returned.stepped.gained j)) in
      let same : lines_of_thread old.thread (list_at y.tokens.items j) ≡ lines_of_thread old.thread (list_at x.tokens.items j) = ap (λ (v : Worker S). lines_of_thread old.thread (list_at v.tokens.items j)) sent.same in
      second
      ∙ (ap (λ (es : List Line). es ++ cond (returned.call.begun.place == j) (returned.call.entry ∷ []) [])
      (same ∙ (first ∙ ap (λ (es : List Line). es ++ cond (returned.call.begun.place == j) (returned.call.begun.entry ∷ []) []) (so_far.done.gained j)))
      ∙ (two_more (returned.call.begun.place == j) (lines_of_thread old.thread (list_at old.tokens.items j)) (entries_made j so_far.calls) returned.call.begun.entry returned.call.entry
      ∙ ap (λ (es : List Line). lines_of_thread old.thread (list_at old.tokens.items j) ++ es) (sym (entries_push j so_far.calls returned.call))))

  grows : HaveGrown w.tokens.items z.tokens.items
  grows j =
      let same : GoesOn (list_at x.tokens.items j) (list_at y.tokens.items j) = goes_same (list_at x.tokens.items j) (list_at y.tokens.items j) (ap (λ (v : Worker S). list_at v.tokens.items j) sent.same) in
      goes_through (list_at w.tokens.items j) (list_at x.tokens.items j) (list_at z.tokens.items j) (begun.stepped.grown j)
      (goes_through (list_at x.tokens.items j) (list_at y.tokens.items j) (list_at z.tokens.items j) same (returned.stepped.grown j))

  exchanged : zip begun.call.told (replies_read begun.call.skip (reply_shown y.reply)) ≡ exchange_made returned.call
  exchanged =
      ap (λ (b : BegunCall). zip b.told (replies_read b.skip (reply_shown y.reply))) (sym begins)
      ∙ ap (λ (r : ReplyContent). zip returned.call.begun.told (replies_read returned.call.begun.skip r)) (sym returned.reply)

  tells : log z.seat ≡ logged (log old.seat) (flat_map exchange_made (so_far.calls ++ returned.call ∷ []))
  tells =
      ap log returned.stepped.seat
      ∙ (sent.told
      ∙ (ap (λ (l : Log). logged l (zip begun.call.told (replies_read begun.call.skip (reply_shown y.reply)))) (ap log begun.stepped.seat ∙ so_far.done.told)
      ∙ (logged_twice (log old.seat) (flat_map exchange_made so_far.calls) (zip begun.call.told (replies_read begun.call.skip (reply_shown y.reply)))
      ∙ ap (logged (log old.seat)) (ap (λ (xs : List (DriverCallContent × ReplyContent)). flat_map exchange_made so_far.calls ++ xs) exchanged ∙ sym (exchanges_push so_far.calls returned.call)))))

  marks : z.sent.items ≡ old.sent.items ++ map (λ (m : MadeCall). not m.begun.skip) (so_far.calls ++ returned.call ∷ [])
  marks =
      ap (λ v. v.items) returned.sent
      ∙ (ap (λ (v : Worker S). v.sent.items) sent.same
      ∙ (begun.marked
      ∙ (ap (λ (ms : List Bool). ms ++ not begun.call.skip ∷ []) so_far.done.sent
      ∙ (append_assoc old.sent.items (map (λ (m : MadeCall). not m.begun.skip) so_far.calls) (not begun.call.skip ∷ [])
      ∙ ap (λ (ms : List Bool). old.sent.items ++ ms)
      (ap (λ (b : BegunCall). map (λ (m : MadeCall). not m.begun.skip) so_far.calls ++ not b.skip ∷ []) (sym begins) ∙ sym (map-append (λ (m : MadeCall). not m.begun.skip) so_far.calls (returned.call ∷ [])))))))

  pub reached_more : Reached room log c planned (k + 1) old z
  reached_more =
      let next_k : suc k ≡ k + 1 = omega arith in
      let later_x = begun.stepped.later in
      let later : w.tick.seen < returned.call.begun.entry.time = subst (λ (b : BegunCall). w.tick.seen < b.entry.time) (sym begins) later_x in
      subst (λ i. Reached room log c planned i old z) next_k (record {
        calls = so_far.calls ++ returned.call ∷ [];
        are = map-append planned_of so_far.calls (returned.call ∷ []) ∙ (ap (λ (ps : List PlannedCall). ps ++ planned_of returned.call ∷ []) so_far.are ∙ (ap (λ (p : PlannedCall). take k planned ++ p ∷ []) plan_of ∙ sym (take_next planned k next.call next.at)));
        done = record {
          thread = returned.stepped.thread ∙ thread_y;
          stream = returned.stepped.stream ∙ (ap (λ (v : Worker S). v.stream) sent.same ∙ (begun.stepped.stream ∙ so_far.done.stream));
          made = all_push (IsMade c.names old.thread) so_far.calls returned.call so_far.done.made (subst (λ t. IsMade c.names t returned.call) thread_y returned.made);
          rise = rise_push old.tick.seen w.tick.seen z.tick.seen so_far.calls returned.call so_far.done.rise later returned.stepped.seen;
          gained = gains;
          grown = λ j. goes_through (list_at old.tokens.items j) (list_at w.tokens.items j) (list_at z.tokens.items j) (so_far.done.grown j) (grows j);
          stand = all_push (StandsAt z.tokens.items) so_far.calls returned.call (still_stand w.tokens.items z.tokens.items so_far.calls grows so_far.done.stand) returned.stands;
          told = tells;
          sent = marks;
        };
        ready = returned.ready;
        places = returned.stepped.places ∙ (ap (λ (v : Worker S). v.places) sent.same ∙ (begun.stepped.places ∙ so_far.places));
      })

pub all_done : {S : Type 0} (room : S → SeatRoom) (log : S → Log) (c : Course) (planned : List PlannedCall) (k : ℕ) (old new : Worker S) → length planned ≤ k → Reached room log c planned k old new → HasDone room log c planned old new
all_done room log c planned k old new far so_far =
    record { calls = so_far.calls; are = so_far.are ∙ take_all planned k far; done = so_far.done; ready = subst (λ (ps : List PlannedCall). IsReady room c ps new) (drop_all planned k far) so_far.ready }
