-- What workers that are done have made.
use Rattle.std.proofs.Common.{◌≡◌, ◌∙◌, ◌+◌, ◌<◌, ◌≤◌, ℕ, zero, suc, Bool, Option, List, [], ◌∷◌, ◌++◌, append_assoc, length, map, refl, sym, ap, subst, arith}
use Rattle.std.specs.Prelude.{not}
use Rattle.std.specs.List.{AllByRecursion, slice_index_or}
use Rattle.stream_log.specs.declared.line.Line.{Line}
use Rattle.stream_log.specs.Log.{SeenView}
use Rattle.model_driver.specs.Logs.{Log}
use Rattle.model_driver.specs.Seats.{SeatRoom}
use Rattle.stream_model.specs.FileParts.{StreamPart}
use Rattle.merge_model.specs.Planned.{PlannedCall}
use Rattle.merge_facts.specs.Logged.{lines_of_thread}
use Rattle.device_shard.specs.Shards.{ShardName}
use Rattle.stream_crew.specs.Crews.{AreReady, HaveRoom, IsUnused}
use Rattle.stream_workers.specs.declared.worker.Worker.{Worker}
use Rattle.stream_workers.specs.Calls.{IsMade, MadeCall, RiseBetween, entries_made, planned_of}
use Rattle.stream_workers.specs.Held.{GoesOn, StandsAt, list_at}
use Rattle.stream_workers.specs.Work.{Course, HasDone, IsReadyFor}
use Rattle.stream_workers.proofs.Holding.{goes_through}
use Rattle.stream_run.specs.Running.{AreMadeBy, HaveTold, IsMadeBy, StandsIn, marks_of}
use Rattle.stream_run.specs.Working.{AllDone}

-- ---- each worker is done

pub all_done : {S : Type 0} (room : S → SeatRoom) (log : S → Log) (c : Course) (calls : List (List PlannedCall)) (old new : List (Worker S)) → AreReady room c calls old → length new ≡ length old
    → ((i : ℕ) (d : Worker S) → i < length old → (planned : List PlannedCall) → IsReadyFor room c planned (slice_index_or old i d) → HasDone room log c planned (slice_index_or old i d) (slice_index_or new i d)) → AllDone room log c calls old new
all_done room log c [] [] [] ready count each = tt
all_done room log c [] [] (v ∷ new) ready count each = absurd (omega (arith, count))
all_done room log c [] (w ∷ old) new ready count each = absurd ready
all_done room log c (cs ∷ calls) [] new ready count each = absurd ready
all_done room log c (cs ∷ calls) (w ∷ old) [] ready count each = absurd (omega (arith, count))
all_done room log c (cs ∷ calls) (w ∷ old) (v ∷ new) ready count each = (
  each zero w (omega arith) cs (record { ready = ready.0.0; places = sym ready.0.1 }),
  all_done room log c calls old new ready.1 (omega (arith, count)) (λ i d less. each (suc i) d (omega (arith, less))),
)

-- the calls that they have made
abbrev pub calls_done : {S : Type 0} (room : S → SeatRoom) (log : S → Log) (c : Course) (calls : List (List PlannedCall)) (old new : List (Worker S)) → AllDone room log c calls old new → List (List MadeCall)
calls_done room log c [] [] [] done = []
calls_done room log c [] [] (v ∷ new) done = []
calls_done room log c [] (w ∷ old) new done = []
calls_done room log c (cs ∷ calls) [] new done = []
calls_done room log c (cs ∷ calls) (w ∷ old) [] done = []
calls_done room log c (cs ∷ calls) (w ∷ old) (v ∷ new) done = done.0.calls ∷ calls_done room log c calls old new done.1

-- ---- what follows of each

pub done_planned : {S : Type 0} (room : S → SeatRoom) (log : S → Log) (c : Course) (calls : List (List PlannedCall)) (old new : List (Worker S)) (done : AllDone room log c calls old new) → map (map planned_of) (calls_done room log c calls old new done) ≡ calls
done_planned room log c [] [] [] done = refl
done_planned room log c [] [] (v ∷ new) done = absurd done
done_planned room log c [] (w ∷ old) new done = absurd done
done_planned room log c (cs ∷ calls) [] new done = absurd done
done_planned room log c (cs ∷ calls) (w ∷ old) [] done = absurd done
done_planned room log c (cs ∷ calls) (w ∷ old) (v ∷ new) done =
    ap (λ (ds : List PlannedCall). ds ∷ map (map planned_of) (calls_done room log c calls old new done.1)) done.0.are ∙ ap (λ (dss : List (List PlannedCall)). cs ∷ dss) (done_planned room log c calls old new done.1)

pub done_told : {S : Type 0} (room : S → SeatRoom) (log : S → Log) (c : Course) (calls : List (List PlannedCall)) (old new : List (Worker S)) (done : AllDone room log c calls old new)
    → HaveTold log (calls_done room log c calls old new done) (map (λ (w : Worker S). w.seat) old) (map (λ (w : Worker S). w.seat) new)
done_told room log c [] [] [] done = tt
done_told room log c [] [] (v ∷ new) done = absurd done
done_told room log c [] (w ∷ old) new done = absurd done
done_told room log c (cs ∷ calls) [] new done = absurd done
done_told room log c (cs ∷ calls) (w ∷ old) [] done = absurd done
done_told room log c (cs ∷ calls) (w ∷ old) (v ∷ new) done = (done.0.done.told, done_told room log c calls old new done.1)

pub done_sent : {S : Type 0} (room : S → SeatRoom) (log : S → Log) (c : Course) (calls : List (List PlannedCall)) (old new : List (Worker S)) (done : AllDone room log c calls old new) → AllByRecursion (IsUnused {S = S}) old
    → map (λ (w : Worker S). w.sent.items) new ≡ marks_of (calls_done room log c calls old new done)
done_sent room log c [] [] [] done unused = refl
done_sent room log c [] [] (v ∷ new) done unused = absurd done
done_sent room log c [] (w ∷ old) new done unused = absurd done
done_sent room log c (cs ∷ calls) [] new done unused = absurd done
done_sent room log c (cs ∷ calls) (w ∷ old) [] done unused = absurd done
done_sent {S} room log c (cs ∷ calls) (w ∷ old) (v ∷ new) done unused =
    let marks : List MadeCall → List Bool = λ (ms : List MadeCall). map (λ (m : MadeCall). not m.begun.skip) ms in
    let here : v.sent.items ≡ marks done.0.calls = done.0.done.sent ∙ ap (λ (bs : List Bool). bs ++ marks done.0.calls) unused.0.sent in
    ap (λ (bs : List Bool). bs ∷ map (λ (u : Worker S). u.sent.items) new) here ∙ ap (λ (bss : List (List Bool)). marks done.0.calls ∷ bss) (done_sent room log c calls old new done.1 unused.1)

-- ---- what each thread has made

rise_sooner : (from sooner : ℕ) (calls : List MadeCall) (upto : ℕ) → sooner ≤ from → RiseBetween from calls upto → RiseBetween sooner calls upto
rise_sooner from sooner [] upto less rise = omega (arith, less, rise)
rise_sooner from sooner (m ∷ calls) upto less rise = let first : from < m.begun.entry.time = rise.0 in (omega (arith, less, first), rise.1)

-- a log has of the thread of each worker what the worker's token has seen of it, and goes on from what the token has seen
abbrev pub Sees : {S : Type 0} → List (List Line) → Worker S → Type 0
Sees logs w = (k : ℕ) → (lines_of_thread w.thread (slice_index_or logs k []) ≡ lines_of_thread w.thread (list_at w.tokens.items k)) × GoesOn (list_at w.tokens.items k) (slice_index_or logs k [])

-- a call that stands in what tokens have seen stands in logs that go on from it
stands_in : (names : List ShardName) (logs : List (List Line)) (slots : List (Option SeenView)) (t : ℕ) (m : MadeCall) → IsMade names t m → StandsAt slots m → GoesOn (list_at slots m.begun.place) (slice_index_or logs m.begun.place []) → StandsIn logs m
stands_in names logs slots t m made stands goes =
    let past = made.past in
    let log = goes_through (m.until ++ m.entry ∷ []) (list_at slots m.begun.place) (slice_index_or logs m.begun.place []) stands goes in
    record {
      later = past.0 ++ m.entry ∷ log.0;
      is = log.1
          ∙ (append_assoc m.until (m.entry ∷ []) log.0
          ∙ (ap (λ (es : List Line). es ++ m.entry ∷ log.0) past.1
          ∙ (append_assoc (m.begun.before ++ m.begun.entry ∷ []) past.0 (m.entry ∷ log.0) ∙ append_assoc m.begun.before (m.begun.entry ∷ []) (past.0 ++ m.entry ∷ log.0))));
    }

all_stand_in : (names : List ShardName) (logs : List (List Line)) (slots : List (Option SeenView)) (t : ℕ) (calls : List MadeCall) → AllByRecursion (IsMade names t) calls → AllByRecursion (StandsAt slots) calls
    → ((k : ℕ) → GoesOn (list_at slots k) (slice_index_or logs k [])) → AllByRecursion (StandsIn logs) calls
all_stand_in names logs slots t [] made stand goes = tt
all_stand_in names logs slots t (m ∷ calls) made stand goes = (stands_in names logs slots t m made.0 stand.0 (goes m.begun.place), all_stand_in names logs slots t calls made.1 stand.1 goes)

made_by : {S : Type 0} (room : S → SeatRoom) (log : S → Log) (c : Course) (logs : List (List Line)) (t : ℕ) (cs : List PlannedCall) (w v : Worker S) (done : HasDone room log c cs w v) → w.thread ≡ t → IsUnused w → Sees logs v → IsMadeBy c.names logs t done.calls
made_by room log c logs t cs w v done own unused sees = record {
  made = subst (λ (u : ℕ). AllByRecursion (IsMade c.names u) done.calls) own done.done.made;
  upto = v.tick.seen;
  rise = rise_sooner w.tick.seen 0 done.calls v.tick.seen (omega arith) done.done.rise;
  each = λ k.
      let there : v.thread ≡ t = done.done.thread ∙ own in
      let seen = subst (λ (u : ℕ). lines_of_thread u (slice_index_or logs k []) ≡ lines_of_thread u (list_at v.tokens.items k)) there (sees k).0 in
      let gained = subst (λ (u : ℕ). lines_of_thread u (list_at v.tokens.items k) ≡ lines_of_thread u (list_at w.tokens.items k) ++ entries_made k done.calls) own (done.done.gained k) in
      seen ∙ (gained ∙ ap (λ (es : List Line). lines_of_thread t es ++ entries_made k done.calls) (unused.lists k));
  stand = all_stand_in c.names logs v.tokens.items w.thread done.calls done.done.made done.done.stand (λ k. (sees k).1);
}

pub done_made : {S : Type 0} (room : S → SeatRoom) (log : S → Log) (c : Course) (logs : List (List Line)) (streams : List StreamPart) (calls : List (List PlannedCall)) (old new : List (Worker S)) (done : AllDone room log c calls old new)
    → map (λ (w : Worker S). w.thread) old ≡ map (λ (s : StreamPart). s.thread) streams → AllByRecursion (IsUnused {S = S}) old → AllByRecursion (Sees logs) new → AreMadeBy c.names logs streams (calls_done room log c calls old new done)
done_made room log c logs [] [] [] [] done threads unused sees = tt
done_made room log c logs (s ∷ streams) [] [] [] done threads unused sees = cc threads
done_made room log c logs streams [] [] (v ∷ new) done threads unused sees = absurd done
done_made room log c logs streams [] (w ∷ old) new done threads unused sees = absurd done
done_made room log c logs streams (cs ∷ calls) [] new done threads unused sees = absurd done
done_made room log c logs streams (cs ∷ calls) (w ∷ old) [] done threads unused sees = absurd done
done_made room log c logs [] (cs ∷ calls) (w ∷ old) (v ∷ new) done threads unused sees = cc threads
done_made {S} room log c logs (s ∷ streams) (cs ∷ calls) (w ∷ old) (v ∷ new) done threads unused sees =
    let here : w.thread ≡ s.thread = cc threads in
    let rest : map (λ (u : Worker S). u.thread) old ≡ map (λ (x : StreamPart). x.thread) streams = cc threads in
    (made_by room log c logs s.thread cs w v done.0 here unused.0 sees.0, done_made room log c logs streams calls old new done.1 rest unused.1 sees.1)

-- ---- how many there are

pub as_many_seats : {S : Type 0} (room : S → SeatRoom) (seats : List S) (calls : List (List PlannedCall)) → HaveRoom room seats calls → length seats ≡ length calls
as_many_seats room [] [] have = refl
as_many_seats room [] (cs ∷ calls) have = absurd have
as_many_seats room (s ∷ seats) [] have = absurd have
as_many_seats room (s ∷ seats) (cs ∷ calls) have = ap (λ (n : ℕ). suc n) (as_many_seats room seats calls have.1)

-- what is needed of each worker
pub each_ready : {S : Type 0} (room : S → SeatRoom) (c : Course) (calls : List (List PlannedCall)) (workers : List (Worker S)) → AreReady room c calls workers → (i : ℕ) (d : Worker S) → i < length workers → (planned : List PlannedCall) × IsReadyFor room c planned (slice_index_or workers i d)
each_ready room c [] [] ready i d less = absurd (omega (arith, less))
each_ready room c [] (w ∷ workers) ready i d less = absurd ready
each_ready room c (cs ∷ calls) [] ready i d less = absurd ready
each_ready room c (cs ∷ calls) (w ∷ workers) ready zero d less = (cs, record { ready = ready.0.0; places = sym ready.0.1 })
each_ready room c (cs ∷ calls) (w ∷ workers) ready (suc i) d less = each_ready room c calls workers ready.1 i d (omega (arith, less))
