-- What the workers of a file's streams are made from. Source: this project.
use Rattle.std.specs.Prelude.{◌≡◌, ◌≤◌, ◌<◌, ⊤, ℕ, Some, List, [], ◌∷◌, length, map, slice_get}
use Rattle.std.specs.List.{AllByRecursion}
use Rattle.atomic_table.specs.Seated.{TableId}
use Rattle.stream_log.specs.Log.{OwnerView}
use Rattle.model_driver.specs.Seats.{FitsIn, SeatRoom}
use Rattle.stream_model.specs.Plans.{DevicePlan, events_planned}
use Rattle.shard_start.specs.Starting.{events_in}
use Rattle.device_shard.specs.Making.{results_planned}
use Rattle.device_shard.specs.Shards.{threads_of}
use Rattle.merge_model.specs.Planned.{PlannedCall, calls_at, events_of_calls}
use Rattle.stream_workers.specs.declared.worker.Worker.{Worker}
use Rattle.stream_workers.specs.Held.{list_at}
use Rattle.stream_workers.specs.Work.{Course, IsReady, needs_of_calls}

-- ---- plans and their logs

-- each plan has a stream for each of these threads, in their order
abbrev pub HaveThreads : List ℕ → List DevicePlan → Type 0
HaveThreads threads plans = AllByRecursion (λ (p : DevicePlan). threads_of p.streams ≡ threads) plans

-- a log for a plan is empty, its owner holds the tokens of these threads, and there is room for all events and results
pub record IsNewLog (threads : List ℕ) (p : DevicePlan) (l : TableId × OwnerView) : Type 0 where
  pub log : l.1.log ≡ l.0
  pub list : l.1.list ≡ []
  pub held : l.1.held ≡ threads
  pub entries : events_in p.streams ≤ l.1.entries
  pub results : results_planned p.streams ≤ l.1.results

-- ---- calls

-- these are the calls of a thread's stream: each is the thread's own and at one of the plans, and at each plan they are what it has of the thread
pub record ArePlannedFor (plans : List DevicePlan) (thread : ℕ) (calls : List PlannedCall) : Type 0 where
  pub own : AllByRecursion (λ (c : PlannedCall). c.begin.thread ≡ thread) calls
  pub within : AllByRecursion (λ (c : PlannedCall). c.place < length plans) calls
  pub each : (k : ℕ) (p : DevicePlan) → slice_get plans k ≡ Some p → events_planned p.streams thread ≡ events_of_calls thread (calls_at k calls)

-- so it is for each thread, in order
abbrev pub ArePlanned : List DevicePlan → List ℕ → List (List PlannedCall) → Type 0
ArePlanned plans [] [] = ⊤
ArePlanned plans [] (cs ∷ calls) = ⊥
ArePlanned plans (t ∷ threads) [] = ⊥
ArePlanned plans (t ∷ threads) (cs ∷ calls) = ArePlannedFor plans t cs × ArePlanned plans threads calls

-- the numbers of the plans of calls
abbrev pub places_of : List PlannedCall → List ℕ
places_of calls = map (λ (c : PlannedCall). c.place) calls

-- each seat has room for the calls of its stream
abbrev pub HaveRoom : {S : Type 0} → (S → SeatRoom) → List S → List (List PlannedCall) → Type 0
HaveRoom room [] [] = ⊤
HaveRoom room [] (cs ∷ calls) = ⊥
HaveRoom room (s ∷ seats) [] = ⊥
HaveRoom room (s ∷ seats) (cs ∷ calls) = FitsIn (needs_of_calls cs) (room s) × HaveRoom room seats calls

-- ---- workers

-- a worker for the calls of each stream: it is ready, and knows their places
abbrev pub AreReady : {S : Type 0} → (S → SeatRoom) → Course → List (List PlannedCall) → List (Worker S) → Type 0
AreReady room course [] [] = ⊤
AreReady room course [] (w ∷ workers) = ⊥
AreReady room course (cs ∷ calls) [] = ⊥
AreReady room course (cs ∷ calls) (w ∷ workers) = (IsReady room course cs w × (w.places.items ≡ places_of cs)) × AreReady room course calls workers

-- a worker has made no call, and its tokens have seen nothing
pub record IsUnused {S : Type 0} (w : Worker S) : Type 0 where
  pub sent : w.sent.items ≡ []
  pub lists : (k : ℕ) → list_at w.tokens.items k ≡ []
