-- What the workers of a file have done together, and what is left of them. Source: this project.
use Rattle.std.specs.Prelude.{◌≡◌, ⊤, List, [], ◌∷◌, map}
use Rattle.std.specs.List.{AllByRecursion, AllZip, flat_map}
use Rattle.std.specs.Global.{Vec}
use Rattle.stream_log.specs.declared.entry.Entry.{Entry}
use Rattle.stream_log.specs.Log.{SeenView}
use Rattle.trace_format.specs.declared.event.Name.{Name}
use Rattle.model_driver.specs.Logs.{Log}
use Rattle.model_driver.specs.Seats.{SeatRoom}
use Rattle.stream_model.specs.FileParts.{FileParts, StreamPart}
use Rattle.stream_model.specs.Plans.{DevicePlan}
use Rattle.merge_model.specs.Planned.{PlannedCall}
use Rattle.device_shard.specs.Closing.{IsClosed, IsSeenIn, closed_in, closed_list}
use Rattle.device_shard.specs.Sets.{devices_of}
use Rattle.device_shard.specs.Shards.{ShardName}
use Rattle.stream_crew.specs.Crews.{IsUnused}
use Rattle.stream_workers.specs.declared.worker.Worker.{Worker}
use Rattle.stream_workers.specs.Work.{Course, HasDone}
use Rattle.stream_run.specs.Preparing.{calls_of_file}
use Rattle.stream_run.specs.Spending.{tokens_held}

-- each worker has made the calls of its stream
abbrev pub AllDone : {S : Type 0} → (S → SeatRoom) → (S → Log) → Course → List (List PlannedCall) → List (Worker S) → List (Worker S) → Type 0
AllDone room log c [] [] [] = ⊤
AllDone room log c [] [] (v ∷ new) = ⊥
AllDone room log c [] (w ∷ old) new = ⊥
AllDone room log c (cs ∷ calls) [] new = ⊥
AllDone room log c (cs ∷ calls) (w ∷ old) [] = ⊥
AllDone room log c (cs ∷ calls) (w ∷ old) (v ∷ new) = HasDone room log c cs w v × AllDone room log c calls old new

-- these are workers of a file's streams, with these seats, and have made nothing
pub record AreOf {S : Type 0} (file : FileParts) (seats : List S) (workers : List (Worker S)) : Type 0 where
  pub threads : map (λ (w : Worker S). w.thread) workers ≡ map (λ (s : StreamPart). s.thread) file.streams
  pub seats_are : map (λ (w : Worker S). w.seat) workers ≡ seats
  pub unused : AllByRecursion (IsUnused {S = S}) workers

-- such workers have become these when each had made the calls of its stream
pub record HaveWorked {S : Type 0} (room : S → SeatRoom) (log : S → Log) (c : Course) (file : FileParts) (seats : List S) (workers : List (Worker S)) : Type 0 where
  pub old : List (Worker S)
  pub own : AreOf file seats old
  pub done : AllDone room log c (calls_of_file file) old workers

-- each device with its closed log, and what the tokens of workers have seen of it
pub record IsLeft {S : Type 0} (names : List ShardName) (plans : List DevicePlan) (workers : List (Worker S)) (closed : List (Name × Vec Entry)) : Type 0 where
  pub devices : map (λ (x : Name × Vec Entry). x.0) closed ≡ devices_of names
  pub past : AllByRecursion (λ (t : Name × SeenView). IsSeenIn (closed_in closed t.0) t.1) (flat_map (λ (w : Worker S). tokens_held (map (λ (p : DevicePlan). p.device) plans) w.tokens.items) workers)
  pub follows : AllZip IsClosed names (map closed_list closed)
