-- The calls of threads as the logs of devices have them. Source: this project.
use Rattle.std.specs.Prelude.{◌≡◌, ◌==◌, ◌<◌, ⊤, ℕ, true, false, None, List, [], ◌∷◌, filter, map, reverse}
use Rattle.std.specs.List.{AllByRecursion, IsDistinct, flat_map, list_any, slice_index_or}
use Rattle.stream_log.specs.declared.line.Line.{Line}
use Rattle.trace_format.specs.declared.event.Name.{Name}
use Rattle.trace_format.specs.Accepting.{same_name}
use Rattle.stream_model.specs.FileLines.{FileLine}
use Rattle.stream_model.specs.FileParts.{AreInOrder, FileParts, StreamPart, parts}
use Rattle.stream_model.specs.Order.{refusal_at_end}
use Rattle.stream_model.specs.Plans.{device_written}
use Rattle.merge_model.specs.Planned.{AreOnThese, PlannedCall, calls_planned}
use Rattle.log_merge.specs.Halves.{in_log}
use Rattle.log_merge.specs.Merged.{NumberedLine}

-- ---- the calls of one thread

-- a call: what was planned of it, and the entries of its begin and of its return, both in the log with the plan's number
pub record LoggedCall : Type 0 where
  pub planned : PlannedCall
  pub first : Line
  pub last : Line

-- both entries are the thread's
pub record IsLoggedFor (thread : ℕ) (c : LoggedCall) : Type 0 where
  pub begins : c.first.begins ≡ true
  pub returns : c.last.begins ≡ false
  pub first_own : c.first.thread ≡ thread
  pub last_own : c.last.thread ≡ thread

-- the times of a thread's calls rise
abbrev pub Rise : ℕ → List LoggedCall → Type 0
Rise from [] = ⊤
Rise from (c ∷ calls) = (from < c.first.time) × (c.first.time < c.last.time) × Rise c.last.time calls

-- the entries of calls, in their order
abbrev pub entries_of : List LoggedCall → List Line
entries_of calls = flat_map (λ (c : LoggedCall). c.first ∷ c.last ∷ []) calls

-- those in the log with a number
abbrev pub entries_in : ℕ → List LoggedCall → List Line
entries_in k calls = entries_of (filter (λ (c : LoggedCall). c.planned.place == k) calls)

-- those of a thread in a log
abbrev pub lines_of_thread : ℕ → List Line → List Line
lines_of_thread thread list = filter (λ (e : Line). e.thread == thread) list

-- These are a thread's calls, oldest first, and each log has of the thread just their entries there.
pub record AreLoggedBy (logs : List (List Line)) (thread : ℕ) (calls : List LoggedCall) : Type 0 where
  pub own : AllByRecursion (IsLoggedFor thread) calls
  pub rise : Rise 0 calls
  pub each : (k : ℕ) → lines_of_thread thread (slice_index_or logs k []) ≡ entries_in k calls

-- ---- the calls of all threads

-- these are the calls of each stream, as it has them
abbrev pub AllLogged : FileParts → List Name → List (List Line) → List StreamPart → List (List LoggedCall) → Type 0
AllLogged file devices logs [] [] = ⊤
AllLogged file devices logs [] (cs ∷ calls) = ⊥
AllLogged file devices logs (s ∷ streams) [] = ⊥
AllLogged file devices logs (s ∷ streams) (cs ∷ calls) =
    (AreLoggedBy logs s.thread cs × (map (λ (c : LoggedCall). c.planned) cs ≡ calls_planned (device_written file) devices s.events)) × AllLogged file devices logs streams calls

-- an entry is of a thread that has a stream
abbrev pub IsOfStream : List StreamPart → Line → Type 0
IsOfStream streams e = list_any (λ (s : StreamPart). s.thread == e.thread) streams ≡ true

-- Logs of the devices of a whole file: they have all calls of its streams, and nothing else.
pub record AreLogsOf (lines : List FileLine) (devices : List Name) (logs : List (List Line)) (calls : List (List LoggedCall)) : Type 0 where
  pub order : AreInOrder lines
  pub whole : refusal_at_end lines ≡ None
  pub distinct : IsDistinct same_name devices
  pub on : AreOnThese (parts lines) devices
  pub streams : AllLogged (parts lines) devices logs (parts lines).streams calls
  pub owned : AllByRecursion (λ (log : List Line). AllByRecursion (IsOfStream (parts lines).streams) log) logs

-- ---- entries in one order

-- the entries of calls with their logs' numbers, in their order
abbrev pub numbered_entries : List LoggedCall → List NumberedLine
numbered_entries calls = flat_map (λ (c : LoggedCall). in_log c.planned.place c.first ∷ in_log c.planned.place c.last ∷ []) calls

-- those of a thread
abbrev pub lines_between : ℕ → List NumberedLine → List NumberedLine
lines_between thread merged = filter (λ (x : NumberedLine). x.line.thread == thread) merged

-- the turns that entries are, the newest first
abbrev pub turns_behind : List NumberedLine → List ℕ
turns_behind merged = reverse (map (λ (x : NumberedLine). x.line.thread) merged)
