-- What a thread holds at the logs of all plans, while it makes the calls of its stream. Source: this project.
use Rattle.std.specs.Prelude.{◌≡◌, ◌==◌, ◌+◌, ◌<◌, ℕ, if◌then◌else◌, Option, Some, List, [], ◌∷◌, ◌++◌, drop, filter, length, option_and_then, slice_get}
use Rattle.std.specs.List.{AllByRecursion, slice_index_or}
use Rattle.std.specs.Option.{option_map_or}
use Rattle.stream_log.specs.declared.line.Line.{Line}
use Rattle.stream_log.specs.Log.{SeenView, seen_view}
use Rattle.trace_format.specs.Content.{TraceEvent, Return}
use Rattle.stream_model.specs.Plans.{events_planned, turns_of}
use Rattle.shard_model.specs.Followed.{turns_in}
use Rattle.device_shard.specs.Shards.{ShardName}
use Rattle.merge_model.specs.Planned.{PlannedCall, calls_at, events_of_calls}
use Rattle.stream_workers.specs.Calls.{BegunCall, MadeCall, entries_made}

-- the token of a thread at the log of a plan, which has seen this list: so many of the thread's steps, and these events are to come
pub record HasSeen (n : ShardName) (thread : ℕ) (list : List Line) (made : ℕ) (events : List TraceEvent) : Type 0 where
  pub made_is : made ≡ turns_of thread (turns_in list)
  pub left : drop made (events_planned n.plan.streams thread) ≡ events

-- what stands in a slot
abbrev pub token_at : List (Option SeenView) → ℕ → Option SeenView
token_at slots k = option_and_then (λ (slot : Option SeenView). slot) (slice_get slots k)

-- A thread holds its token of each plan's log, and counts its steps there; what each plan has left for it are the events of these calls of its stream, of which each is
-- the thread's own.
pub record Holds (names : List ShardName) (thread : ℕ) (rest : List PlannedCall) (slots : List (Option SeenView)) (made : List ℕ) : Type 0 where
  pub slots_are : length slots ≡ length names
  pub made_are : length made ≡ length names
  pub own : AllByRecursion (λ (c : PlannedCall). c.begin.thread ≡ thread) rest
  pub planned : AllByRecursion (λ (c : PlannedCall). c.place < length names) rest
  pub each : (k : ℕ) (n : ShardName) → slice_get names k ≡ Some n →
      (list : List Line) × (token_at slots k ≡ Some (seen_view n.log thread list)) × HasSeen n thread list (slice_index_or made k 0) (events_of_calls thread (calls_at k rest))

-- what is to come of a plan behind the begin of a call: at the call's own plan its return comes first
abbrev pub events_behind : ℕ → ℕ → ℕ → List PlannedCall → List TraceEvent
events_behind thread place k rest = if place == k then Return thread ∷ events_of_calls thread (calls_at k rest) else events_of_calls thread (calls_at k rest)

-- what a thread has seen last at the call's own plan is the entry of the call's begin
abbrev pub EndsIn : BegunCall → ℕ → List Line → Type 0
EndsIn c k list = c.place ≡ k → list ≡ c.before ++ c.entry ∷ []

-- the same while a call is open
pub record HoldsOpen (names : List ShardName) (thread : ℕ) (c : BegunCall) (rest : List PlannedCall) (slots : List (Option SeenView)) (made : List ℕ) : Type 0 where
  pub slots_are : length slots ≡ length names
  pub made_are : length made ≡ length names
  pub own : AllByRecursion (λ (p : PlannedCall). p.begin.thread ≡ thread) rest
  pub planned : AllByRecursion (λ (p : PlannedCall). p.place < length names) rest
  pub each : (k : ℕ) (n : ShardName) → slice_get names k ≡ Some n →
      (list : List Line) × (token_at slots k ≡ Some (seen_view n.log thread list)) × HasSeen n thread list (slice_index_or made k 0) (events_behind thread c.place k rest) × EndsIn c k list

-- ---- what is gained

-- the entries of a thread
abbrev pub lines_of_thread : ℕ → List Line → List Line
lines_of_thread thread list = filter (λ (e : Line). e.thread == thread) list

-- the list that a slot's token has seen
abbrev pub list_at : List (Option SeenView) → ℕ → List Line
list_at slots k = option_map_or (λ (s : SeenView). s.list) (token_at slots k) []

-- a list goes on from another: it begins with it
abbrev pub GoesOn : List Line → List Line → Type 0
GoesOn old new = (later : List Line) × (new ≡ old ++ later)

-- what each slot's token has seen goes on from what it had seen
abbrev pub HaveGrown : List (Option SeenView) → List (Option SeenView) → Type 0
HaveGrown old new = (k : ℕ) → GoesOn (list_at old k) (list_at new k)

-- what the token at a call's plan has seen begins with the log before the entry of the call's return, and this entry
abbrev pub StandsAt : List (Option SeenView) → MadeCall → Type 0
StandsAt slots m = GoesOn (m.until ++ m.entry ∷ []) (list_at slots m.begun.place)

-- of the thread's entries, each log has gained just those of these calls on it
abbrev pub HaveGained : ℕ → List MadeCall → List (Option SeenView) → List (Option SeenView) → Type 0
HaveGained thread calls old new = (k : ℕ) → lines_of_thread thread (list_at new k) ≡ lines_of_thread thread (list_at old k) ++ entries_made k calls
