-- What the threads of a file have done. Source: this project.
use Rattle.std.specs.Prelude.{◌≡◌, ⊤, ℕ, Bool, not, Option, Some, None, List, [], ◌∷◌, ◌++◌, map, reverse, slice_get}
use Rattle.std.specs.List.{AllByRecursion, AllZip, flat_map, slice_index_or}
use Rattle.std.specs.Global.{Vec}
use Rattle.command_tables.specs.Calls.{ReplyContent}
use Rattle.model_driver.specs.Logs.{Log, logged}
use Rattle.stream_log.specs.declared.entry.Entry.{Entry}
use Rattle.stream_log.specs.declared.line.Line.{Line}
use Rattle.trace_format.specs.declared.event.Name.{Name}
use Rattle.trace_format.specs.Content.{TraceEvent}
use Rattle.trace_format.specs.Grammar.{IsEvent}
use Rattle.replay_model.specs.Setup.{Setup}
use Rattle.chain_model.specs.Traces.{GivesGuarded}
use Rattle.chain_session.specs.declared.kept.Kept.{Kept}
use Rattle.chain_session.specs.Standing.{StandsFor}
use Rattle.stream_model.specs.FileLines.{FileLine}
use Rattle.stream_model.specs.FileParts.{AreInOrder, FileParts, StreamPart, parts}
use Rattle.stream_model.specs.Order.{events, refusal_at_end}
use Rattle.stream_model.specs.Plans.{device_written, events_along, plan_cut}
use Rattle.merge_model.specs.Merges.{IsMerge, events_on}
use Rattle.log_merge.specs.Numbered.{closed_lines}
use Rattle.merge_facts.specs.Logged.{LoggedCall, lines_of_thread}
use Rattle.device_shard.specs.Closing.{IsClosed}
use Rattle.device_shard.specs.Making.{AreNamedBy}
use Rattle.device_shard.specs.Shards.{ShardName}
use Rattle.stream_plans.specs.Cuts.{devices_cut}
use Rattle.stream_workers.specs.Calls.{IsMade, MadeCall, RiseBetween, entries_made, exchange_made, planned_of}
use Rattle.stream_run.specs.Gathering.{IsGathered}
use Rattle.stream_run.specs.Preparing.{calls_of_file}

-- ---- before

-- the file is a whole stream file, and a session stands for its setup, under a setup whose chains are guarded
pub record IsReadyToRun (k : Option Kept) (file : FileParts) : Type 0 where
  pub lines : List FileLine
  pub order : AreInOrder lines
  pub grammar : AllByRecursion IsEvent (events lines)
  pub whole : refusal_at_end lines ≡ None
  pub is : parts lines ≡ file
  pub setup : Setup
  pub guarded : GivesGuarded setup
  pub replies : List ReplyContent
  pub stands : StandsFor setup k (reverse file.setup) replies

-- ---- what each thread did

-- what a call's log had before it is what the closed log begins with, and then comes the entry of its begin
pub record StandsIn (logs : List (List Line)) (m : MadeCall) : Type 0 where
  pub later : List Line
  pub is : slice_index_or logs m.begun.place [] ≡ m.begun.before ++ m.begun.entry ∷ later

-- a thread has made these calls, at rising times, and each log has of it just their entries, where the calls stand
pub record IsMadeBy (names : List ShardName) (logs : List (List Line)) (thread : ℕ) (calls : List MadeCall) : Type 0 where
  pub made : AllByRecursion (IsMade names thread) calls
  pub upto : ℕ
  pub rise : RiseBetween 0 calls upto
  pub each : (k : ℕ) → lines_of_thread thread (slice_index_or logs k []) ≡ entries_made k calls
  pub stand : AllByRecursion (StandsIn logs) calls

-- so have the threads of these streams
abbrev pub AreMadeBy : List ShardName → List (List Line) → List StreamPart → List (List MadeCall) → Type 0
AreMadeBy names logs [] [] = ⊤
AreMadeBy names logs [] (cs ∷ calls) = ⊥
AreMadeBy names logs (s ∷ streams) [] = ⊥
AreMadeBy names logs (s ∷ streams) (cs ∷ calls) = IsMadeBy names logs s.thread cs × AreMadeBy names logs streams calls

-- The threads of a file have made all calls of its streams, each behind what its device's log had then, which started from what the session keeps.
pub record AllMade (k : Option Kept) (file : FileParts) (logs : List (List Line)) (made : List (List MadeCall)) : Type 0 where
  pub names : List ShardName
  pub named : AreNamedBy k (map (plan_cut file) (devices_cut file)) names
  pub closed : AllZip IsClosed names logs
  pub are : map (map planned_of) made ≡ calls_of_file file
  pub threads : AreMadeBy names logs file.streams made

-- a call as the logs have it
abbrev pub logged_of : MadeCall → LoggedCall
logged_of m = record { planned = planned_of m; first = m.begun.entry; last = m.entry }

-- of each call whether it was sent
abbrev pub marks_of : List (List MadeCall) → List (List Bool)
marks_of made = map (map (λ (m : MadeCall). not m.begun.skip)) made

-- each seat's list has gained the exchanges of its stream's calls; `log` is what a seat tells of its calls
abbrev pub HaveTold : {S : Type 0} → (S → Log) → List (List MadeCall) → List S → List S → Type 0
HaveTold log [] [] [] = ⊤
HaveTold log (cs ∷ made) (old ∷ olds) (new ∷ news) = (log new ≡ logged (log old) (flat_map exchange_made cs)) × HaveTold log made olds news
HaveTold log _ _ _ = ⊥

-- ---- all of it

-- The streams of a file were made, and these are their events in one order, with the replies to the calls that were sent and the closed log of each device: the events
-- are a merge of the streams, and what they have of a device is what its log says.
pub record HasRun {S : Type 0} (log : S → Log) (k : Option Kept) (file : FileParts) (seats : List S) (events : List TraceEvent) (replies : List ReplyContent) (logs : List (Name × Vec Entry)) (after : List S) : Type 0 where
  pub made : List (List MadeCall)
  pub all : AllMade k file (map closed_lines logs) made
  pub told : HaveTold log made seats after
  pub devices : map (λ x. x.0) logs ≡ devices_cut file
  pub gathered : IsGathered file.streams (marks_of made) (map closed_lines logs) events replies
  pub merge : IsMerge file.streams events
  pub each : (number : ℕ) (device : Name) → slice_get (devices_cut file) number ≡ Some device
      → events_on (device_written file) device (reverse events) ≡ events_along (plan_cut file device).streams (reverse (map (λ (e : Line). e.thread) (slice_index_or (map closed_lines logs) number [])))
