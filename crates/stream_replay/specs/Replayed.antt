-- What the replay of a stream file comes to. Files and merges stand oldest first, the events and replies of traces newest first. Source: this project.
use Rattle.std.specs.Prelude.{◌≡◌, ⊤, ℕ, Bool, Option, Some, None, List, [], ◌∷◌, ◌++◌, length, map, reverse, slice_get}
use Rattle.std.specs.List.{AllByRecursion, slice_index_or}
use Rattle.std.specs.Global.{Vec}
use Rattle.command_tables.specs.Calls.{DriverCallContent, ReplyContent}
use Rattle.trace_format.specs.declared.event.Name.{Name}
use Rattle.trace_format.specs.Content.{TraceEvent}
use Rattle.trace_format.specs.Grammar.{IsEvent}
use Rattle.model_driver.specs.Logs.{Log, Untold, Replies, Calls, replies_in}
use Rattle.replay_model.specs.Direct.{exchanges, sends_in}
use Rattle.replay_model.specs.Judged.{judged}
use Rattle.replay_model.specs.Setup.{Setup}
use Rattle.replay_model.specs.Text.{lines}
use Rattle.chain_session.specs.declared.kept.Kept.{Kept}
use Rattle.chain_session.specs.Standing.{StandsFor}
use Rattle.stream_log.specs.declared.entry.Entry.{Entry}
use Rattle.stream_log.specs.declared.line.Line.{Line}
use Rattle.stream_model.specs.FileLines.{FileLine}
use Rattle.stream_model.specs.FileParts.{AreInOrder, FileParts, StreamPart, parts}
use Rattle.stream_model.specs.Order.{events, refusal_at_end}
use Rattle.stream_model.specs.Plans.{device_written, events_along, plan_cut}
use Rattle.merge_model.specs.Merges.{IsMerge, events_on, merged_events}
use Rattle.log_merge.specs.Numbered.{closed_lines}
use Rattle.stream_plans.specs.Cuts.{devices_cut}
use Rattle.stream_run.specs.Gathering.{IsGathered}
use Rattle.seat_facts.specs.Told.{told_by_thread}

-- a whole file, of which no line is refused
pub record IsWholeFile (file : FileParts) : Type 0 where
  pub lines : List FileLine
  pub order : AreInOrder lines
  pub grammar : AllByRecursion IsEvent (events lines)
  pub whole : refusal_at_end lines ≡ None
  pub is : parts lines ≡ file

-- what the drivers replied to the calls of setup, of the merge and of teardown
pub record SectionReplies : Type 0 where
  pub setup : List ReplyContent
  pub merge : List ReplyContent
  pub teardown : List ReplyContent

-- to those of setup and merge, and to all
abbrev pub replies_before : SectionReplies → List ReplyContent
replies_before r = r.merge ++ r.setup

abbrev pub all_replies : SectionReplies → List ReplyContent
all_replies r = r.teardown ++ replies_before r

-- Setup and the merge have each as many replies as driver calls, so that no reply to a call of the one counts for the other.
pub record AnswerEach (s : Setup) (file : FileParts) (merge : List TraceEvent) (r : SectionReplies) : Type 0 where
  pub setup : length r.setup ≡ sends_in (judged s (reverse file.setup))
  pub before : length (replies_before r) ≡ sends_in (judged s (reverse merge ++ reverse file.setup))

-- a log tells just these calls, as much as it tells of calls
abbrev pub TellsJust : List (DriverCallContent × ReplyContent) → Log → Type 0
TellsJust told Untold = ⊤
TellsJust told (Replies replies) = replies ≡ replies_in told
TellsJust told (Calls calls) = calls ≡ told

-- The log of one seat has the driver calls of setup and those of teardown, each with its reply.
pub record TellsEnds (s : Setup) (file : FileParts) (merge : List TraceEvent) (r : SectionReplies) (log : Log) : Type 0 where
  pub last : List (DriverCallContent × ReplyContent)
  pub teardown : exchanges (judged s (reverse (merged_events file merge))) (all_replies r) ≡ exchanges (judged s (reverse merge ++ reverse file.setup)) (replies_before r) ++ last
  pub told : TellsJust (exchanges (judged s (reverse file.setup)) r.setup ++ last) log

-- The log of each further seat has the driver calls that the trace of setup and merge makes for a stream's thread behind the setup, each with its reply.
abbrev pub TellStreams : {S : Type 0} → (S → Log) → Setup → FileParts → List TraceEvent → SectionReplies → List StreamPart → List S → Type 0
TellStreams log s file merge r [] [] = ⊤
TellStreams log s file merge r (x ∷ streams) (seat ∷ seats) =
    TellsJust (told_by_thread s x.thread (reverse file.setup) (reverse merge) (replies_before r)) (log seat) × TellStreams log s file merge r streams seats
TellStreams log s file merge r _ _ = ⊥

-- The sections of a file were replayed, with a merge in place of the streams: the session stands for the events of all, and these are their lines. The first seat was told
-- the driver calls of setup and teardown, and each further one those of its stream. `log` is what a seat tells of its calls.
pub record HasReplayed {S : Type 0} (log : S → Log) (s : Setup) (file : FileParts) (merge : List TraceEvent) (text : List ℕ) (k : Option Kept) (seats : List S) : Type 0 where
  pub merged : IsMerge file.streams merge
  pub replies : SectionReplies
  pub each : AnswerEach s file merge replies
  pub stands : StandsFor s k (reverse (merged_events file merge)) (all_replies replies)
  pub wrote : text ≡ lines s (judged s (reverse (merged_events file merge)))
  pub first : S
  pub others : List S
  pub are : seats ≡ first ∷ others
  pub ends : TellsEnds s file merge replies (log first)
  pub streams : TellStreams log s file merge replies file.streams others

-- These are the closed logs of the devices that streams name. The merge has all their entries in one order, and what it has of a device is what its log says.
pub record AreLogsBehind (file : FileParts) (merge : List TraceEvent) (logs : List (Name × Vec Entry)) : Type 0 where
  pub devices : map (λ x. x.0) logs ≡ devices_cut file
  pub marks : List (List Bool)
  pub answers : List ReplyContent
  pub gathered : IsGathered file.streams marks (map closed_lines logs) merge answers
  pub each : (number : ℕ) (device : Name) → slice_get (devices_cut file) number ≡ Some device
      → events_on (device_written file) device (reverse merge) ≡ events_along (plan_cut file device).streams (reverse (map (λ (e : Line). e.thread) (slice_index_or (map closed_lines logs) number [])))
