-- Why a run stops, and what then was read, written and said. Source: this project.
use Rattle.std.specs.Prelude.{◌≡◌, ◌++◌, ◌⊎◌, ◌<◌, ℕ, Option, List, true, false, codes, Result, Ok, Err}
use Rattle.std.specs.List.{list_any}
use Rattle.layer_search.specs.Causes.{WhereTold}
use Rattle.layer_search.specs.Paths.{most_paths}
use Rattle.chain_build.specs.Override.{most_met}
use Rattle.model_driver.specs.Logs.{Log}
use Rattle.replay_base.specs.Bytes.{GrownByFront}
use Rattle.replay_base.specs.Changes.{Change, FailedOnce, Gained, Stood}
use Rattle.replay_base.specs.Faults.{raised}
use Rattle.replay_base.specs.declared.limit.Which.{Which}
use Rattle.replay_base.specs.declared.limit.Which.TheVariants as which
use Rattle.trace_format.specs.Content.{TraceEvent}
use Rattle.replay_model.specs.Setup.{Setup}
use Rattle.replay_model.specs.Stop.{exceeds_layers}
use Rattle.chain_session.specs.declared.kept.Kept.{Kept}
use Rattle.chain_session.specs.Standing.{StandsFor}
use Rattle.command_tables.specs.Calls.{ReplyContent}
use Rattle.stream_model.specs.FileParts.{FileParts, all_events}
use Rattle.stream_model.specs.declared.limits.TheConstants.{MOST_NAMES}
use Rattle.merge_model.specs.Merges.{merged_events}
use Rattle.threaded_replay.specs.declared.error.StreamError.{StreamError}
use Rattle.threaded_replay.specs.declared.error.StreamError.TheVariants as file_error
use Rattle.threaded_replay.specs.Reading.{ReadsFile, ReadsNot}
use Rattle.stream_replay.specs.Replayed.{HasReplayed}
use Rattle.replay_core.specs.Traffic.{end_line_of, lines_of_events}
use Rattle.replay_core.specs.declared.status.Status.{Status}
use Rattle.replay_core.specs.declared.status.Status.TheVariants as status
use Rattle.replay_tool.specs.Outcome.{IsUnread}
use Rattle.replay_tool.specs.Said.{fault_line, kind_line, limit_line, limit_text, no_memory_line, read_fault_line, write_fault_line}
use Rattle.replay_tool.specs.Showing.{Search, UnderSetup, WroteNothing}
use Rattle.threads_tool.specs.declared.reading.Stop.{Stop}
use Rattle.threads_tool.specs.declared.reading.Stop.TheVariants as stop
use Rattle.threads_tool.specs.Printed.{printed}

-- ---- what is said

-- the line of a limit, with the number that a stream file is allowed
abbrev pub file_limit_line : Which → List ℕ
file_limit_line which.Names = limit_text which.Names MOST_NAMES
file_limit_line other = limit_line other

-- the line of a stream file's error
abbrev pub refused_line : StreamError → List ℕ
refused_line file_error.Read = read_fault_line
refused_line (file_error.Trace line fault) = fault_line line fault
refused_line (file_error.Section line) = kind_line line (codes "Section")
refused_line (file_error.NoDevice line) = kind_line line (codes "NoDevice")
refused_line (file_error.CrossDevice line) = kind_line line (codes "CrossDevice")
refused_line (file_error.NotInStream line) = kind_line line (codes "NotInStream")
refused_line (file_error.Limit w) = file_limit_line w
refused_line file_error.NoMemory = no_memory_line

-- its status
abbrev pub refused_status : StreamError → Status
refused_status file_error.Read = status.ReadFault
refused_status (file_error.Limit w) = status.Limit
refused_status file_error.NoMemory = status.NoMemory
refused_status other = status.Malformed

-- the line of what stops a run
abbrev pub stop_line : Stop → List ℕ
stop_line stop.Tree = read_fault_line
stop_line stop.TooMany = limit_line which.Manifests
stop_line (stop.File e) = refused_line e
stop_line stop.Chain = limit_line which.Chain
stop_line stop.Write = write_fault_line
stop_line stop.NoMemory = no_memory_line

-- its status
abbrev pub stop_status : Stop → Status
stop_status stop.Tree = status.ReadFault
stop_status stop.TooMany = status.Limit
stop_status (stop.File e) = refused_status e
stop_status stop.Chain = status.Limit
stop_status stop.Write = status.WriteFault
stop_status stop.NoMemory = status.NoMemory

-- ---- a file that is read

-- The file was read, and no call of it would make a chain of more than 64 layers.
pub record ReadsWithin (s : Setup) (streams : Change) (file : FileParts) : Type 0 where
  pub read : ReadsFile streams file
  pub short : list_any (exceeds_layers s) (all_events file) ≡ false

-- The file was read, and one of its calls would make a chain of more than 64 layers.
pub record IsTooLong (s : Setup) (streams : Change) : Type 0 where
  pub file : FileParts
  pub read : ReadsFile streams file
  pub long : list_any (exceeds_layers s) (all_events file) ≡ true

-- why a file isn't read: the source failed or a line is refused, or memory ran out
abbrev pub NotRead : Change → Stop → Type 0
NotRead streams (stop.File file_error.NoMemory) = ⊥
NotRead streams (stop.File e) = ReadsNot streams e
NotRead streams stop.NoMemory = Stood streams
NotRead streams other = ⊥

-- and why none comes to be replayed
abbrev pub StopsReading : Setup → Change → Stop → Type 0
StopsReading s streams stop.Chain = IsTooLong s streams
StopsReading s streams e = NotRead streams e

-- ---- a text that is written

-- it was written, or a front of it before the sink failed, or nothing for want of memory
abbrev pub Writes : List ℕ → Change → Result (Unit {0}) Stop → Type 0
Writes text sink (Ok done) = Gained sink text × Stood sink
Writes text sink (Err stop.Write) = GrownByFront sink.old sink.new text × FailedOnce sink
Writes text sink (Err stop.NoMemory) = WroteNothing sink
Writes text sink (Err other) = ⊥

-- A session that keeps this stands for these events with some replies, and these are their lines.
pub record IsReplayOf (s : Setup) (events : List TraceEvent) (text : List ℕ) (session : Option Kept) : Type 0 where
  pub replies : List ReplyContent
  pub stands : StandsFor s session events replies
  pub wrote : text ≡ lines_of_events s events

-- these are such lines with the end line behind them
abbrev pub IsWithEnd : List ℕ → List ℕ → Option Kept → Type 0
IsWithEnd text all session = (s : Setup) (events : List TraceEvent) → IsReplayOf s events text session → all ≡ lines_of_events s events ++ end_line_of s events

-- ---- a file that is replayed and shown

-- It was replayed with a merge of its streams, of which a session that keeps this and these seats come, and its trace and its text were written. `log` is what a seat tells
-- of its calls.
pub record ShownAll {S : Type 0} (log : S → Log) (s : Setup) (file : FileParts) (sink : Change) (session : Option Kept) (seats : List S) : Type 0 where
  pub merge : List TraceEvent
  pub text : List ℕ
  pub replayed : HasReplayed log s file merge text session seats
  pub wrote : Gained sink (printed s (merged_events file merge))
  pub stood : Stood sink

-- it was replayed so, and a front of them was written before the sink failed
pub record ShownFront {S : Type 0} (log : S → Log) (s : Setup) (file : FileParts) (sink : Change) : Type 0 where
  pub merge : List TraceEvent
  pub text : List ℕ
  pub session : Option Kept
  pub seats : List S
  pub replayed : HasReplayed log s file merge text session seats
  pub front : GrownByFront sink.old sink.new (printed s (merged_events file merge))
  pub failed : FailedOnce sink

-- why it isn't shown whole
abbrev pub NotShown : {S : Type 0} → (S → Log) → Setup → FileParts → Change → Stop → Type 0
NotShown log s file sink stop.Write = ShownFront log s file sink
NotShown log s file sink stop.NoMemory = WroteNothing sink
NotShown log s file sink other = ⊥

-- ---- a run under a setup

-- a stream file was read, replayed and shown
pub record WroteAll {S : Type 0} (log : S → Log) (s : Setup) (streams sink : Change) (session : Option Kept) (seats : List S) : Type 0 where
  pub file : FileParts
  pub read : ReadsWithin s streams file
  pub shown : ShownAll log s file sink session seats

-- a stream file was read and replayed, and a front of what is shown of it was written before the sink failed
pub record WroteFront {S : Type 0} (log : S → Log) (s : Setup) (streams sink : Change) : Type 0 where
  pub file : FileParts
  pub read : ReadsWithin s streams file
  pub shown : ShownFront log s file sink

-- why a run under a setup stops
abbrev pub StopsUnder : {S : Type 0} → (S → Log) → Setup → Change → Change → Stop → Type 0
StopsUnder log s streams sink stop.Write = WroteFront log s streams sink
StopsUnder log s streams sink stop.NoMemory = WroteNothing sink
StopsUnder log s streams sink e = StopsReading s streams e × WroteNothing sink

-- ---- a run

-- why no setup is read: the tree failed, a search met too many, or memory ran out
abbrev pub LacksSetup : Search → Stop → Type 0
LacksSetup search stop.Tree = search.tree.faults ≡ raised search.tree.faults_before
LacksSetup search stop.TooMany = WhereTold search.tree.files (λ files. most_paths < most_met files search.env search.root search.exe) × (search.tree.faults ≡ search.tree.faults_before)
LacksSetup search stop.NoMemory = search.tree.faults ≡ search.tree.faults_before
LacksSetup search other = ⊥

-- nothing was read of the stream file, and nothing written
pub record IsUntouched (streams sink : Change) : Type 0 where
  pub unread : IsUnread streams
  pub nothing : WroteNothing sink

-- why a run stops: no setup is read, or under the setup that is
abbrev pub StopsRun : {S : Type 0} → (S → Log) → Search → Change → Change → Stop → Type 0
StopsRun log search streams sink e = (LacksSetup search e × IsUntouched streams sink) ⊎ UnderSetup search (λ s. StopsUnder log s streams sink e)
