-- How a replay ends: what was read, what the drivers were told, and what was written. Source: this project.
use Rattle.std.specs.Prelude.{◌≡◌, ◌⊎◌, ◌+◌, ◌++◌, ◌∷◌, ℕ, List, [], Option, Some, None, length}
use Rattle.command_tables.specs.Calls.{ReplyContent}
use Rattle.model_driver.specs.Logs.{Log, logged}
use Rattle.trace_format.specs.Content.{TraceEvent}
use Rattle.replay_base.specs.Bytes.{GrownByFront}
use Rattle.replay_base.specs.Changes.{Change, Stood, FailedOnce, IsUnmoved, Gave, Gained, GainedFront}
use Rattle.replay_base.specs.declared.limit.Which.TheVariants as which
use Rattle.replay_model.specs.Setup.{Setup}
use Rattle.replay_model.specs.Judged.{judged}
use Rattle.replay_model.specs.Direct.{exchanges, sends_in}
use Rattle.replay_model.specs.Less.{less, no_layers}
use Rattle.replay_model.specs.Stop.{Stop, Cause, LineBytes, Lines, Names, Layers, at_fault, events_of, placed_in, stop}
use Rattle.chain_session.specs.declared.kept.Kept.{Kept}
use Rattle.chain_session.specs.Standing.{StandsFor}
use Rattle.chain_session.specs.Telling.{FrontAsked}
use Rattle.replay_core.specs.declared.error.ReplayError.{ReplayError}
use Rattle.replay_core.specs.declared.error.ReplayError.TheVariants as error
use Rattle.replay_core.specs.Given.{GaveLines, HasGiven}
use Rattle.replay_core.specs.Traffic.{Traffic, IsFront, traffic_of, text_of, end_line_of, lines_behind, next_calls, with_next}

-- a run: its source, and what went to the drivers and the sink
pub record Run : Type 0 where
  pub source : Change
  pub traffic : Traffic

-- such a run, by its source, the drivers' log before and after, and the sink
abbrev pub run_of : Change → Log → Log → Change → Run
run_of source old_log log sink = record { source = source; traffic = traffic_of old_log log sink }

-- a log behind just the calls that these events, less those that were skipped, make with no layers, each with its reply
abbrev pub heard_log : Setup → List TraceEvent → List ReplyContent → Log → Log
heard_log s events replies log = logged log (exchanges (judged (no_layers s) (less (judged s events))) replies)

-- there is one reply for each of these calls
abbrev pub HasReplies : Setup → List TraceEvent → List ReplyContent → Type 0
HasReplies s events replies = length replies ≡ sends_in (judged (no_layers s) (less (judged s events)))

-- the drivers were told just the calls that these events, less those that were skipped, make with no layers, and they answered each with its reply
pub record Heard (s : Setup) (events : List TraceEvent) (replies : List ReplyContent) (t : Traffic) : Type 0 where
  pub each : HasReplies s events replies
  pub told : t.log ≡ heard_log s events replies t.old_log

-- the same, and behind them the first so many of the next event's calls
pub record HeardBefore (s : Setup) (events : List TraceEvent) (next : Option TraceEvent) (replies : List ReplyContent) (t : Traffic) : Type 0 where
  pub each : HasReplies s events replies
  pub asked : FrontAsked (next_calls s events next replies) (heard_log s events replies t.old_log) t.log

-- nothing was written, and no driver was called
pub record IsUntouched (t : Traffic) : Type 0 where
  pub driver : t.log ≡ t.old_log
  pub sink : IsUnmoved t.sink
  pub stood : Stood t.sink

-- neither the source nor the sink failed
pub record NothingFailed (run : Run) : Type 0 where
  pub source : Stood run.source
  pub sink : Stood run.traffic.sink

-- The whole source was read, and nothing in it stops the replay. The session stands for all its events with the drivers' own replies; the drivers were
-- told just the calls of those that weren't skipped; and the sink has gained the text of all and the end line.
pub record Ended (s : Setup) (x : Option Kept) (run : Run) : Type 0 where
  pub bytes : List ℕ
  pub read : Gave run.source bytes
  pub none : stop s bytes ≡ None
  pub replies : List ReplyContent
  pub stands : StandsFor s x (events_of s bytes) replies
  pub heard : Heard s (events_of s bytes) replies run.traffic
  pub wrote : Gained run.traffic.sink (text_of s (events_of s bytes) ++ end_line_of s (events_of s bytes))
  pub stood : NothingFailed run

-- The trace stops here, and what stands before that line was replayed; there is no end line. No more of the source was read than the lines up to the stop
-- and 65,537 bytes.
pub record StoppedAt (s : Setup) (place : Stop) (run : Run) : Type 0 where
  pub bytes : List ℕ
  pub read : HasGiven run.source bytes place.line
  pub here : stop s bytes ≡ Some place
  pub replies : List ReplyContent
  pub heard : Heard s (events_of s bytes) replies run.traffic
  pub wrote : Gained run.traffic.sink (text_of s (events_of s bytes))
  pub stood : NothingFailed run

-- the trace stops at a line with this cause
pub record StoppedByLimit (s : Setup) (cause : Cause) (run : Run) : Type 0 where
  pub line : ℕ
  pub stopped : StoppedAt s (record { line = line; cause = cause }) run

-- The source failed. None of the lines that it had given stops the trace, and all their events were replayed; a piece of a line wasn't.
pub record NotRead (s : Setup) (run : Run) : Type 0 where
  pub lines : List (List ℕ)
  pub gave : GaveLines run.source lines
  pub events : List TraceEvent
  pub placed : placed_in s lines ≡ Some events
  pub replies : List ReplyContent
  pub heard : Heard s events replies run.traffic
  pub wrote : Gained run.traffic.sink (text_of s events)
  pub failed : FailedOnce run.source
  pub stood : Stood run.traffic.sink

-- the sink failed in the notes, before any event: a front of them stands
pub record CutInNotes (s : Setup) (events : List TraceEvent) (sink : Change) : Type 0 where
  pub none : events ≡ []
  pub wrote : GrownByFront sink.old sink.new s.notes

-- the sink failed in the lines of the last of these events, or behind them, as it handed them on: the text of the others stands, and a front of these lines
pub record CutInLast (s : Setup) (events : List TraceEvent) (sink : Change) : Type 0 where
  pub others : List TraceEvent
  pub last : TraceEvent
  pub are : events ≡ last ∷ others
  pub wrote : GainedFront sink (text_of s others) (lines_behind s others last)

-- the sink failed in the end line of a trace that nothing stops: the text of all its events stands, and a front of that line
pub record CutInEnd (s : Setup) (bytes : List ℕ) (events : List TraceEvent) (sink : Change) : Type 0 where
  pub none : stop s bytes ≡ None
  pub all : events ≡ events_of s bytes
  pub wrote : GainedFront sink (text_of s events) (end_line_of s events)

-- the sink failed in the notes, in the lines of an event, or in the end line
abbrev pub IsCut : Setup → List ℕ → List TraceEvent → Change → Type 0
IsCut s bytes events sink = CutInNotes s events sink ⊎ (CutInLast s events sink ⊎ CutInEnd s bytes events sink)

-- The sink failed. The drivers were told just the calls of the events so far that weren't skipped: of none, where it failed in the notes; up to the one
-- in whose lines it failed, or behind them; or of all, where it failed in the end line. No more of the source was read than the lines of these events, the header among
-- them, and 65,537 bytes.
pub record BrokeIn (s : Setup) (run : Run) : Type 0 where
  pub bytes : List ℕ
  pub events : List TraceEvent
  pub read : HasGiven run.source bytes (length events + 1)
  pub front : IsFront (events_of s bytes) events
  pub replies : List ReplyContent
  pub heard : Heard s events replies run.traffic
  pub wrote : IsCut s bytes events run.traffic.sink
  pub failed : FailedOnce run.traffic.sink
  pub stood : Stood run.source

-- Memory ran out behind the notes. The drivers were told just the calls of the events so far that weren't skipped, and the first so many of the next
-- event's, and the text of the events so far stands. No more of the source was read than the lines of these events, the header and the next line among
-- them, and 65,537 bytes.
pub record RanOutIn (s : Setup) (run : Run) : Type 0 where
  pub bytes : List ℕ
  pub events : List TraceEvent
  pub next : Option TraceEvent
  pub read : HasGiven run.source bytes (length events + 2)
  pub front : IsFront (events_of s bytes) (with_next next events)
  pub replies : List ReplyContent
  pub heard : HeardBefore s events next replies run.traffic
  pub wrote : Gained run.traffic.sink (text_of s events)
  pub stood : NothingFailed run

-- memory ran out before anything was read, told or written
pub record RanOutAtFirst (run : Run) : Type 0 where
  pub untouched : IsUntouched run.traffic
  pub unread : IsUnmoved run.source
  pub stood : Stood run.source

-- memory ran out
abbrev pub RanOutOf : Setup → Run → Type 0
RanOutOf s run = RanOutAtFirst run ⊎ RanOutIn s run

-- a replay that didn't come to its end has a cause, and what had gone out before it is said
abbrev pub IsCutShort : Setup → Run → ReplayError → Type 0
IsCutShort s run error.Read = NotRead s run
IsCutShort s run error.Write = BrokeIn s run
IsCutShort s run (error.Trace line fault) = StoppedAt s (at_fault line fault) run
IsCutShort s run (error.Limit which.Lines) = StoppedByLimit s Lines run
IsCutShort s run (error.Limit which.LineBytes) = StoppedByLimit s LineBytes run
IsCutShort s run (error.Limit which.Names) = StoppedByLimit s Names run
IsCutShort s run (error.Limit which.Chain) = StoppedByLimit s Layers run
IsCutShort s run error.NoMemory = RanOutOf s run
IsCutShort s run other = ⊥
