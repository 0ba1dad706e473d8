-- What a replay has told the drivers and written to the sink, over the events of a trace, the newest first. Source: this project.
use Rattle.std.specs.Prelude.{◌≡◌, ℕ, List, [], ◌∷◌, ◌++◌, Option, Some, None, length}
use Rattle.command_tables.specs.Calls.{DriverCallContent, ReplyContent}
use Rattle.model_driver.specs.Logs.{Log, logged}
use Rattle.trace_format.specs.Content.{TraceEvent, Begin, Return}
use Rattle.replay_base.specs.Changes.{Change, Gained, GainedFront}
use Rattle.replay_model.specs.Setup.{Setup}
use Rattle.replay_model.specs.Judged.{begun_of, judged}
use Rattle.replay_model.specs.Text.{lines, lines_at, text, end_of}
use Rattle.replay_model.specs.Direct.{driver_calls, exchanges, sends_in, valued}
use Rattle.chain_model.specs.Traces.{IsTrace}
use Rattle.chain_session.specs.declared.kept.Kept.{Kept}
use Rattle.chain_session.specs.Standing.{StandsFor}
use Rattle.chain_session.specs.Telling.{FrontAsked}

-- the drivers' log before and after, and the sink
pub record Traffic : Type 0 where
  pub old_log : Log
  pub log : Log
  pub sink : Change

-- such a traffic
abbrev pub traffic_of : Log → Log → Change → Traffic
traffic_of old_log log sink = record { old_log = old_log; log = log; sink = sink }

-- the lines of the events
abbrev pub lines_of_events : Setup → List TraceEvent → List ℕ
lines_of_events s events = lines s (judged s events)

-- the text of the events: the notes, and then their lines
abbrev pub text_of : Setup → List TraceEvent → List ℕ
text_of s events = text s (judged s events)

-- the end line of the events
abbrev pub end_line_of : Setup → List TraceEvent → List ℕ
end_line_of s events = end_of (judged s events)

-- the lines of an event behind others
abbrev pub lines_behind : Setup → List TraceEvent → TraceEvent → List ℕ
lines_behind s events e = lines_at s (judged s events) e

-- the log has gained the drivers' calls of the events, each with its reply
pub record Told (s : Setup) (events : List TraceEvent) (replies : List ReplyContent) (t : Traffic) : Type 0 where
  pub each : length replies ≡ sends_in (judged s events)
  pub told : t.log ≡ logged t.old_log (exchanges (judged s events) replies)

-- the drivers were told the events' calls, and the sink has gained their lines
pub record WentOut (s : Setup) (events : List TraceEvent) (t : Traffic) : Type 0 where
  pub replies : List ReplyContent
  pub told : Told s events replies t
  pub wrote : Gained t.sink (lines_of_events s events)

-- the events of a trace were replayed: the session stands for them, the drivers were told their calls, and the sink has gained their lines
pub record Played (s : Setup) (x : Option Kept) (events : List TraceEvent) (t : Traffic) : Type 0 where
  pub replies : List ReplyContent
  pub stands : StandsFor s x events replies
  pub trace : IsTrace events
  pub told : Told s events replies t
  pub wrote : Gained t.sink (lines_of_events s events)

-- The sink failed in the lines of an event: the drivers were told its calls and those of the events before it, and no others. What stands are the
-- lines of the events before it, and a front of its own lines.
pub record CutInLines (s : Setup) (events : List TraceEvent) (e : TraceEvent) (t : Traffic) : Type 0 where
  pub replies : List ReplyContent
  pub told : Told s (e ∷ events) replies t
  pub wrote : GainedFront t.sink (lines_of_events s events) (lines_behind s events e)

-- ---- want of memory

-- the calls of the drivers that come next, where an event comes next
abbrev pub next_calls : Setup → List TraceEvent → Option TraceEvent → List ReplyContent → List DriverCallContent
next_calls s events None replies = []
next_calls s events (Some (Begin e)) replies = driver_calls (valued (judged s events) replies) (begun_of s (judged s events) e).opened
next_calls s events (Some (Return thread)) replies = []

-- Memory ran out behind these events: the drivers were told their calls and the first so many of the next event's, and their lines stand.
pub record RanOutBehind (s : Setup) (events : List TraceEvent) (next : Option TraceEvent) (t : Traffic) : Type 0 where
  pub replies : List ReplyContent
  pub each : length replies ≡ sends_in (judged s events)
  pub asked : FrontAsked (next_calls s events next replies) (logged t.old_log (exchanges (judged s events) replies)) t.log
  pub wrote : Gained t.sink (lines_of_events s events)

-- the events with the next, where there is one
abbrev pub with_next : Option TraceEvent → List TraceEvent → List TraceEvent
with_next None events = events
with_next (Some e) events = e ∷ events

-- ---- one event more

-- where a replay began: the drivers' log, what the sink held, and how often it had failed
pub record Start : Type 0 where
  pub log : Log
  pub held : Option (List ℕ)
  pub faults : ℕ

-- from there to where this begins
abbrev pub upto : Start → Traffic → Traffic
upto s t = record { old_log = s.log; log = t.old_log; sink = record { old = s.held; new = t.sink.old; faults_before = s.faults; faults = t.sink.faults_before } }

-- from there to where this ends
abbrev pub through : Start → Traffic → Traffic
through s t = record { old_log = s.log; log = t.log; sink = record { old = s.held; new = t.sink.new; faults_before = s.faults; faults = t.sink.faults } }

-- ---- a front of the events

-- of all these events some were replayed, the oldest first; the rest were still to come
pub record IsFront (all events : List TraceEvent) : Type 0 where
  pub later : List TraceEvent
  pub are : all ≡ later ++ events

-- the sink failed in the end line, behind the lines of all events
pub record BrokeAtEnd (s : Setup) (all : List TraceEvent) (t : Traffic) : Type 0 where
  pub replies : List ReplyContent
  pub told : Told s all replies t
  pub wrote : GainedFront t.sink (lines_of_events s all) (end_line_of s all)
