-- How one event, one line and all lines of a trace are replayed, or why they aren't. Source: this project.
use Rattle.std.specs.Prelude.{◌≡◌, ◌⊎◌, ◌≤◌, ◌+◌, ℕ, true, false, if◌then◌else◌, List, ◌∷◌, ◌++◌, length, Option, Some, None, Result, Ok, Err}
use Rattle.command_tables.specs.Calls.{ReplyContent}
use Rattle.trace_format.specs.Accepting.{calls_begun}
use Rattle.trace_format.specs.Content.{TraceEvent}
use Rattle.trace_format.specs.State.{TraceSeen, SumsUp}
use Rattle.replay_base.specs.Changes.{Change, Gained, Stood, FailedOnce}
use Rattle.replay_base.specs.declared.limit.Which.TheVariants as which
use Rattle.replay_model.specs.Setup.{Setup}
use Rattle.replay_model.specs.Stop.{Stop, Cause, Fault, LineBytes, Lines, Names, Layers, at_fault, exceeds_layers, line_after}
use Rattle.chain_model.specs.Traces.{IsTrace}
use Rattle.chain_session.specs.declared.kept.Kept.{Kept}
use Rattle.chain_session.specs.Standing.{StandsFor}
use Rattle.replay_core.specs.declared.error.ReplayError.{ReplayError}
use Rattle.replay_core.specs.declared.error.ReplayError.TheVariants as error
use Rattle.replay_core.specs.Traffic.{Traffic, Start, upto, through, Told, WentOut, Played, CutInLines, BrokeAtEnd, RanOutBehind, end_line_of, lines_of_events, with_next}
use Rattle.replay_core.specs.Given.{BreaksBehind, EndsBehind, GoesOn, StopsAt}

-- ---- one event

-- one event under a setup: what the session keeps before it and after it, the event, and what went to the drivers and the sink
pub record Step : Type 0 where
  pub setup : Setup
  pub old : Option Kept
  pub new : Option Kept
  pub event : TraceEvent
  pub traffic : Traffic

-- whatever was replayed before the event, where it may follow, this holds of it and the event
abbrev pub After : Step → (List TraceEvent → Traffic → Type 0) → Type 0
After step Holds = (start : Start) (events : List TraceEvent) → Played step.setup step.old events (upto start step.traffic) → IsTrace (step.event ∷ events) → Holds events (through start step.traffic)

-- the event's chain may have as many layers as it would have
abbrev pub IsWithin : Step → Type 0
IsWithin step = exceeds_layers step.setup step.event ≡ false

-- the event that comes next where memory runs out: none where its chain would have too many layers
abbrev pub next_of : Setup → TraceEvent → Option TraceEvent
next_of s e = if exceeds_layers s e then None else Some e

-- the event was replayed, its chain would have too many layers, the sink failed in its lines, or memory ran out before them
abbrev pub Steps : Step → Result (Unit {0}) ReplayError → Type 0
Steps step (Ok done) = After step (λ events t. Played step.setup step.new (step.event ∷ events) t) × Stood step.traffic.sink × IsWithin step
Steps step (Err error.Write) = After step (λ events t. CutInLines step.setup events step.event t) × FailedOnce step.traffic.sink × IsWithin step
Steps step (Err (error.Limit which.Chain)) = After step (λ events t. WentOut step.setup events t) × Stood step.traffic.sink × (exceeds_layers step.setup step.event ≡ true)
Steps step (Err error.NoMemory) = After step (λ events t. RanOutBehind step.setup events (next_of step.setup step.event) t) × Stood step.traffic.sink
Steps step (Err other) = ⊥

-- ---- one line

-- the state of the trace and the session stand for the same events, of which each begin took a line behind the header
pub record InStep (s : Setup) (state : TraceSeen) (x : Option Kept) (number : ℕ) : Type 0 where
  pub events : List TraceEvent
  pub replies : List ReplyContent
  pub state_stands : SumsUp state events
  pub session_stands : StandsFor s x events replies
  pub trace : IsTrace events
  pub few : calls_begun events + 2 ≤ number

-- one line under a setup: its bytes and its number, the state of the trace and what the session keeps before and after it, and what went to the drivers and the sink
pub record LineStep : Type 0 where
  pub setup : Setup
  pub text : List ℕ
  pub number : ℕ
  pub old_state : TraceSeen
  pub state : TraceSeen
  pub old : Option Kept
  pub new : Option Kept
  pub traffic : Traffic

-- whatever was replayed before the line, this holds of it and the line
abbrev pub Behind : LineStep → (List TraceEvent → Traffic → Type 0) → Type 0
Behind l Holds = (start : Start) (events : List TraceEvent) → SumsUp l.old_state events → Played l.setup l.old events (upto start l.traffic) → Holds events (through start l.traffic)

-- the line's event was replayed
pub record LinePlayed (l : LineStep) (events : List TraceEvent) (t : Traffic) : Type 0 where
  pub event : TraceEvent
  pub here : line_after l.setup events l.text ≡ Ok event
  pub stands : SumsUp l.state (event ∷ events)
  pub played : Played l.setup l.new (event ∷ events) t

-- the trace stops at the line, of which nothing went out
pub record LineStops (l : LineStep) (cause : Cause) (events : List TraceEvent) (t : Traffic) : Type 0 where
  pub here : line_after l.setup events l.text ≡ Err cause
  pub went : WentOut l.setup events t

-- the sink failed in the lines of the line's event
pub record LineCut (l : LineStep) (events : List TraceEvent) (t : Traffic) : Type 0 where
  pub event : TraceEvent
  pub here : line_after l.setup events l.text ≡ Ok event
  pub cut : CutInLines l.setup events event t

-- memory ran out at the line's event
pub record RanOutAt (l : LineStep) (events : List TraceEvent) (t : Traffic) : Type 0 where
  pub event : TraceEvent
  pub here : line_after l.setup events l.text ≡ Ok event
  pub cut : RanOutBehind l.setup events (Some event) t

-- memory ran out before any of the line went out, or at its event
abbrev pub LineRanOut : LineStep → List TraceEvent → Traffic → Type 0
LineRanOut l events t = RanOutBehind l.setup events None t ⊎ RanOutAt l events t

-- the line was replayed, or why not
abbrev pub PlaysLine : LineStep → Result (Unit {0}) ReplayError → Type 0
PlaysLine l (Ok done) = Behind l (λ events t. LinePlayed l events t) × Stood l.traffic.sink
PlaysLine l (Err (error.Trace line fault)) = Behind l (λ events t. LineStops l (Fault fault) events t) × Stood l.traffic.sink × (line ≡ l.number)
PlaysLine l (Err (error.Limit which.Names)) = Behind l (λ events t. LineStops l Names events t) × Stood l.traffic.sink
PlaysLine l (Err (error.Limit which.Chain)) = Behind l (λ events t. LineStops l Layers events t) × Stood l.traffic.sink
PlaysLine l (Err error.Write) = Behind l (λ events t. LineCut l events t) × FailedOnce l.traffic.sink
PlaysLine l (Err error.NoMemory) = Behind l (λ events t. LineRanOut l events t) × Stood l.traffic.sink
PlaysLine l (Err other) = ⊥

-- ---- all lines

-- all events were replayed, and nothing stops them
pub record PlayedAll (s : Setup) (x : Option Kept) (source : Change) (t : Traffic) : Type 0 where
  pub events : List TraceEvent
  pub ends : EndsBehind s events source
  pub played : Played s x events t
  pub stood : Stood t.sink

-- the events up to this stop went out
pub record PlayedTo (s : Setup) (place : Stop) (source : Change) (t : Traffic) : Type 0 where
  pub events : List TraceEvent
  pub stops : StopsAt s place events source
  pub went : WentOut s events t
  pub stood : Stood t.sink

-- those up to a line with this cause did
pub record PlayedToLimit (s : Setup) (cause : Cause) (source : Change) (t : Traffic) : Type 0 where
  pub line : ℕ
  pub played : PlayedTo s (record { line = line; cause = cause }) source t

-- the source failed, and the events of the lines that it had given went out
pub record PlayedPiece (s : Setup) (source : Change) (t : Traffic) : Type 0 where
  pub events : List TraceEvent
  pub breaks : BreaksBehind s events source
  pub went : WentOut s events t
  pub stood : Stood t.sink

-- the sink failed in the lines of one of the events, before the next line was read
pub record BrokeInLines (s : Setup) (source : Change) (t : Traffic) : Type 0 where
  pub events : List TraceEvent
  pub event : TraceEvent
  pub goes : GoesOn s (event ∷ events) (length events + 2) source
  pub cut : CutInLines s events event t
  pub failed : FailedOnce t.sink

-- memory ran out behind some of the events
pub record RanOut (s : Setup) (source : Change) (t : Traffic) : Type 0 where
  pub events : List TraceEvent
  pub next : Option TraceEvent
  pub goes : GoesOn s (with_next next events) (length events + 2) source
  pub cut : RanOutBehind s events next t
  pub stood : Stood t.sink

-- all events were replayed, or those up to the stop, or the source or the sink failed, or memory ran out behind some
abbrev pub Plays : Setup → Option Kept → Change → Traffic → Result (Unit {0}) ReplayError → Type 0
Plays s x source t (Ok done) = PlayedAll s x source t
Plays s x source t (Err error.Read) = PlayedPiece s source t
Plays s x source t (Err (error.Trace line fault)) = PlayedTo s (at_fault line fault) source t
Plays s x source t (Err (error.Limit which.Lines)) = PlayedToLimit s Lines source t
Plays s x source t (Err (error.Limit which.LineBytes)) = PlayedToLimit s LineBytes source t
Plays s x source t (Err (error.Limit which.Names)) = PlayedToLimit s Names source t
Plays s x source t (Err (error.Limit which.Chain)) = PlayedToLimit s Layers source t
Plays s x source t (Err error.Write) = BrokeInLines s source t
Plays s x source t (Err error.NoMemory) = RanOut s source t
Plays s x source t (Err other) = ⊥

-- ---- all lines and the end line

-- nothing stops the trace, all its events were replayed, and the end line stands behind their lines
pub record PlayedWhole (s : Setup) (x : Option Kept) (source : Change) (t : Traffic) : Type 0 where
  pub events : List TraceEvent
  pub ends : EndsBehind s events source
  pub replies : List ReplyContent
  pub stands : StandsFor s x events replies
  pub told : Told s events replies t
  pub wrote : Gained t.sink (lines_of_events s events ++ end_line_of s events)
  pub stood : Stood t.sink

-- the sink failed in the end line of a trace that nothing stops
pub record CutAtEnd (s : Setup) (source : Change) (t : Traffic) : Type 0 where
  pub events : List TraceEvent
  pub ends : EndsBehind s events source
  pub cut : BrokeAtEnd s events t
  pub failed : FailedOnce t.sink

-- the whole trace was replayed, or why not
abbrev pub PlaysWhole : Setup → Option Kept → Change → Traffic → Result (Unit {0}) ReplayError → Type 0
PlaysWhole s x source t (Ok done) = PlayedWhole s x source t
PlaysWhole s x source t (Err error.Write) = BrokeInLines s source t ⊎ CutAtEnd s source t
PlaysWhole s x source t (Err other) = Plays s x source t (Err other)
