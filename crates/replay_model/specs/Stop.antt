-- Where a trace stops under a setup, and why: the first line that is one too many or too long, has a fault, would bring too many names, or begins a
-- vkCreateInstance whose chain would have too many layers. Source: this project.
use Rattle.std.specs.Prelude.{ℕ, ◌+◌, Bool, true, false, ◌&&◌, if◌then◌else◌, nat_lt, Option, Some, None, Result, Ok, Err, List, [], ◌∷◌, length, drop}
use Rattle.std.specs.Option.{option_map}
use Rattle.replay_base.specs.Lines.{lines_of}
use Rattle.replay_base.specs.declared.limit.TheConstants.{MOST_LINE_BYTES}
use Rattle.command_tables.specs.Tests.{same_command}
use Rattle.command_tables.specs.declared.types.CommandId.TheVariants as cmd
use Rattle.trace_format.specs.declared.fault.TraceFault.{TraceFault}
use Rattle.trace_format.specs.Accepting.{exceeds_names, fault_after, fault_at_end, header_fault}
use Rattle.trace_format.specs.Content.{TraceEvent, Begin, Return}
use Rattle.trace_format.specs.Reading.{read_line}
use Rattle.replay_model.specs.declared.TheConstants.{MOST_LINES}
use Rattle.replay_model.specs.Setup.{Setup, is_too_long}

-- why a trace stops at a line: the limit on lines, or that on a line's bytes, its fault, the limit on names, or that on the layers of a chain
pub data Cause : Type 0 where
  Lines : Cause
  LineBytes : Cause
  Fault : (fault : TraceFault) → Cause
  Names : Cause
  Layers : Cause

-- a line, from 1, and why the trace stops there
pub record Stop : Type 0 where
  pub line : ℕ
  pub cause : Cause

-- a line with a fault
abbrev pub at_fault : ℕ → TraceFault → Stop
at_fault n f = record { line = n; cause = Fault f }

-- ---- one line

-- the event begins a vkCreateInstance whose chain would have too many layers
abbrev pub exceeds_layers : Setup → TraceEvent → Bool
exceeds_layers s (Begin e) = same_command e.cmd cmd.CreateInstance && is_too_long (s.outcome e.payload)
exceeds_layers s (Return thread) = false

-- the fault, and where there is none, the first limit that is passed: on names, and then on layers
abbrev pub first_cause : Option TraceFault → Bool → Bool → Option Cause
first_cause (Some f) names layers = Some (Fault f)
first_cause None true layers = Some Names
first_cause None false true = Some Layers
first_cause None false false = None

-- why an event can't follow those before it
abbrev pub cause_after : Setup → List TraceEvent → TraceEvent → Option Cause
cause_after s before e = first_cause (fault_after before e) (exceeds_names before e) (exceeds_layers s e)

-- the event, where nothing stops it
abbrev pub unless_stopped : TraceEvent → Option Cause → Result TraceEvent Cause
unless_stopped e None = Ok e
unless_stopped e (Some c) = Err c

-- the event that was read, where it may follow those before it
abbrev pub placed : Setup → List TraceEvent → Result TraceEvent TraceFault → Result TraceEvent Cause
placed s before (Ok e) = unless_stopped e (cause_after s before e)
placed s before (Err f) = Err (Fault f)

-- the event of a line behind these events, or why the trace stops there: what the line itself has comes before its place
abbrev pub line_after : Setup → List TraceEvent → List ℕ → Result TraceEvent Cause
line_after s before line = placed s before (read_line line)

-- why the line with this number isn't looked at: it is one too many, or it is too long
abbrev pub cause_before : ℕ → List ℕ → Option Cause
cause_before n line = if nat_lt MOST_LINES n then Some Lines else (if nat_lt MOST_LINE_BYTES (length line) then Some LineBytes else None)

-- what a line comes to, unless there is a cause before
abbrev pub unless_before : {T : Type 0} → Option Cause → Result T Cause → Result T Cause
unless_before None r = r
unless_before (Some c) r = Err c

-- the event of the line with this number behind these events, or why the trace stops there: the limits on lines come first
abbrev pub line_at : Setup → ℕ → List TraceEvent → List ℕ → Result TraceEvent Cause
line_at s n before line = unless_before (cause_before n line) (line_after s before line)

-- ---- where a trace stops

-- the first of two causes
abbrev pub cause_or : Option Cause → Option Cause → Option Cause
cause_or None other = other
cause_or (Some c) other = Some c

-- why a trace stops at its first line, which is its header
abbrev pub header_cause : List (List ℕ) → Option Cause
header_cause [] = option_map Fault (header_fault [])
header_cause (line ∷ lines) = cause_or (cause_before 1 line) (option_map Fault (header_fault (line ∷ lines)))

-- the line stops, or the rest behind its event decides
abbrev pub stop_or : ℕ → Result TraceEvent Cause → (TraceEvent → Option Stop) → Option Stop
stop_or n (Ok e) rest = rest e
stop_or n (Err c) rest = Some (record { line = n; cause = c })

-- the lines from number n on, behind these events; a call that is open at the end stops one line behind the last
abbrev pub stop_from : Setup → ℕ → List TraceEvent → List (List ℕ) → Option Stop
stop_from s n before [] = option_map (at_fault n) (fault_at_end before)
stop_from s n before (line ∷ lines) = stop_or n (line_at s n before line) (λ e. stop_from s (n + 1) (e ∷ before) lines)

-- the first line is the header, and then come the events
abbrev pub stop_behind : Setup → Option Cause → List (List ℕ) → Option Stop
stop_behind s (Some c) lines = Some (record { line = 1; cause = c })
stop_behind s None lines = stop_from s 2 [] (drop 1 lines)

-- the stop of these lines
abbrev pub stop_in : Setup → List (List ℕ) → Option Stop
stop_in s lines = stop_behind s (header_cause lines) lines

-- the first line at which a trace stops
abbrev pub stop : Setup → List ℕ → Option Stop
stop s bytes = stop_in s (lines_of bytes)

-- ---- the events before the stop, the newest first

-- the events so far, and where the line has its event, those that follow
abbrev pub events_or : List TraceEvent → Result TraceEvent Cause → (TraceEvent → List TraceEvent) → List TraceEvent
events_or before (Ok e) more = more e
events_or before (Err c) more = before

-- the events of the lines from number n on, behind these
abbrev pub events_from : Setup → ℕ → List TraceEvent → List (List ℕ) → List TraceEvent
events_from s n before [] = before
events_from s n before (line ∷ lines) = events_or before (line_at s n before line) (λ e. events_from s (n + 1) (e ∷ before) lines)

-- the events behind the header
abbrev pub events_behind : Setup → Option Cause → List (List ℕ) → List TraceEvent
events_behind s (Some c) lines = []
events_behind s None lines = events_from s 2 [] (drop 1 lines)

-- the events of these lines, up to their stop
abbrev pub events_in : Setup → List (List ℕ) → List TraceEvent
events_in s lines = events_behind s (header_cause lines) lines

-- the events of a trace, up to its stop
abbrev pub events_of : Setup → List ℕ → List TraceEvent
events_of s bytes = events_in s (lines_of bytes)

-- ---- the events of lines that are there so far

-- the event of a line, where it has one
abbrev pub placed_or : Result TraceEvent Cause → (TraceEvent → Option (List TraceEvent)) → Option (List TraceEvent)
placed_or (Ok e) more = more e
placed_or (Err c) more = None

-- the events behind the lines from number n on, where none of them stops
abbrev pub placed_from : Setup → ℕ → List TraceEvent → List (List ℕ) → Option (List TraceEvent)
placed_from s n before [] = Some before
placed_from s n before (line ∷ lines) = placed_or (line_at s n before line) (λ e. placed_from s (n + 1) (e ∷ before) lines)

-- the events behind the header, where it is one
abbrev pub placed_behind : Setup → Option Cause → List (List ℕ) → Option (List TraceEvent)
placed_behind s (Some c) lines = None
placed_behind s None lines = placed_from s 2 [] lines

-- the events of a trace of which these lines are there so far, where none of them stops
abbrev pub placed_in : Setup → List (List ℕ) → Option (List TraceEvent)
placed_in s [] = Some []
placed_in s (line ∷ lines) = placed_behind s (header_cause (line ∷ lines)) lines
