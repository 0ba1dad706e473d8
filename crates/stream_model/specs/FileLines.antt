-- The lines of a stream file, each read by itself. Source: this project.
use Rattle.std.specs.Prelude.{ℕ, Bool, ◌||◌, if◌then◌else◌, Option, Some, None, is_some, option_map, Result, Ok, Err, List, codes}
use Rattle.std.specs.Str.{bytes_eq}
use Rattle.trace_format.specs.declared.fault.TraceFault.{TraceFault}
use Rattle.trace_format.specs.Content.{TraceEvent}
use Rattle.trace_format.specs.Reading.{read_line}
use Rattle.trace_format.specs.Words.{after, and_then, thread_of}
use Rattle.stream_model.specs.declared.heading.Heading.{Heading}
use Rattle.stream_model.specs.declared.heading.Heading.TheVariants as heading
use Rattle.stream_model.specs.declared.refusal.Refusal.{Refusal}
use Rattle.stream_model.specs.declared.refusal.Refusal.TheVariants as refusal

-- a line behind the first: the heading of a section, or an event
pub data FileLine : Type 0 where
  HeadingLine : (heading : Heading) → FileLine
  EventLine : (event : TraceEvent) → FileLine

-- the heading of a stream: `stream`, one space and a thread, spelled as in an event
abbrev pub stream_heading : List ℕ → Option Heading
stream_heading line = option_map (λ t. heading.Stream t) (and_then (after (codes "stream ") line) thread_of)

-- a heading: `setup`, `teardown`, or that of a stream
unfoldable pub heading_of : List ℕ → Option Heading
heading_of line = if bytes_eq line (codes "setup") then Some heading.Setup else (if bytes_eq line (codes "teardown") then Some heading.Teardown else stream_heading line)

-- a line is that of an event where it begins with `b ` or `r `
abbrev pub is_event_line : List ℕ → Bool
is_event_line line = is_some (after (codes "b ") line) || is_some (after (codes "r ") line)

-- an event that was read, or the fault of its line
abbrev pub event_line : Result TraceEvent TraceFault → Result FileLine Refusal
event_line (Ok e) = Ok (EventLine e)
event_line (Err f) = Err (refusal.Fault f)

-- a heading that was read; any other line is no heading
abbrev pub heading_line : Option Heading → Result FileLine Refusal
heading_line None = Err refusal.Section
heading_line (Some h) = Ok (HeadingLine h)

-- the line that these bytes spell, or why they spell none: that of an event has the fault that it has in a trace
abbrev pub file_line : List ℕ → Result FileLine Refusal
file_line line = if is_event_line line then event_line (read_line line) else heading_line (heading_of line)
