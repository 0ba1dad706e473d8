-- A stream file as its content: lists in place of vectors. Source: this project.
use Rattle.std.specs.Prelude.{◌≡◌, ⊤, ℕ, Option, Some, None, List, [], ◌∷◌, ◌++◌, All}
use Rattle.std.specs.List.{flat_map}
use Rattle.trace_format.specs.Content.{TraceEvent}
use Rattle.stream_model.specs.declared.heading.Heading.{Heading}
use Rattle.stream_model.specs.declared.heading.Heading.TheVariants as heading
use Rattle.stream_model.specs.FileLines.{FileLine, HeadingLine, EventLine}
use Rattle.stream_model.specs.Order.{event_thread, refusal_after, refusal_at_end, section}

-- a stream: its thread and its events, the oldest first
pub record StreamPart : Type 0 where
  pub thread : ℕ
  pub events : List TraceEvent

-- a file: its events before the streams, the streams in the file's order, and its events behind them
pub record FileParts : Type 0 where
  pub setup : List TraceEvent
  pub streams : List StreamPart
  pub teardown : List TraceEvent

-- a file without events
abbrev pub no_parts : FileParts
no_parts = record { setup = []; streams = []; teardown = [] }

-- a section with its events; before setup there is none
abbrev pub with_section : FileParts → Option Heading → List TraceEvent → FileParts
with_section file None events = file
with_section file (Some heading.Setup) events = record file { setup = events }
with_section file (Some (heading.Stream thread)) events = record file { streams = file.streams ++ record { thread = thread; events = events } ∷ [] }
with_section file (Some heading.Teardown) events = record file { teardown = events }

-- the events behind the last heading, the oldest first
abbrev pub open_events : List FileLine → List TraceEvent
open_events [] = []
open_events (HeadingLine h ∷ lines) = []
open_events (EventLine e ∷ lines) = open_events lines ++ e ∷ []

-- the sections before the last heading, with their events
abbrev pub closed_parts : List FileLine → FileParts
closed_parts [] = no_parts
closed_parts (HeadingLine h ∷ lines) = with_section (closed_parts lines) (section lines) (open_events lines)
closed_parts (EventLine e ∷ lines) = closed_parts lines

-- the parts of a file with these lines, of which the newest comes first
abbrev pub parts : List FileLine → FileParts
parts lines = with_section (closed_parts lines) (section lines) (open_events lines)

-- all events of a file, one section after the other
abbrev pub all_events : FileParts → List TraceEvent
all_events file = file.setup ++ (flat_map (λ s. s.events) file.streams ++ file.teardown)

-- a stream's events are all of its thread
abbrev pub IsOfOneThread : StreamPart → Type 0
IsOfOneThread s = All (λ e. event_thread e ≡ s.thread) s.events

-- ---- files that are accepted

-- each line may follow those before it
abbrev pub AreInOrder : List FileLine → Type 0
AreInOrder [] = ⊤
AreInOrder (l ∷ lines) = AreInOrder lines × (refusal_after lines l ≡ None)

-- these are the parts of a whole file of which no line is refused
pub record IsStreamFile (file : FileParts) : Type 0 where
  pub lines : List FileLine
  pub order : AreInOrder lines
  pub whole : refusal_at_end lines ≡ None
  pub are : parts lines ≡ file
