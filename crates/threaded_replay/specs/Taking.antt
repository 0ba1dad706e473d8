-- What comes of a line: it is taken behind those before it, or it is refused. Source: this project.
use Rattle.std.specs.Prelude.{◌≡◌, ⊤, Option, Some, None, option_map, List, ◌∷◌, Result, Ok, Err}
use Rattle.trace_format.specs.Accepting.{fault_after}
use Rattle.trace_format.specs.Content.{TraceEvent}
use Rattle.trace_format.specs.State.{SumsUp}
use Rattle.stream_model.specs.FileLines.{FileLine, EventLine}
use Rattle.stream_model.specs.Order.{events, limit_refusal, refusal_after, refusal_or, stream_refusal}
use Rattle.stream_model.specs.declared.refusal.Refusal.{Refusal}
use Rattle.stream_model.specs.declared.refusal.Refusal.TheVariants as refusal
use Rattle.threaded_replay.specs.declared.error.NotTaken.{NotTaken}
use Rattle.threaded_replay.specs.declared.error.NotTaken.TheVariants as why
use Rattle.threaded_replay.specs.declared.sections.Sections.{Sections}
use Rattle.threaded_replay.specs.declared.file_state.FileState.{FileState}
use Rattle.threaded_replay.specs.Kept.{KeptOf, StandsFor}

-- why an event may not stand in a stream, or which limit it would pass
abbrev pub section_refusal : List FileLine → TraceEvent → Option Refusal
section_refusal lines e = refusal_or (stream_refusal lines e) (limit_refusal lines e)

-- the state of the trace takes the event, or why not; the rest doesn't yet
abbrev pub TraceTakes : FileState → FileState → TraceEvent → Result (Unit {0}) NotTaken → Type 0
TraceTakes old new e (Ok done) = (lines : List FileLine) → StandsFor old lines → (fault_after (events lines) e ≡ None) × SumsUp new.trace (e ∷ events lines)
TraceTakes old new e (Err (why.Refused r)) = (lines : List FileLine) → StandsFor old lines → option_map (λ f. refusal.Fault f) (fault_after (events lines) e) ≡ Some r
TraceTakes old new e (Err why.NoMemory) = ⊤

-- what is kept beside the state of the trace takes the event, or why not; want of memory says nothing
abbrev pub SectionsTake : Sections → Sections → TraceEvent → Result (Unit {0}) NotTaken → Type 0
SectionsTake old new e (Ok done) = (lines : List FileLine) → KeptOf old lines → (section_refusal lines e ≡ None) × KeptOf new (EventLine e ∷ lines)
SectionsTake old new e (Err (why.Refused r)) = (lines : List FileLine) → KeptOf old lines → section_refusal lines e ≡ Some r
SectionsTake old new e (Err why.NoMemory) = ⊤

-- the state takes the line, or why not
abbrev pub StateTakes : FileState → FileState → FileLine → Result (Unit {0}) NotTaken → Type 0
StateTakes old new l (Ok done) = (lines : List FileLine) → StandsFor old lines → (refusal_after lines l ≡ None) × StandsFor new (l ∷ lines)
StateTakes old new l (Err (why.Refused r)) = (lines : List FileLine) → StandsFor old lines → refusal_after lines l ≡ Some r
StateTakes old new l (Err why.NoMemory) = ⊤
