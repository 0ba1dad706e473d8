-- The events of a device's log: what its entries are by the plan of the device. Entries and events stand newest first. Source: this project.
use Rattle.std.specs.Prelude.{◌≡◌, ⊤, ℕ, true, false, Option, Some, None, List, [], ◌∷◌, filter, length, map}
use Rattle.stream_log.specs.declared.line.Line.{Line}
use Rattle.trace_format.specs.Content.{TraceEvent, Begin, Return}
use Rattle.stream_model.specs.FileParts.{StreamPart}
use Rattle.stream_model.specs.Plans.{events_along, next_turn}

-- the turns of a log's threads: each entry is a step of one
abbrev pub turns_in : List Line → List ℕ
turns_in entries = map (λ e. e.thread) entries

-- the event that comes next for a thread behind these entries: as many of its events come before it as it has made steps
abbrev pub next_event : List StreamPart → ℕ → List Line → Option TraceEvent
next_event streams thread entries = next_turn streams thread (turns_in entries)

-- the events of these entries: each is the next of its thread behind those before it
abbrev pub events_of : List StreamPart → List Line → List TraceEvent
events_of streams entries = events_along streams (turns_in entries)

-- the entry is the step of an event: a begin has no results
abbrev pub IsStepAt : Line → TraceEvent → Type 0
IsStepAt e (Begin b) = (e.begins ≡ true) × (e.results ≡ [])
IsStepAt e (Return thread) = e.begins ≡ false

-- the entry is the step of the event that comes next, and there is one
abbrev pub IsNextStep : Line → Option TraceEvent → Type 0
IsNextStep e None = ⊥
IsNextStep e (Some event) = IsStepAt e event

-- each entry is the step of the event that comes next for its thread
abbrev pub Follows : List StreamPart → List Line → Type 0
Follows streams [] = ⊤
Follows streams (e ∷ before) = IsNextStep e (next_event streams e.thread before) × Follows streams before

-- how many calls begin in these entries
abbrev pub begins_in : List Line → ℕ
begins_in entries = length (filter (λ e. e.begins) entries)
