-- What a generated trace is to one who reads it. Source: this project.
use Rattle.std.specs.Prelude.{◌≡◌, ℕ, false, None, List, [], ◌∷◌, map}
use Rattle.replay_base.specs.Lines.{lines_of}
use Rattle.trace_format.specs.Accepting.{exceeds_names, fault_after, fault_at_end, header}
use Rattle.trace_format.specs.Content.{TraceEvent}
use Rattle.trace_format.specs.Grammar.{IsEvent, spelling}

-- each event is one of the grammar, has no fault behind those before it, and doesn't pass the limit on names; and no call is open at the end
abbrev pub Follow : List TraceEvent → List TraceEvent → Type 0
Follow before [] = fault_at_end before ≡ None
Follow before (e ∷ events) = IsEvent e × (fault_after before e ≡ None) × (exceeds_names before e ≡ false) × Follow (e ∷ before) events

-- the lines of a text are a header and the lines of these events, which follow one another without fault
pub record IsFaultless (bytes : List ℕ) (events : List TraceEvent) : Type 0 where
  pub lines : lines_of bytes ≡ header ∷ map spelling events
  pub follow : Follow [] events
