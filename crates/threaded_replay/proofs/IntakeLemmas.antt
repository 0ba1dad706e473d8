-- The lines of a stream file are taken as they are written.
use Rattle.std.proofs.Common.{◌≡◌, ◌∙◌, ℕ, true, false, cond, List, ap}
use Rattle.std.specs.Prelude.{Result, Ok, Err, Option}
use Rattle.trace_format.specs.declared.fault.TraceFault.{TraceFault}
use Rattle.trace_format.specs.Content.{TraceEvent}
use Rattle.trace_format.specs.Reading.{read_line}
use Rattle.stream_model.specs.declared.heading.Heading.{Heading}
use Rattle.stream_model.specs.declared.refusal.Refusal.{Refusal}
use Rattle.stream_model.specs.FileLines.{FileLine, event_line, file_line, heading_line, heading_of, is_event_line}
use Rattle.stream_model.specs.Refusals.{placed, unless_refused}
use Rattle.threaded_replay.specs.declared.error.NotTaken.{NotTaken}
use Rattle.threaded_replay.specs.declared.error.NotTaken.TheVariants as why
use Rattle.threaded_replay.specs.declared.file_state.FileState.{FileState}
use Rattle.threaded_replay.specs.declared.intake.Intake.{Intake}
use Rattle.threaded_replay.specs.Intakes.{IntakeTakes, TakesText}
use Rattle.threaded_replay.specs.Taking.{StateTakes}

-- what the state doesn't take isn't taken
pub not_taken : (i j : Intake) (s : FileState) (l : FileLine) (e : NotTaken) → StateTakes i.state s l (Err e) → IntakeTakes i j l (Err e)
not_taken i j s l (why.Refused r) refused = λ lines stands. refused lines stands.state
not_taken i j s l why.NoMemory refused = tt

-- the line that these bytes spell
pub as_written : (i j : Intake) (l : FileLine) (text : List ℕ) (r : Result (Unit {0}) NotTaken) → file_line text ≡ Ok l → IntakeTakes i j l r → TakesText i j text r
as_written i j l text (Ok done) spelled taken = λ lines stands.
    let two = taken lines stands in
    record { line = l; here = ap (placed lines) spelled ∙ ap (unless_refused l) two.0; is = two.1 }
as_written i j l text (Err (why.Refused r)) spelled refused = λ lines stands. ap (placed lines) spelled ∙ ap (unless_refused l) (refused lines stands)
as_written i j l text (Err why.NoMemory) spelled refused = tt

-- these bytes spell no line
pub unspelled : (i j : Intake) (text : List ℕ) (r : Refusal) → file_line text ≡ Err r → TakesText i j text (Err (why.Refused r))
unspelled i j text r none = λ lines stands. ap (placed lines) none

-- a line that begins as an event does
pub event_spelled : (text : List ℕ) (r : Result TraceEvent TraceFault) → is_event_line text ≡ true → read_line text ≡ r → file_line text ≡ event_line r
event_spelled text r is same = ap (λ b. cond b (event_line (read_line text)) (heading_line (heading_of text))) is ∙ ap event_line same

-- any other
pub heading_spelled : (text : List ℕ) (h : Option Heading) → is_event_line text ≡ false → heading_of text ≡ h → file_line text ≡ heading_line h
heading_spelled text h is same = ap (λ b. cond b (event_line (read_line text)) (heading_line (heading_of text))) is ∙ ap heading_line same
