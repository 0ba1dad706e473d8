-- Answers that are handed on.
use Rattle.std.proofs.Common.{◌≡◌, ℕ, true, Option, Some, None, Result, Ok, Err, List, refl, codes, IfOk}
use Rattle.std.specs.List.{list_all}
use Rattle.std.specs.Option.{ok_or}
use Rattle.trace_format.specs.declared.event.Event.{Event}
use Rattle.trace_format.specs.declared.parse.error.ParseError.{ParseError}
use Rattle.trace_format.specs.declared.parse.error.ParseError.TheVariants as error
use Rattle.trace_format.specs.declared.fault.TraceFault.{TraceFault}
use Rattle.trace_format.specs.Content.{content}
use Rattle.trace_format.specs.Grammar.{IsEvent, is_printable}
use Rattle.trace_format.specs.Words.{after}
use Rattle.trace_format.specs.Reading.{by_letter, read_line}
use Rattle.trace_format.proofs.Lines.{spelled_read}
use Rattle.trace_format.specs.Steps.{Answers}

-- a fault is handed on where the part that is not there makes the whole not there
pub fault_on : {A B C D : Type 0} (seen : A → B) (whole_seen : C → D) (e : ParseError) (f : TraceFault) (part : Option B) (whole : Option D)
    → Answers seen (Err e) (ok_or part f) → (part ≡ None → whole ≡ None) → Answers whole_seen (Err e) (ok_or whole f)
fault_on seen whole_seen (error.Fault g) f None whole h k = rw (k refl) (cc)
fault_on seen whole_seen (error.Fault g) f (Some x) whole h k = cc
fault_on seen whole_seen error.NoMemory f part whole h k = tt

-- what is answered is there
pub is_there : {A B : Type 0} (seen : A → B) (x : A) (f : TraceFault) (part : Option B) → Answers seen (Ok x) (ok_or part f) → part ≡ Some (seen x)
is_there seen x f None h = cc
is_there seen x f (Some y) h = cc

-- an answered event is one of the grammar
pub event_is_of_the_grammar : (line : List ℕ) (r : Result Event ParseError) → list_all is_printable line ≡ true → Answers content r (by_letter (after (codes "b ") line) (after (codes "r ") line)) → IfOk r (λ event. IsEvent (content event))
unfolding read_line
event_is_of_the_grammar line (Ok event) printable answer =
    let read : read_line line ≡ Ok (content event) = rw printable answer in
    (spelled_read line (content event) read).event
event_is_of_the_grammar line (Err e) printable answer = tt
