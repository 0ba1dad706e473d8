-- The events of a stream file that was read are of the grammar.
use Rattle.std.proofs.Common.{◌≡◌, ◌+◌, ℕ, Bool, true, false, cond, Option, Some, None, List, [], ◌∷◌, length, refl, subst}
use Rattle.std.specs.Prelude.{⊤, Result, Ok, Err}
use Rattle.std.specs.List.{AllByRecursion}
use Rattle.replay_base.specs.Lines.{lines_of}
use Rattle.trace_format.specs.declared.fault.TraceFault.{TraceFault}
use Rattle.trace_format.specs.Content.{TraceEvent}
use Rattle.trace_format.specs.Grammar.{IsEvent}
use Rattle.trace_format.specs.Reading.{read_line}
use Rattle.trace_format.proofs.Lines.{spelled_read}
use Rattle.stream_model.specs.declared.heading.Heading.{Heading}
use Rattle.stream_model.specs.declared.refusal.Refusal.{Refusal}
use Rattle.stream_model.specs.FileLines.{FileLine, HeadingLine, EventLine, event_line, file_line, heading_line, heading_of, is_event_line}
use Rattle.stream_model.specs.Order.{events, refusal_after}
use Rattle.stream_model.specs.Refusals.{ended_at, header_refusal, lines_behind, lines_from, lines_in, line_at, next_or, placed, refusal_before, unless_before, unless_refused}
use Rattle.stream_model.proofs.Orders.{whole_file}

-- a line's event is of the grammar
abbrev IsOfGrammar : FileLine → Type 0
IsOfGrammar (HeadingLine h) = ⊤
IsOfGrammar (EventLine e) = IsEvent e

-- ---- one line

spelled_line : (line : List ℕ) (l : FileLine) → file_line line ≡ Ok l → IsOfGrammar l
spelled_line line l is = go (is_event_line line) is
  where
    event : (r : Result TraceEvent TraceFault) → read_line line ≡ r → event_line r ≡ Ok l → IsOfGrammar l
    event (Ok e) was p = let one : EventLine e ≡ l = cc in subst IsOfGrammar one (spelled_read line e was).event
    event (Err f) was p = cc p

    heading : (h : Option Heading) → heading_line h ≡ Ok l → IsOfGrammar l
    heading (Some h) p = let one : HeadingLine h ≡ l = cc in subst IsOfGrammar one tt
    heading None p = cc p

    go : (u : Bool) → cond u (event_line (read_line line)) (heading_line (heading_of line)) ≡ Ok l → IsOfGrammar l
    go true p = event (read_line line) refl p
    go false p = heading (heading_of line) p

placed_line : (n : ℕ) (before : List FileLine) (line : List ℕ) (l : FileLine) → line_at n before line ≡ Ok l → IsOfGrammar l
placed_line n before line l is = look (refusal_before n line) is
  where
    put : (x : FileLine) (r : Option Refusal) → file_line line ≡ Ok x → unless_refused x r ≡ Ok l → IsOfGrammar l
    put x None was p = let one : x ≡ l = cc in subst IsOfGrammar one (spelled_line line x was)
    put x (Some r) was p = cc p

    read : (r : Result FileLine Refusal) → file_line line ≡ r → placed before r ≡ Ok l → IsOfGrammar l
    read (Ok x) was p = put x (refusal_after before x) was p
    read (Err r) was p = cc p

    look : (c : Option Refusal) → unless_before c (placed before (file_line line)) ≡ Ok l → IsOfGrammar l
    look (Some c) p = cc p
    look None p = read (file_line line) refl p

-- ---- all lines

one_more : (before : List FileLine) (l : FileLine) → IsOfGrammar l → AllByRecursion IsEvent (events before) → AllByRecursion IsEvent (events (l ∷ before))
one_more before (HeadingLine h) is all = all
one_more before (EventLine e) is all = (is, all)

from_grammar : (n : ℕ) (before lines : List FileLine) (text : List (List ℕ)) → AllByRecursion IsEvent (events before) → lines_from n before text ≡ Ok lines → AllByRecursion IsEvent (events lines)
from_grammar n before lines [] all is = let same : before ≡ lines = cc in subst (λ ls. AllByRecursion IsEvent (events ls)) same all
from_grammar n before lines (line ∷ text) all is = go (line_at n before line) refl (λ l next p. from_grammar (n + 1) (l ∷ before) lines text next p) is
  where
    go : (r : Result FileLine Refusal) → line_at n before line ≡ r → ((l : FileLine) → AllByRecursion IsEvent (events (l ∷ before)) → lines_from (n + 1) (l ∷ before) text ≡ Ok lines → AllByRecursion IsEvent (events lines))
        → next_or n r (λ l. lines_from (n + 1) (l ∷ before) text) ≡ Ok lines → AllByRecursion IsEvent (events lines)
    go (Ok l) here rest p = rest l (one_more before l (placed_line n before line l here) all) p
    go (Err r) here rest p = cc p

so_far_grammar : (text : List (List ℕ)) (lines : List FileLine) → lines_in text ≡ Ok lines → AllByRecursion IsEvent (events lines)
so_far_grammar [] lines is = let same : [] ≡ lines = cc in subst (λ ls. AllByRecursion IsEvent (events ls)) same tt
so_far_grammar (line ∷ text) lines is = go (header_refusal line) is
  where
    go : (r : Option Refusal) → lines_behind r text ≡ Ok lines → AllByRecursion IsEvent (events lines)
    go None p = from_grammar 2 [] lines text tt p
    go (Some r) p = cc p

pub read_grammar : (bytes : List ℕ) (lines : List FileLine) → ended_at (length (lines_of bytes) + 1) (lines_in (lines_of bytes)) ≡ Ok lines → AllByRecursion IsEvent (events lines)
read_grammar bytes lines is = so_far_grammar (lines_of bytes) lines (whole_file (length (lines_of bytes) + 1) (lines_in (lines_of bytes)) lines is).0
