-- Events that are printed one by one.
use Rattle.std.proofs.Common.{◌≡◌, ◌∙◌, ◌+◌, ◌<◌, ℕ, zero, suc, List, [], ◌∷◌, ◌++◌, length, map, take, refl, sym, ap, subst, arith, append_assoc, append-nil}
use Rattle.std.specs.List.{AllByRecursion, slice_index_or}
use Rattle.std.proofs.lemmas.List.{map-append, take_more}
use Rattle.trace_format.specs.declared.event.Event.{Event}
use Rattle.trace_format.specs.Content.{TraceEvent, content}
use Rattle.trace_format.specs.Grammar.{IsEvent}
use Rattle.threads_tool.specs.Printed.{event_line, event_lines}

-- the lines of two lists of events
pub lines_of_both : (es ds : List TraceEvent) → event_lines (es ++ ds) ≡ event_lines es ++ event_lines ds
lines_of_both [] ds = refl
lines_of_both (e ∷ es) ds = ap (λ t. event_line e ++ t) (lines_of_both es ds) ∙ sym (append_assoc (event_line e) (event_lines es) (event_lines ds))

-- ---- one event of a list

pub event_here : (es : List Event) (i : ℕ) (e : Event) → i < length es → e ≡ slice_index_or es i e → AllByRecursion IsEvent (map content es) → IsEvent (content e)
event_here [] i e lt at all = absurd (omega (arith, lt))
event_here (x ∷ es) zero e lt at all = subst (λ (y : Event). IsEvent (content y)) (sym at) all.0
event_here (x ∷ es) (suc i) e lt at all = event_here es i e (omega (arith, lt)) at all.1

-- the lines so far, and then this one's
pub next_event : (es : List Event) (i : ℕ) (e : Event) → i < length es → e ≡ slice_index_or es i e → (head old new : List ℕ)
    → old ≡ head ++ event_lines (map content (take i es)) → new ≡ old ++ event_line (content e) → new ≡ head ++ event_lines (map content (take (i + 1) es))
next_event es i e lt at head old new was is =
    is ∙ (ap (λ t. t ++ event_line (content e)) was
    ∙ (append_assoc head (event_lines (map content (take i es))) (event_line (content e)) ∙ ap (λ t. head ++ t) (sym more)))
  where
    more : event_lines (map content (take (i + 1) es)) ≡ event_lines (map content (take i es)) ++ event_line (content e)
    more =
        ap (λ (xs : List Event). event_lines (map content xs)) (take_more es i e lt ∙ ap (λ y. take i es ++ y ∷ []) (sym at))
        ∙ (ap event_lines (map-append content (take i es) (e ∷ []))
        ∙ (lines_of_both (map content (take i es)) (content e ∷ []) ∙ ap (λ t. event_lines (map content (take i es)) ++ t) (append-nil (event_line (content e)))))
