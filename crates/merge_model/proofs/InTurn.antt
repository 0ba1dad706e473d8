-- Events in turn: each is the next of its thread in the streams, behind those before it. They are what the turns of their threads make.
use Rattle.std.proofs.Common.{◌≡◌, ◌∙◌, ◌==◌, ℕ, suc, Bool, true, false, cond, Some, List, [], ◌∷◌, ◌++◌, length, refl, sym, ap, append_assoc}
use Rattle.std.specs.Prelude.{⊤, filter, is_some, map, reverse, slice_get}
use Rattle.std.proofs.lemmas.Bool.{eq-eqb}
use Rattle.std.proofs.lemmas.List.{length-reverse, reverse-append}
use Rattle.trace_format.specs.Content.{TraceEvent}
use Rattle.stream_model.specs.FileParts.{StreamPart}
use Rattle.stream_model.specs.Order.{event_thread}
use Rattle.stream_model.specs.Plans.{Along, events_along, events_planned, next_turn, turns_of, with_event}
use Rattle.merge_model.specs.Merges.{events_of_thread}

-- ---- lists

pub reverse_onto : {X : Type 0} (x : X) (xs ys : List X) → reverse (x ∷ xs) ++ ys ≡ reverse xs ++ x ∷ ys
reverse_onto x xs ys = ap (λ zs. zs ++ ys) (reverse-append (x ∷ []) xs) ∙ append_assoc (reverse xs) (x ∷ []) ys

slice_at : {X : Type 0} (xs ys : List X) (x : X) → slice_get (xs ++ x ∷ ys) (length xs) ≡ Some x
slice_at [] ys x = refl
slice_at (y ∷ xs) ys x = slice_at xs ys x

-- ---- events in turn

-- each of these events, of which the newest comes first, is the next of its thread behind those before it
abbrev pub AreInTurn : List StreamPart → List TraceEvent → Type 0
AreInTurn streams [] = ⊤
AreInTurn streams (e ∷ before) = (next_turn streams (event_thread e) (map event_thread before) ≡ Some e) × AreInTurn streams before

pub in_turn_along : (streams : List StreamPart) (es : List TraceEvent) → AreInTurn streams es → Along streams (map event_thread es)
in_turn_along streams [] is = tt
in_turn_along streams (e ∷ before) is = (ap is_some is.0, in_turn_along streams before is.1)

pub in_turn_events : (streams : List StreamPart) (es : List TraceEvent) → AreInTurn streams es → events_along streams (map event_thread es) ≡ es
in_turn_events streams [] is = refl
in_turn_events streams (e ∷ before) is =
    ap (λ o. with_event o (events_along streams (map event_thread before))) is.0 ∙ ap (λ es. e ∷ es) (in_turn_events streams before is.1)

-- ---- by thread

-- a thread had as many turns as there are events of it
pub turns_counted : (t : ℕ) (es : List TraceEvent) → turns_of t (map event_thread es) ≡ length (events_of_thread t es)
turns_counted t [] = refl
turns_counted t (e ∷ before) = go (event_thread e == t) (turns_counted t before)
  where
    go : (u : Bool) → turns_of t (map event_thread before) ≡ length (events_of_thread t before)
        → length (cond u (event_thread e ∷ filter (λ x. x == t) (map event_thread before)) (filter (λ x. x == t) (map event_thread before))) ≡ length (cond u (e ∷ events_of_thread t before) (events_of_thread t before))
    go true same = ap suc same
    go false same = same

-- Each thread's events begin what it has in the streams.
pub record Begun (streams : List StreamPart) (es : List TraceEvent) : Type 0 where
  pub rest : ℕ → List TraceEvent
  pub whole : (t : ℕ) → events_planned streams t ≡ reverse (events_of_thread t es) ++ rest t

-- so do those before the newest
begun_before : (streams : List StreamPart) (e : TraceEvent) (before : List TraceEvent) → Begun streams (e ∷ before) → Begun streams before
begun_before streams e before b = record { rest = λ t. cond (event_thread e == t) (e ∷ b.rest t) (b.rest t); whole = λ t. go t (event_thread e == t) (b.whole t) }
  where
    go : (t : ℕ) (u : Bool) → events_planned streams t ≡ reverse (cond u (e ∷ events_of_thread t before) (events_of_thread t before)) ++ b.rest t
        → events_planned streams t ≡ reverse (events_of_thread t before) ++ cond u (e ∷ b.rest t) (b.rest t)
    go t true is = is ∙ reverse_onto e (events_of_thread t before) (b.rest t)
    go t false is = is

-- the newest is next
begun_next : (streams : List StreamPart) (e : TraceEvent) (before : List TraceEvent) → Begun streams (e ∷ before) → next_turn streams (event_thread e) (map event_thread before) ≡ Some e
begun_next streams e before b =
    let t : ℕ = event_thread e in
    let own : events_of_thread t (e ∷ before) ≡ e ∷ events_of_thread t before = ap (λ u. cond u (e ∷ events_of_thread t before) (events_of_thread t before)) (eq-eqb t t refl) in
    let planned : events_planned streams t ≡ reverse (events_of_thread t before) ++ e ∷ b.rest t =
    b.whole t ∙ (ap (λ es. reverse es ++ b.rest t) own ∙ reverse_onto e (events_of_thread t before) (b.rest t)) in
    let count : turns_of t (map event_thread before) ≡ length (reverse (events_of_thread t before)) = turns_counted t before ∙ sym (length-reverse (events_of_thread t before)) in
    ap (λ k. slice_get (events_planned streams t) k) count
    ∙ (ap (λ es. slice_get es (length (reverse (events_of_thread t before)))) planned ∙ slice_at (reverse (events_of_thread t before)) (b.rest t) e)

pub begun_in_turn : (streams : List StreamPart) (es : List TraceEvent) → Begun streams es → AreInTurn streams es
begun_in_turn streams [] b = tt
begun_in_turn streams (e ∷ before) b = (begun_next streams e before b, begun_in_turn streams before (begun_before streams e before b))
