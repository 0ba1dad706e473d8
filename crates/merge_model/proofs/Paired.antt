-- The streams of a whole file are of calls that return at once, all of the stream's thread.
use Rattle.std.proofs.Common.{◌≡◌, ◌∙◌, ◌==◌, ◌+◌, ℕ, Bool, true, false, not, cond, ◌||◌, Option, Some, None, List, [], ◌∷◌, ◌++◌, length, refl, sym, ap, subst}
use Rattle.std.specs.Prelude.{⊤, filter}
use Rattle.std.specs.List.{AllByRecursion, list_all, list_any}
use Rattle.std.proofs.lemmas.Bool.{eq-eqb, eqb-true, not-false}
use Rattle.std.proofs.lemmas.List.{nil_from_length}
use Rattle.command_tables.specs.Table.{row_of}
use Rattle.trace_format.specs.declared.fault.TraceFault.{TraceFault}
use Rattle.trace_format.specs.declared.fault.TraceFault.TheVariants as fault
use Rattle.trace_format.specs.Accepting.{breaks_instance, count_on, fault_after, first_fault, is_known, is_of_type, is_open, names_given, names_used, open_threads}
use Rattle.trace_format.specs.Content.{BeginEvent, TraceEvent, Begin, Return}
use Rattle.chain_model.proofs.Eventing.{all_append}
use Rattle.stream_model.specs.declared.heading.Heading.{Heading}
use Rattle.stream_model.specs.declared.heading.Heading.TheVariants as heading
use Rattle.stream_model.specs.FileLines.{FileLine, HeadingLine, EventLine}
use Rattle.stream_model.specs.FileParts.{AreInOrder, FileParts, StreamPart, closed_parts, open_events, parts, with_section}
use Rattle.stream_model.specs.Order.{event_thread, events, refusal_at_end, section, takes_thread}
use Rattle.stream_model.proofs.Orders.{heading_in_order, lines_closed, not_refused}

-- ---- pairs

-- each begin is followed by a return at once, both of the thread
abbrev pub OwnPairs : ℕ → List TraceEvent → Type 0
OwnPairs t [] = ⊤
OwnPairs t (Return u ∷ es) = ⊥
OwnPairs t (Begin b ∷ []) = ⊥
OwnPairs t (Begin b ∷ Begin c ∷ es) = ⊥
OwnPairs t (Begin b ∷ Return u ∷ es) = (b.thread ≡ t) × (u ≡ t) × OwnPairs t es

-- pairs, and then a begin
abbrev OpenPairs : ℕ → List TraceEvent → Type 0
OpenPairs t [] = ⊥
OpenPairs t (Return u ∷ es) = ⊥
OpenPairs t (Begin b ∷ []) = b.thread ≡ t
OpenPairs t (Begin b ∷ Begin c ∷ es) = ⊥
OpenPairs t (Begin b ∷ Return u ∷ es) = (b.thread ≡ t) × (u ≡ t) × OpenPairs t es

-- pairs, and then a begin where a call is open
abbrev PairsSo : ℕ → Bool → List TraceEvent → Type 0
PairsSo t false es = OwnPairs t es
PairsSo t true es = OpenPairs t es

begin_more : (t : ℕ) (es : List TraceEvent) (b : BeginEvent) → b.thread ≡ t → OwnPairs t es → OpenPairs t (es ++ Begin b ∷ [])
begin_more t [] b own pairs = own
begin_more t (Return u ∷ es) b own pairs = absurd pairs
begin_more t (Begin c ∷ []) b own pairs = absurd pairs
begin_more t (Begin c ∷ Begin d ∷ es) b own pairs = absurd pairs
begin_more t (Begin c ∷ Return u ∷ es) b own pairs = (pairs.0, pairs.1, begin_more t es b own pairs.2)

return_more : (t : ℕ) (es : List TraceEvent) (v : ℕ) → v ≡ t → OpenPairs t es → OwnPairs t (es ++ Return v ∷ [])
return_more t [] v own pairs = absurd pairs
return_more t (Return u ∷ es) v own pairs = absurd pairs
return_more t (Begin b ∷ []) v own pairs = (pairs, own, tt)
return_more t (Begin b ∷ Begin c ∷ es) v own pairs = absurd pairs
return_more t (Begin b ∷ Return u ∷ es) v own pairs = (pairs.0, pairs.1, return_more t es v own pairs.2)

-- ---- open calls

no_open : (ts : List ℕ) → first_fault ((not (length ts == 0), fault.OpenAtEnd) ∷ []) ≡ None → ts ≡ []
no_open ts is = nil_from_length ts (eqb-true (length ts) 0 (closed (length ts == 0) is))
  where
    closed : (u : Bool) → first_fault ((not u, fault.OpenAtEnd) ∷ []) ≡ None → u ≡ true
    closed true p = refl
    closed false p = cc p

none_of : (t : ℕ) (ts : List ℕ) → list_any (λ x. x == t) (filter (λ x. not (x == t)) ts) ≡ false
none_of t [] = refl
none_of t (x ∷ ts) = go (x == t) refl (none_of t ts)
  where
    go : (u : Bool) → (x == t) ≡ u → list_any (λ y. y == t) (filter (λ y. not (y == t)) ts) ≡ false → list_any (λ y. y == t) (cond (not u) (x ∷ filter (λ y. not (y == t)) ts) (filter (λ y. not (y == t)) ts)) ≡ false
    go true e rest = rest
    go false e rest = ap (λ (u : Bool). u || list_any (λ y. y == t) (filter (λ y. not (y == t)) ts)) e ∙ rest

closed_at : (t : ℕ) (before : List TraceEvent) → open_threads before ≡ [] → is_open t before ≡ false
closed_at t before none = ap (list_any (λ x. x == t)) none

-- the first test of a list without a fault fails
first_passed : (u : Bool) (f : TraceFault) (rest : List (Bool × TraceFault)) → first_fault ((u, f) ∷ rest) ≡ None → u ≡ false
first_passed false f rest is = refl
first_passed true f rest is = cc is

idle_at : (before : List TraceEvent) (b : BeginEvent) → fault_after before (Begin b) ≡ None → is_open b.thread before ≡ false
idle_at before b is =
    first_passed (is_open b.thread before) fault.Busy (
    (not (list_all (is_known before) (names_used (row_of b.cmd).params b.args)), fault.Unknown) ∷ (not (list_all (is_of_type before) (names_used (row_of b.cmd).params b.args)), fault.WrongType)
    ∷ (not (count_on b.thread (names_given b.thread before + 1) b.results), fault.Sequence) ∷ (breaks_instance before (Begin b), fault.Instance) ∷ []
    ) is

open_at : (before : List TraceEvent) (u : ℕ) → fault_after before (Return u) ≡ None → is_open u before ≡ true
open_at before u is = not-false (is_open u before) (first_passed (not (is_open u before)) fault.Idle ((breaks_instance before (Return u), fault.Instance) ∷ []) is)

-- the thread's event more behind its pairs
event_more : (before : List TraceEvent) (t : ℕ) (latest : List TraceEvent) (e : TraceEvent) → event_thread e ≡ t → fault_after before e ≡ None → PairsSo t (is_open t before) latest → PairsSo t (is_open t (e ∷ before)) (latest ++ e ∷ [])
event_more before t latest (Begin b) own comes pairs =
    let idle : is_open t before ≡ false = sym (ap (λ x. is_open x before) own) ∙ idle_at before b comes in
    let opened : is_open t (Begin b ∷ before) ≡ true = ap (λ (u : Bool). u || is_open t before) (eq-eqb b.thread t own) in
    subst (λ (u : Bool). PairsSo t u (latest ++ Begin b ∷ [])) (sym opened) (begin_more t latest b own (subst (λ (u : Bool). PairsSo t u latest) idle pairs))
event_more before t latest (Return u) own comes pairs =
    let opened : is_open t before ≡ true = sym (ap (λ x. is_open x before) own) ∙ open_at before u comes in
    let closed : is_open t (Return u ∷ before) ≡ false = subst (λ x. is_open t (Return x ∷ before) ≡ false) (sym own) (none_of t (open_threads before)) in
    subst (λ (v : Bool). PairsSo t v (latest ++ Return u ∷ [])) (sym closed) (return_more t latest u own (subst (λ (v : Bool). PairsSo t v latest) opened pairs))

-- ---- the lines so far

-- each stream is of its thread's pairs
abbrev pub ArePaired : List StreamPart → Type 0
ArePaired streams = AllByRecursion (λ (s : StreamPart). OwnPairs s.thread s.events) streams

-- by their section
abbrev Stage : List FileLine → Option Heading → FileParts → List TraceEvent → Type 0
Stage lines None file latest = ArePaired file.streams
Stage lines (Some heading.Setup) file latest = ArePaired file.streams
Stage lines (Some (heading.Stream t)) file latest = ArePaired file.streams × PairsSo t (is_open t (events lines)) latest
Stage lines (Some heading.Teardown) file latest = ArePaired file.streams

-- the section is closed
closes : (lines : List FileLine) (s : Option Heading) (file : FileParts) (latest : List TraceEvent) → open_threads (events lines) ≡ [] → Stage lines s file latest → ArePaired (with_section file s latest).streams
closes lines None file latest closed stage = stage
closes lines (Some heading.Setup) file latest closed stage = stage
closes lines (Some (heading.Stream t)) file latest closed stage =
    let pairs : OwnPairs t latest = subst (λ (u : Bool). PairsSo t u latest) (closed_at t (events lines) closed) stage.1 in
    all_append (λ (s : StreamPart). OwnPairs s.thread s.events) file.streams (record { thread = t; events = latest } ∷ []) stage.0 (pairs, tt)
closes lines (Some heading.Teardown) file latest closed stage = stage

-- a section begins
begins : (lines : List FileLine) (h : Heading) (file : FileParts) → open_threads (events lines) ≡ [] → ArePaired file.streams → Stage (HeadingLine h ∷ lines) (Some h) file []
begins lines heading.Setup file closed paired = paired
begins lines (heading.Stream t) file closed paired = (paired, subst (λ (u : Bool). PairsSo t u []) (sym (closed_at t (events lines) closed)) tt)
begins lines heading.Teardown file closed paired = paired

evented : (lines : List FileLine) (s : Option Heading) (e : TraceEvent) (file : FileParts) (latest : List TraceEvent) → takes_thread s (event_thread e) ≡ true → fault_after (events lines) e ≡ None → Stage lines s file latest
    → Stage (EventLine e ∷ lines) s file (latest ++ e ∷ [])
evented lines None e file latest takes comes stage = stage
evented lines (Some heading.Setup) e file latest takes comes stage = stage
evented lines (Some (heading.Stream t)) e file latest takes comes stage = (stage.0, event_more (events lines) t latest e (sym (eqb-true t (event_thread e) takes)) comes stage.1)
evented lines (Some heading.Teardown) e file latest takes comes stage = stage

staged : (lines : List FileLine) → AreInOrder lines → Stage lines (section lines) (closed_parts lines) (open_events lines)
staged [] order = tt
staged (HeadingLine h ∷ lines) order =
    let closed : open_threads (events lines) ≡ [] = no_open (open_threads (events lines)) (heading_in_order lines h order.1).1 in
    begins lines h (parts lines) closed (closes lines (section lines) (closed_parts lines) (open_events lines) closed (staged lines order.0))
staged (EventLine e ∷ lines) order =
    let passed = not_refused lines e order.1 in
    evented lines (section lines) e (closed_parts lines) (open_events lines) passed.thread passed.fault (staged lines order.0)

-- a whole file
pub streams_paired : (lines : List FileLine) → AreInOrder lines → refusal_at_end lines ≡ None → ArePaired (parts lines).streams
streams_paired lines order whole =
    closes lines (section lines) (closed_parts lines) (open_events lines) (no_open (open_threads (events lines)) (lines_closed lines whole)) (staged lines order)
