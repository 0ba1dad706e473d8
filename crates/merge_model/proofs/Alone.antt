-- What a thread of a stream file does alone: its stream behind setup is accepted, as it is in the file.
use Rattle.std.proofs.Common.{◌≡◌, ◌∙◌, ◌==◌, ℕ, Bool, true, false, not, cond, ◌&&◌, ◌||◌, Option, Some, None, List, [], ◌∷◌, length, refl, sym, ap, subst}
use Rattle.std.specs.Prelude.{option_and_then}
use Rattle.std.specs.List.{AllByRecursion}
use Rattle.std.specs.Option.{is_none, option_map_or}
use Rattle.std.proofs.lemmas.Bool.{and_parts, eqb-true}
use Rattle.std.proofs.lemmas.List.{nil_from_length}
use Rattle.command_tables.specs.declared.types.ObjectType.{ObjectType}
use Rattle.command_tables.specs.Effects.{type_made}
use Rattle.command_tables.specs.Table.{row_of}
use Rattle.trace_format.specs.declared.event.Name.{Name}
use Rattle.trace_format.specs.declared.fault.TraceFault.TheVariants as fault
use Rattle.trace_format.specs.Accepting.{are_accepted, begins_instance, breaks_in, fault_after, fault_at_end, first_fault, is_no_return_of, is_open, names_given, open_threads, type_given}
use Rattle.trace_format.specs.Content.{TraceEvent, BeginEvent, Begin, Return}
use Rattle.chain_model.proofs.Eventing.{all_map}
use Rattle.stream_model.specs.declared.heading.Heading.{Heading}
use Rattle.stream_model.specs.declared.heading.Heading.TheVariants as heading
use Rattle.stream_model.specs.declared.refusal.Refusal.TheVariants as refusal
use Rattle.stream_model.specs.Devices.{has_result, written_device}
use Rattle.stream_model.specs.FileLines.{FileLine, HeadingLine, EventLine}
use Rattle.stream_model.specs.FileParts.{AreInOrder}
use Rattle.stream_model.specs.Order.{any_name, call_refusal, device_named, event_thread, events, first_refusal, follows, heading_thread, is_in_order, is_kept_out, is_of_another_device, is_of_another_stream, section, stream, stream_of_name, stream_threads, takes_thread}
use Rattle.stream_model.specs.Plans.{kept_if}
use Rattle.stream_model.proofs.Comings.{closed_whole, open_both, open_other, unbroken}
use Rattle.stream_model.proofs.OnDevices.{no_instance, on_a_device}
use Rattle.stream_model.proofs.Orders.{NotRefused, heading_in_order, not_refused}
use Rattle.merge_model.proofs.Moved.{accept, counted_both, counted_other, moved, used, used_fail}

-- ---- sections

-- the section's events are the thread's alone, or those before any stream
abbrev pub belongs : ℕ → Option Heading → Bool
belongs u None = true
belongs u (Some heading.Setup) = true
belongs u (Some (heading.Stream t)) = t == u
belongs u (Some heading.Teardown) = false

-- no stream has come
abbrev pub is_first : Option Heading → Bool
is_first None = true
is_first (Some heading.Setup) = true
is_first (Some (heading.Stream t)) = false
is_first (Some heading.Teardown) = false

abbrev pub is_stream : Option Heading → Bool
is_stream None = false
is_stream (Some heading.Setup) = false
is_stream (Some (heading.Stream t)) = true
is_stream (Some heading.Teardown) = false

-- teardown hasn't come
abbrev pub goes_on : Option Heading → Bool
goes_on None = true
goes_on (Some heading.Setup) = true
goes_on (Some (heading.Stream t)) = true
goes_on (Some heading.Teardown) = false

first_before : (s : Option Heading) (h : Heading) → follows s h ≡ true → is_first (Some h) ≡ true → is_first s ≡ true
first_before None h order is = refl
first_before (Some heading.Setup) h order is = refl
first_before (Some (heading.Stream t)) heading.Setup order is = cc order
first_before (Some (heading.Stream t)) (heading.Stream u) order is = cc is
first_before (Some (heading.Stream t)) heading.Teardown order is = cc is
first_before (Some heading.Teardown) h order is = cc order

on_before : (s : Option Heading) (h : Heading) → follows s h ≡ true → goes_on s ≡ true
on_before None h order = refl
on_before (Some heading.Setup) h order = refl
on_before (Some (heading.Stream t)) h order = refl
on_before (Some heading.Teardown) h order = cc order

belongs_first : (u : ℕ) (s : Option Heading) → is_first s ≡ true → belongs u s ≡ true
belongs_first u None is = refl
belongs_first u (Some heading.Setup) is = refl
belongs_first u (Some (heading.Stream t)) is = cc is
belongs_first u (Some heading.Teardown) is = cc is

-- what a section takes that isn't a thread's is of another thread
not_own : (u : ℕ) (s : Option Heading) (e : TraceEvent) → goes_on s ≡ true → takes_thread s (event_thread e) ≡ true → belongs u s ≡ false → (event_thread e == u) ≡ false
not_own u None e on takes other = cc other
not_own u (Some heading.Setup) e on takes other = cc other
not_own u (Some (heading.Stream t)) e on takes other = ap (λ v. v == u) (sym (eqb-true t (event_thread e) takes)) ∙ other
not_own u (Some heading.Teardown) e on takes other = cc on

pub heading_follows : (lines : List FileLine) (h : Heading) → is_in_order (section lines) (stream_threads lines) h ≡ true → follows (section lines) h ≡ true
heading_follows lines h is = (and_parts (follows (section lines) h) _ is).0

-- ---- a thread's own events

-- the events of setup and of a thread's stream, the newest first
abbrev pub alone : ℕ → List FileLine → List TraceEvent
alone u [] = []
alone u (HeadingLine h ∷ lines) = alone u lines
alone u (EventLine e ∷ lines) = kept_if (belongs u (section lines)) e (alone u lines)

-- before any stream these are all
alone_first : (u : ℕ) (lines : List FileLine) → AreInOrder lines → is_first (section lines) ≡ true → alone u lines ≡ events lines
alone_first u [] order first = refl
alone_first u (HeadingLine h ∷ lines) order first = alone_first u lines order.0 (first_before (section lines) h (heading_follows lines h (heading_in_order lines h order.1).0) first)
alone_first u (EventLine e ∷ lines) order first = ap (λ v. kept_if v e (alone u lines)) (belongs_first u (section lines) first) ∙ ap (λ es. e ∷ es) (alone_first u lines order.0 first)

-- its call is open where it is in the file
alone_opens : (u : ℕ) (lines : List FileLine) → AreInOrder lines → goes_on (section lines) ≡ true → is_open u (events lines) ≡ is_open u (alone u lines)
alone_opens u [] order on = refl
alone_opens u (HeadingLine h ∷ lines) order on = alone_opens u lines order.0 (on_before (section lines) h (heading_follows lines h (heading_in_order lines h order.1).0))
alone_opens u (EventLine e ∷ lines) order on = go (belongs u (section lines)) refl (alone_opens u lines order.0 on)
  where
    go : (v : Bool) → belongs u (section lines) ≡ v → is_open u (events lines) ≡ is_open u (alone u lines) → is_open u (e ∷ events lines) ≡ is_open u (kept_if v e (alone u lines))
    go true own same = open_both (events lines) (alone u lines) e u same
    go false other same = open_other (events lines) e u (not_own u (section lines) e on (not_refused lines e order.1).thread other) ∙ same

-- it was given as many names as in the file
alone_counted : (u : ℕ) (lines : List FileLine) → AreInOrder lines → goes_on (section lines) ≡ true → names_given u (events lines) ≡ names_given u (alone u lines)
alone_counted u [] order on = refl
alone_counted u (HeadingLine h ∷ lines) order on = alone_counted u lines order.0 (on_before (section lines) h (heading_follows lines h (heading_in_order lines h order.1).0))
alone_counted u (EventLine e ∷ lines) order on = go (belongs u (section lines)) refl (alone_counted u lines order.0 on)
  where
    go : (v : Bool) → belongs u (section lines) ≡ v → names_given u (events lines) ≡ names_given u (alone u lines) → names_given u (e ∷ events lines) ≡ names_given u (kept_if v e (alone u lines))
    go true own same = counted_both (events lines) (alone u lines) e u same
    go false other same = counted_other (events lines) e u (not_own u (section lines) e on (not_refused lines e order.1).thread other) ∙ same

-- a name that no other stream gave has its type here
another_stream : (u : ℕ) (s : Option Heading) → goes_on s ≡ true → belongs u s ≡ false → option_map_or (λ t. not (t == u)) (option_and_then heading_thread s) false ≡ true
another_stream u None on other = cc other
another_stream u (Some heading.Setup) on other = cc other
another_stream u (Some (heading.Stream t)) on other = ap not other
another_stream u (Some heading.Teardown) on other = cc on

alone_typed : (u : ℕ) (n : Name) (ty : ObjectType) (lines : List FileLine) → AreInOrder lines → goes_on (section lines) ≡ true → is_of_another_stream (stream_of_name lines) u n ≡ false
    → type_given n (events lines) ≡ Some ty → type_given n (alone u lines) ≡ Some ty
alone_typed u n ty [] order on own is = is
alone_typed u n ty (HeadingLine h ∷ lines) order on own is = alone_typed u n ty lines order.0 (on_before (section lines) h (heading_follows lines h (heading_in_order lines h order.1).0)) own is
alone_typed u n ty (EventLine (Return t) ∷ lines) order on own is = go (belongs u (section lines)) (alone_typed u n ty lines order.0 on own is)
  where
    go : (v : Bool) → type_given n (alone u lines) ≡ Some ty → type_given n (kept_if v (Return t) (alone u lines)) ≡ Some ty
    go true p = p
    go false p = p
alone_typed u n ty (EventLine (Begin b) ∷ lines) order on own is = go (belongs u (section lines)) (has_result b n) refl refl own is (alone_typed u n ty lines order.0 on)
  where
    go : (v w : Bool) → belongs u (section lines) ≡ v → has_result b n ≡ w → option_map_or (λ t. not (t == u)) (cond w (stream lines) (stream_of_name lines n)) false ≡ false
        → cond w (type_made (row_of b.cmd).effect) (type_given n (events lines)) ≡ Some ty → (is_of_another_stream (stream_of_name lines) u n ≡ false → type_given n (events lines) ≡ Some ty → type_given n (alone u lines) ≡ Some ty)
        → type_given n (kept_if v (Begin b) (alone u lines)) ≡ Some ty
    go true true at made mine p rest = ap (λ x. cond x (type_made (row_of b.cmd).effect) (type_given n (alone u lines))) made ∙ p
    go true false at made mine p rest = ap (λ x. cond x (type_made (row_of b.cmd).effect) (type_given n (alone u lines))) made ∙ rest mine p
    go false true at made mine p rest = let bad : option_map_or (λ t. not (t == u)) (stream lines) false ≡ true = another_stream u (section lines) on at in cc
    go false false at made mine p rest = rest mine p

-- ---- an event of a stream

no_refusal : (a k s d : Bool) → first_refusal ((a, refusal.NoDevice) ∷ (k || s, refusal.NotInStream) ∷ (d, refusal.CrossDevice) ∷ []) ≡ None → (a ≡ false) × (s ≡ false)
no_refusal false false false false is = (refl, refl)
no_refusal true k s d is = cc is
no_refusal false true s d is = cc is
no_refusal false false true d is = cc is
no_refusal false false false true is = cc is

-- its call is on a device, and takes no name of another stream
begin_in : (lines : List FileLine) (t : ℕ) (b : BeginEvent) → stream lines ≡ Some t → NotRefused lines (Begin b)
    → (is_none (device_named (written_device (events lines)) b.cmd b.args) ≡ false) × (any_name (is_of_another_stream (stream_of_name lines) t) b.args ≡ false)
begin_in lines t b here r =
    let called : call_refusal (written_device (events lines)) (stream_of_name lines) b.cmd b.args t ≡ None =
    sym (ap (option_and_then (call_refusal (written_device (events lines)) (stream_of_name lines) b.cmd b.args)) here) ∙ r.stream in
    no_refusal (is_none (device_named (written_device (events lines)) b.cmd b.args)) (is_kept_out b.cmd) (any_name (is_of_another_stream (stream_of_name lines) t) b.args)
    (any_name (is_of_another_device (written_device (events lines)) (device_named (written_device (events lines)) b.cmd b.args)) b.args) called

-- so it begins no instance
begins_none : (lines : List FileLine) (t : ℕ) (e : TraceEvent) → stream lines ≡ Some t → NotRefused lines e → begins_instance e ≡ false
begins_none lines t (Begin b) here r = no_instance b (on_a_device (written_device (events lines)) b.cmd b.args (begin_in lines t b here r).0)
begins_none lines t (Return u) here r = refl

pub event_begins_none : (lines : List FileLine) (e : TraceEvent) → is_stream (section lines) ≡ true → NotRefused lines e → begins_instance e ≡ false
event_begins_none lines e is r = go (section lines) refl is
  where
    go : (s : Option Heading) → section lines ≡ s → is_stream s ≡ true → begins_instance e ≡ false
    go None at p = cc p
    go (Some heading.Setup) at p = cc p
    go (Some (heading.Stream t)) at p = begins_none lines t e (ap (option_and_then heading_thread) at) r
    go (Some heading.Teardown) at p = cc p

-- ---- creations of an instance

no_open : (ts : List ℕ) → first_fault ((not (length ts == 0), fault.OpenAtEnd) ∷ []) ≡ None → ts ≡ []
no_open ts is = nil_from_length ts (eqb-true (length ts) 0 (closed (length ts == 0) is))
  where
    closed : (u : Bool) → first_fault ((not u, fault.OpenAtEnd) ∷ []) ≡ None → u ≡ true
    closed true p = refl
    closed false p = cc p

pub none_open : (before : List TraceEvent) → fault_at_end before ≡ None → open_threads before ≡ []
none_open before is = no_open (open_threads before) is

-- in a stream none is open
alone_calm : (u : ℕ) (lines : List FileLine) → AreInOrder lines → is_stream (section lines) ≡ true → (f : TraceEvent) → breaks_in (alone u lines) f ≡ false
alone_calm u [] order is f = cc
alone_calm u (HeadingLine h ∷ lines) order is f =
    let first = heading_in_order lines h order.1 in go (section lines) h refl (heading_follows lines h first.0) first.1 is (λ s. alone_calm u lines order.0 s f)
  where
    go : (s : Option Heading) (h : Heading) → section lines ≡ s → follows s h ≡ true → fault_at_end (events lines) ≡ None → is_stream (Some h) ≡ true → (is_stream (section lines) ≡ true → breaks_in (alone u lines) f ≡ false)
        → breaks_in (alone u lines) f ≡ false
    go None heading.Setup at next closed p rest = cc p
    go None (heading.Stream t) at next closed p rest = cc next
    go None heading.Teardown at next closed p rest = cc p
    go (Some heading.Setup) h at next closed p rest = ap (λ es. breaks_in es f) (alone_first u lines order.0 (ap is_first at)) ∙ closed_whole (events lines) f (none_open (events lines) closed)
    go (Some (heading.Stream t)) h at next closed p rest = rest (ap is_stream at)
    go (Some heading.Teardown) h at next closed p rest = cc next
alone_calm u (EventLine e ∷ lines) order is f = go (belongs u (section lines)) (alone_calm u lines order.0 is f)
  where
    go : (v : Bool) → breaks_in (alone u lines) f ≡ false → breaks_in (kept_if v e (alone u lines)) f ≡ false
    go true rest = ap (λ x. x && is_no_return_of e f) (event_begins_none lines e is (not_refused lines e order.1))
    go false rest = rest

-- ---- a thread's own events are accepted

-- what a stream's event takes
taken_alone : (lines : List FileLine) (t : ℕ) (e : TraceEvent) → AreInOrder lines → goes_on (section lines) ≡ true → stream lines ≡ Some t → NotRefused lines e
    → AllByRecursion (λ (x : ObjectType × Name). (ty : ObjectType) → type_given x.1 (events lines) ≡ Some ty → type_given x.1 (alone t lines) ≡ Some ty) (used e)
taken_alone lines t (Begin b) order on here r =
    all_map (λ (x : ObjectType × Name). is_of_another_stream (stream_of_name lines) t x.1 ≡ false)
    (λ (x : ObjectType × Name). (ty : ObjectType) → type_given x.1 (events lines) ≡ Some ty → type_given x.1 (alone t lines) ≡ Some ty)
    (λ x own ty is. alone_typed t x.1 ty lines order on own is) (used (Begin b))
    (used_fail (is_of_another_stream (stream_of_name lines) t) (row_of b.cmd).params b.args (begin_in lines t b here r).1)
taken_alone lines t (Return u) order on here r = tt

stream_event : (lines : List FileLine) (t : ℕ) (e : TraceEvent) → AreInOrder lines → section lines ≡ Some (heading.Stream t) → NotRefused lines e → fault_after (alone t lines) e ≡ None
stream_event lines t e order at r =
    let on : goes_on (section lines) ≡ true = ap goes_on at in
    let here : stream lines ≡ Some t = ap (option_and_then heading_thread) at in
    let own : t ≡ event_thread e = eqb-true t (event_thread e) (sym (ap (λ s. takes_thread s (event_thread e)) at) ∙ r.thread) in
    let begins : begins_instance e ≡ false = begins_none lines t e here r in
    moved (events lines) (alone t lines) e (record {
      opens = subst (λ u. is_open u (events lines) ≡ is_open u (alone t lines)) own (alone_opens t lines order on);
      given = subst (λ u. names_given u (events lines) ≡ names_given u (alone t lines)) own (alone_counted t lines order on);
      typed = taken_alone lines t e order on here r;
      whole = λ is. unbroken (alone t lines) e begins (alone_calm t lines order (ap is_stream at) e);
    }) r.fault

pub alone_accepted : (u : ℕ) (lines : List FileLine) → AreInOrder lines → are_accepted (alone u lines) ≡ true
alone_accepted u [] order = refl
alone_accepted u (HeadingLine h ∷ lines) order = alone_accepted u lines order.0
alone_accepted u (EventLine e ∷ lines) order = go (section lines) refl (alone_accepted u lines order.0)
  where
    whole : (s : Option Heading) → section lines ≡ s → is_first s ≡ true → are_accepted (alone u lines) ≡ true → are_accepted (e ∷ alone u lines) ≡ true
    whole s at first earlier =
        accept (alone u lines) e earlier (ap (λ es. fault_after es e) (alone_first u lines order.0 (ap is_first at ∙ first)) ∙ (not_refused lines e order.1).fault)

    by : (t : ℕ) (v : Bool) → (t == u) ≡ v → section lines ≡ Some (heading.Stream t) → are_accepted (alone u lines) ≡ true → are_accepted (kept_if v e (alone u lines)) ≡ true
    by t true same at earlier = accept (alone u lines) e earlier (subst (λ w. fault_after (alone w lines) e ≡ None) (eqb-true t u same) (stream_event lines t e order.0 at (not_refused lines e order.1)))
    by t false other at earlier = earlier

    go : (s : Option Heading) → section lines ≡ s → are_accepted (alone u lines) ≡ true → are_accepted (kept_if (belongs u s) e (alone u lines)) ≡ true
    go None at earlier = whole None at refl earlier
    go (Some heading.Setup) at earlier = whole (Some heading.Setup) at refl earlier
    go (Some (heading.Stream t)) at earlier = by t (t == u) refl at earlier
    go (Some heading.Teardown) at earlier = earlier
