-- Each call of the streams of a file is on one of the devices that they name, and these are distinct and few.
use Rattle.std.proofs.Common.{◌≡◌, ◌∙◌, ◌+◌, ◌≤◌, ℕ, Bool, true, false, cond, ◌||◌, Option, Some, None, List, [], ◌∷◌, ◌++◌, length, refl, sym, ap, subst, append-nil}
use Rattle.std.specs.Prelude.{⊤, is_some, option_and_then, position}
use Rattle.std.specs.Cmp.{IsEquivalence, decided}
use Rattle.std.specs.List.{AllByRecursion, IsDistinct, list_any, position_from}
use Rattle.std.specs.Option.{is_none}
use Rattle.std.proofs.lemmas.Bool.{and_parts, eq-eqb}
use Rattle.std.proofs.lemmas.Iterator.Adapters.{position_from-zero}
use Rattle.std.proofs.lemmas.List.Folds.{list_any-append}
use Rattle.std.proofs.lemmas.Map.Keys.{IsDistinct-push}
use Rattle.trace_format.specs.declared.event.Name.{Name}
use Rattle.trace_format.specs.Accepting.{same_name}
use Rattle.trace_format.specs.Content.{TraceEvent, Begin, Return}
use Rattle.trace_format.specs.Grammar.{IsEvent}
use Rattle.chain_model.specs.Gaps.{may_all_come, may_come}
use Rattle.chain_model.proofs.Eventing.{all_append}
use Rattle.stream_model.specs.declared.heading.Heading.{Heading}
use Rattle.stream_model.specs.declared.heading.Heading.TheVariants as heading
use Rattle.stream_model.specs.declared.limits.TheConstants.{MOST_DEVICES}
use Rattle.stream_model.specs.FileLines.{FileLine, HeadingLine, EventLine}
use Rattle.stream_model.specs.FileParts.{AreInOrder, FileParts, StreamPart, closed_parts, open_events, parts, with_section}
use Rattle.stream_model.specs.Order.{device_named, events, heading_thread, section, stream, stream_refusal, with_device}
use Rattle.stream_model.specs.Plans.{device_written}
use Rattle.stream_model.proofs.Comings.{ends_all, name_is}
use Rattle.stream_model.proofs.Orders.{not_refused}
use Rattle.stream_model.proofs.WholeTraces.{in_streams}
use Rattle.stream_model.proofs.Within.{devices_within}
use Rattle.merge_model.specs.Planned.{AreOnThese, IsOnOne, number_among}
use Rattle.merge_model.proofs.Parting.{starts_all}
use Rattle.stream_plans.specs.Cuts.{devices_cut, devices_with, event_device}
use Rattle.stream_plans.proofs.CutLemmas.{ext}
use Rattle.stream_plans.proofs.NamedLemmas.{Agrees, agrees_before, devices_first, last_more, last_stream, named_same, on_a_device, settled}

-- ---- names

pub name_self : (n : Name) → same_name n n ≡ true
name_self n = rw (eq-eqb n.thread n.thread refl, eq-eqb n.number n.number refl) refl

pub names_equiv : IsEquivalence same_name
names_equiv = decided same_name (λ a b. (name_is a b, λ e. ap (same_name a) (sym e) ∙ name_self a))

-- ---- the number of a device

found : {X : Type 0} (p : X → Bool) (i : ℕ) (xs : List X) → is_some (position_from p i xs) ≡ list_any p xs
found p i [] = refl
found p i (x ∷ xs) = go (p x) (found p (i + 1) xs)
  where
    go : (u : Bool) → is_some (position_from p (i + 1) xs) ≡ list_any p xs → is_some (cond u (Some i) (position_from p (i + 1) xs)) ≡ (u || list_any p xs)
    go true rest = refl
    go false rest = rest

pub is_numbered : (devices : List Name) (d : Name) → is_some (position (λ (x : Name). same_name x d) devices) ≡ list_any (same_name d) devices
is_numbered devices d =
    ap is_some (position_from-zero (λ (x : Name). same_name x d) devices)
    ∙ (found (λ (x : Name). same_name x d) 0 devices ∙ ap (λ test. list_any test devices) (ext (λ (x : Name). same_name x d) (same_name d) (λ x. names_equiv.symm x d)))

numbered : (devices : List Name) (o : Option Name) → is_none o ≡ false → ((d : Name) → o ≡ Some d → list_any (same_name d) devices ≡ true) → is_some (number_among devices o) ≡ true
numbered devices None is there = cc is
numbered devices (Some d) is there = is_numbered devices d ∙ there d refl

-- ---- devices with those of events

-- a device stays
stays_one : (o : Option Name) (devices : List Name) (d : Name) → list_any (same_name d) devices ≡ true → list_any (same_name d) (with_device o devices) ≡ true
stays_one None devices d is = is
stays_one (Some x) devices d is = go (list_any (same_name x) devices)
  where
    go : (u : Bool) → list_any (same_name d) (cond u devices (devices ++ x ∷ [])) ≡ true
    go true = is
    go false = list_any-append (same_name d) devices (x ∷ []) ∙ ap (λ u. u || list_any (same_name d) (x ∷ [])) is

stays_all : (f : Name → Option Name) (es : List TraceEvent) (devices : List Name) (d : Name) → list_any (same_name d) devices ≡ true → list_any (same_name d) (devices_with f devices es) ≡ true
stays_all f [] devices d is = is
stays_all f (e ∷ es) devices d is = stays_all f es (with_device (event_device f e) devices) d (stays_one (event_device f e) devices d is)

-- a device that is added is there
added : (devices : List Name) (d : Name) → list_any (same_name d) (with_device (Some d) devices) ≡ true
added devices d = go (list_any (same_name d) devices) refl
  where
    go : (u : Bool) → list_any (same_name d) devices ≡ u → list_any (same_name d) (cond u devices (devices ++ d ∷ [])) ≡ true
    go true is = is
    go false is = list_any-append (same_name d) devices (d ∷ []) ∙ (ap (λ u. u || (same_name d d || false)) is ∙ ap (λ u. u || false) (name_self d))

-- devices stay distinct
apart_one : (o : Option Name) (devices : List Name) → IsDistinct same_name devices → IsDistinct same_name (with_device o devices)
apart_one None devices apart = apart
apart_one (Some d) devices apart = go (list_any (same_name d) devices) refl
  where
    go : (u : Bool) → list_any (same_name d) devices ≡ u → IsDistinct same_name (cond u devices (devices ++ d ∷ []))
    go true is = apart
    go false is = IsDistinct-push names_equiv devices d apart is

apart_all : (f : Name → Option Name) (es : List TraceEvent) (devices : List Name) → IsDistinct same_name devices → IsDistinct same_name (devices_with f devices es)
apart_all f [] devices apart = apart
apart_all f (e ∷ es) devices apart = apart_all f es (with_device (event_device f e) devices) (apart_one (event_device f e) devices apart)

pub none_apart : IsDistinct same_name []
unfolding IsDistinct
none_apart = tt

pub names_apart : (file : FileParts) → IsDistinct same_name (devices_cut file)
names_apart file = apart_all (device_written file) (in_streams file.streams) [] none_apart

-- ---- the calls of streams

-- an event begins a call on a device, or none
abbrev HasDevice : (Name → Option Name) → TraceEvent → Type 0
HasDevice f (Begin b) = is_none (device_named f b.cmd b.args) ≡ false
HasDevice f (Return thread) = ⊤

-- then it is on one of those that it is among
on_each : (f : Name → Option Name) (es : List TraceEvent) (devices : List Name) → AllByRecursion (HasDevice f) es → AllByRecursion (IsOnOne f (devices_with f devices es)) es
on_each f [] devices on = tt
on_each f (Return thread ∷ es) devices on = (tt, on_each f es devices on.1)
on_each f (Begin b ∷ es) devices on = (numbered (devices_with f with_own es) own on.0 (λ d is. stays_all f es with_own d (now d is)), on_each f es with_own on.1)
  where
    own : Option Name
    own = device_named f b.cmd b.args

    with_own : List Name
    with_own = with_device own devices

    now : (d : Name) → own ≡ Some d → list_any (same_name d) with_own ≡ true
    now d is = ap (λ o. list_any (same_name d) (with_device o devices)) is ∙ added devices d

-- a call that isn't refused has its device
event_on : (f : Name → Option Name) (lines : List FileLine) (t : ℕ) (e : TraceEvent) → stream lines ≡ Some t → stream_refusal lines e ≡ None → Agrees f (events lines) → HasDevice f e
event_on f lines t (Return u) here fine agrees = tt
event_on f lines t (Begin b) here fine agrees = ap is_none (named_same f lines t b here fine agrees) ∙ on_a_device lines t b here fine

headed : (f : Name → Option Name) (h : Heading) (file : FileParts) → AllByRecursion (HasDevice f) (in_streams file.streams) → AllByRecursion (HasDevice f) (in_streams (with_section file (Some h) []).streams)
headed f heading.Setup file on = on
headed f heading.Teardown file on = on
headed f (heading.Stream t) file on = subst (AllByRecursion (HasDevice f)) (sym (last_stream file.streams t [] ∙ append-nil (in_streams file.streams))) on

evented : (f : Name → Option Name) (lines : List FileLine) (e : TraceEvent) (s : Option Heading) (file : FileParts) (latest : List TraceEvent) → section lines ≡ s → stream_refusal lines e ≡ None → Agrees f (events lines)
    → AllByRecursion (HasDevice f) (in_streams (with_section file s latest).streams) → AllByRecursion (HasDevice f) (in_streams (with_section file s (latest ++ e ∷ [])).streams)
evented f lines e None file latest is fine agrees on = on
evented f lines e (Some heading.Setup) file latest is fine agrees on = on
evented f lines e (Some heading.Teardown) file latest is fine agrees on = on
evented f lines e (Some (heading.Stream t)) file latest is fine agrees on =
    subst (AllByRecursion (HasDevice f)) (sym (last_more file.streams t latest e))
    (all_append (HasDevice f) (in_streams (file.streams ++ record { thread = t; events = latest } ∷ [])) (e ∷ []) on (event_on f lines t e (ap (option_and_then heading_thread) is) fine agrees, tt))

on_lines : (f : Name → Option Name) (lines : List FileLine) → AreInOrder lines → may_all_come (events lines) ≡ true → Agrees f (events lines) → AllByRecursion (HasDevice f) (in_streams (parts lines).streams)
on_lines f [] order each agrees = tt
on_lines f (HeadingLine h ∷ lines) order each agrees = headed f h (parts lines) (on_lines f lines order.0 each agrees)
on_lines f (EventLine e ∷ lines) order each agrees =
    let come = and_parts (may_all_come (events lines)) (may_come (events lines) e) each in
    let before : Agrees f (events lines) = agrees_before f (events lines) e come.1 agrees in
    evented f lines e (section lines) (closed_parts lines) (open_events lines) refl (not_refused lines e order.1).stream before (on_lines f lines order.0 come.0 before)

-- what holds of all events of streams does in each
each_stream : (P : TraceEvent → Type 0) (streams : List StreamPart) → AllByRecursion P (in_streams streams) → AllByRecursion (λ (s : StreamPart). AllByRecursion P s.events) streams
each_stream P [] all = tt
each_stream P (s ∷ streams) all = (starts_all P s.events (in_streams streams) all, each_stream P streams (ends_all P s.events (in_streams streams) all))

pub all_on_these : (lines : List FileLine) → AreInOrder lines → AllByRecursion IsEvent (events lines) → AreOnThese (parts lines) (devices_cut (parts lines))
all_on_these lines order grammar =
    let f = device_written (parts lines) in
    let all = settled lines order grammar in
    each_stream (IsOnOne f (devices_cut (parts lines))) (parts lines).streams (on_each f (in_streams (parts lines).streams) [] (on_lines f lines order all.come all.agrees))

pub few_devices : (lines : List FileLine) → AreInOrder lines → AllByRecursion IsEvent (events lines) → length (devices_cut (parts lines)) ≤ MOST_DEVICES
few_devices lines order grammar = subst (λ devices. length devices ≤ MOST_DEVICES) (sym (devices_first lines order grammar)) (devices_within lines order)
