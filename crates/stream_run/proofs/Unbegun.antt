-- Where no call has begun, the setup of a file has none, and then its streams name no device.
use Rattle.std.proofs.Common.{◌≡◌, ◌∙◌, ◌+◌, ℕ, Bool, true, false, cond, Option, Some, None, List, [], ◌∷◌, ◌++◌, refl, sym, ap, subst, arith}
use Rattle.std.specs.Prelude.{⊤, option_and_then, reverse}
use Rattle.std.specs.List.{AllByRecursion}
use Rattle.std.specs.Option.{is_none}
use Rattle.std.proofs.lemmas.Bool.{and_parts}
use Rattle.std.proofs.lemmas.List.{reverse-append}
use Rattle.command_tables.specs.Calls.{ReplyContent}
use Rattle.command_tables.specs.declared.types.CommandId.{CommandId}
use Rattle.command_tables.specs.Table.{row_of}
use Rattle.trace_format.specs.declared.event.Name.{Name}
use Rattle.trace_format.specs.Accepting.{calls_begun}
use Rattle.trace_format.specs.Content.{Arg, BeginEvent, TraceEvent, Begin, Return}
use Rattle.replay_model.specs.Setup.{Setup}
use Rattle.replay_model.proofs.Accepted.{calls-judged}
use Rattle.session_model.specs.Session.{SessionKept}
use Rattle.chain_session.specs.Standing.{StandsFor}
use Rattle.stream_model.specs.declared.heading.Heading.{Heading}
use Rattle.stream_model.specs.declared.heading.Heading.TheVariants as heading
use Rattle.stream_model.specs.Devices.{name_at, written_device}
use Rattle.stream_model.specs.FileLines.{FileLine, HeadingLine, EventLine}
use Rattle.stream_model.specs.FileParts.{AreInOrder, closed_parts, open_events, parts, with_section}
use Rattle.stream_model.specs.Order.{device_in_stream, device_named, devices_named, event_thread, events, follows, heading_thread, is_on_no_device, section, stream, stream_refusal, takes_thread, with_device}
use Rattle.stream_model.proofs.Orders.{heading_in_order, not_refused}
use Rattle.stream_plans.proofs.NamedLemmas.{on_a_device}

-- ---- events that begin no call

abbrev pub IsReturn : TraceEvent → Type 0
IsReturn (Begin b) = ⊥
IsReturn (Return thread) = ⊤

abbrev pub AllReturn : List TraceEvent → Type 0
AllReturn es = AllByRecursion IsReturn es

none_begun : (es : List TraceEvent) → calls_begun es ≡ 0 → AllReturn es
none_begun [] none = tt
none_begun (Begin b ∷ es) none = absurd (omega (arith, none))
none_begun (Return thread ∷ es) none = (tt, none_begun es none)

-- a session that has not begun stands for such events
pub nothing_begun : (s : Setup) (es : List TraceEvent) (replies : List ReplyContent) → StandsFor s None es replies → AllReturn es
nothing_begun s es replies stands =
    let calls : stands.kept.calls ≡ calls_begun es = stands.stands.calls ∙ calls-judged s es in
    let none : stands.kept.calls ≡ 0 = ap (λ (k : SessionKept). k.calls) stands.shows in
    none_begun es (sym calls ∙ none)

-- they tell no device
tells_none : (es : List TraceEvent) (n : Name) → AllReturn es → written_device es n ≡ None
tells_none [] n all = refl
tells_none (Begin b ∷ es) n all = absurd all.0
tells_none (Return thread ∷ es) n all = tells_none es n all.1

none_of_none : (f : Name → Option Name) → ((n : Name) → f n ≡ None) → (o : Option Name) → option_and_then f o ≡ None
none_of_none f none None = refl
none_of_none f none (Some n) = none n

names_none : (f : Name → Option Name) → ((n : Name) → f n ≡ None) → (c : CommandId) (args : List Arg) → device_named f c args ≡ None
names_none f none c args = go (is_on_no_device (row_of c).params)
  where
    go : (u : Bool) → cond u None (option_and_then f (name_at args 0)) ≡ None
    go true = refl
    go false = none_of_none f none (name_at args 0)

-- ---- line by line

-- the file goes on to its teardown
abbrev goes_on : Option Heading → Bool
goes_on None = true
goes_on (Some heading.Setup) = true
goes_on (Some (heading.Stream thread)) = true
goes_on (Some heading.Teardown) = false

-- no call has begun before teardown, and the streams have named no device
record Unnamed (lines : List FileLine) : Type 0 where
  returns : goes_on (section lines) ≡ true → AllReturn (events lines)
  none : devices_named lines ≡ []

-- nothing stands before setup
unnamed_first : (lines : List FileLine) → AreInOrder lines → section lines ≡ None → Unnamed lines
unnamed_first [] order none = record { returns = λ on. tt; none = refl }
unnamed_first (HeadingLine h ∷ lines) order none = cc none
unnamed_first (EventLine e ∷ lines) order none =
    let takes : takes_thread (section lines) (event_thread e) ≡ true = (not_refused lines e order.1).thread in
    let takes_none : takes_thread None (event_thread e) ≡ true = ap (λ (s : Option Heading). takes_thread s (event_thread e)) (sym none) ∙ takes in
    cc takes_none

setup_before : (s : Option Heading) → follows s heading.Setup ≡ true → s ≡ None
setup_before None order = refl
setup_before (Some heading.Setup) order = cc order
setup_before (Some (heading.Stream t)) order = cc order
setup_before (Some heading.Teardown) order = cc order

on_before : (s : Option Heading) (h : Heading) → follows s h ≡ true → goes_on s ≡ true
on_before None h order = refl
on_before (Some heading.Setup) h order = refl
on_before (Some (heading.Stream t)) h order = refl
on_before (Some heading.Teardown) h order = cc order

headed : (lines : List FileLine) (h : Heading) → AreInOrder lines → follows (section lines) h ≡ true → AllReturn (reverse (with_section (parts lines) (Some h) []).setup) → (AllReturn (reverse (parts lines).setup) → Unnamed lines) → Unnamed (HeadingLine h ∷ lines)
headed lines heading.Setup order after setup rest = let first = unnamed_first lines order (setup_before (section lines) after) in record { returns = λ on. first.returns (on_before (section lines) heading.Setup after); none = first.none }
headed lines (heading.Stream t) order after setup rest = let so_far = rest setup in record { returns = λ on. so_far.returns (on_before (section lines) (heading.Stream t) after); none = so_far.none }
headed lines heading.Teardown order after setup rest = let so_far = rest setup in record { returns = λ on. so_far.returns (on_before (section lines) heading.Teardown after); none = so_far.none }

-- an event more in setup
setup_more : (latest : List TraceEvent) (e : TraceEvent) → AllReturn (reverse (latest ++ e ∷ [])) → IsReturn e × AllReturn (reverse latest)
setup_more latest e all = subst AllReturn (reverse-append latest (e ∷ [])) all

-- a call that a stream may begin names a device, so there is none
no_call : (lines : List FileLine) (t : ℕ) (b : BeginEvent) → stream lines ≡ Some t → stream_refusal lines (Begin b) ≡ None → AllReturn (events lines) → ⊥
no_call lines t b here fine all =
    let some : is_none (device_named (written_device (events lines)) b.cmd b.args) ≡ false = on_a_device lines t b here fine in
    let none : is_none (device_named (written_device (events lines)) b.cmd b.args) ≡ true = ap is_none (names_none (written_device (events lines)) (λ n. tells_none (events lines) n all) b.cmd b.args) in
    cc (sym none ∙ some)

outside : (lines : List FileLine) (e : TraceEvent) → stream lines ≡ None → device_in_stream lines e ≡ None
outside lines (Begin b) none = ap (λ (o : Option ℕ). option_and_then (λ t. device_named (written_device (events lines)) b.cmd b.args) o) none
outside lines (Return thread) none = refl

evented : (lines : List FileLine) (e : TraceEvent) (s : Option Heading) → section lines ≡ s → takes_thread s (event_thread e) ≡ true → stream_refusal lines e ≡ None → AllReturn (reverse (with_section (closed_parts lines) s (open_events lines ++ e ∷ [])).setup)
    → (AllReturn (reverse (with_section (closed_parts lines) s (open_events lines)).setup) → Unnamed lines) → Unnamed (EventLine e ∷ lines)
evented lines e None is takes fine setup rest = cc takes
evented lines e (Some heading.Setup) is takes fine setup rest =
    let more = setup_more (open_events lines) e setup in
    let so_far = rest more.1 in
    record {
      returns = λ on. (more.0, so_far.returns (ap goes_on is));
      none = ap (λ (o : Option Name). with_device o (devices_named lines)) (outside lines e (ap (λ (s : Option Heading). option_and_then heading_thread s) is)) ∙ so_far.none;
    }
evented lines (Return thread) (Some (heading.Stream t)) is takes fine setup rest = let so_far = rest setup in record { returns = λ on. (tt, so_far.returns (ap goes_on is)); none = so_far.none }
evented lines (Begin b) (Some (heading.Stream t)) is takes fine setup rest = let so_far = rest setup in absurd (no_call lines t b (ap (λ (s : Option Heading). option_and_then heading_thread s) is) fine (so_far.returns (ap goes_on is)))
evented lines e (Some heading.Teardown) is takes fine setup rest =
    let so_far = rest setup in
    record {
      returns = λ on. cc (sym on ∙ ap goes_on is);
      none = ap (λ (o : Option Name). with_device o (devices_named lines)) (outside lines e (ap (λ (s : Option Heading). option_and_then heading_thread s) is)) ∙ so_far.none;
    }

unnamed : (lines : List FileLine) → AreInOrder lines → AllReturn (reverse (parts lines).setup) → Unnamed lines
unnamed [] order setup = record { returns = λ on. tt; none = refl }
unnamed (HeadingLine h ∷ lines) order setup =
    headed lines h order.0 (and_parts (follows (section lines) h) _ (heading_in_order lines h order.1).0).0 setup (unnamed lines order.0)
unnamed (EventLine e ∷ lines) order setup =
    let fine = not_refused lines e order.1 in evented lines e (section lines) refl fine.thread fine.stream setup (unnamed lines order.0)

pub no_devices : (lines : List FileLine) → AreInOrder lines → AllReturn (reverse (parts lines).setup) → devices_named lines ≡ []
no_devices lines order setup = (unnamed lines order setup).none
