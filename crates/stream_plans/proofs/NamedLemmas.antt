-- The devices that the streams of a file name, line by line: a name's device in the whole file is what it was when a call took it.
use Rattle.std.proofs.Common.{◌≡◌, ◌∙◌, ℕ, Bool, true, false, cond, ◌&&◌, ◌||◌, Option, Some, None, List, [], ◌∷◌, ◌++◌, refl, sym, ap, append_assoc, append-nil}
use Rattle.std.specs.Prelude.{option_and_then, reverse}
use Rattle.std.specs.List.{AllByRecursion}
use Rattle.std.specs.Option.{is_none}
use Rattle.std.proofs.lemmas.Bool.{and_parts}
use Rattle.std.proofs.lemmas.Grind.{flat_map-append}
use Rattle.std.proofs.lemmas.List.{reverse-reverse}
use Rattle.command_tables.specs.declared.types.CommandId.{CommandId}
use Rattle.command_tables.specs.Table.{row_of}
use Rattle.trace_format.specs.declared.event.Name.{Name}
use Rattle.trace_format.specs.Content.{Arg, BeginEvent, TraceEvent, Begin, Return}
use Rattle.trace_format.specs.Grammar.{IsEvent}
use Rattle.chain_model.specs.Gaps.{IsGapped, is_given, may_all_come, may_come}
use Rattle.chain_model.proofs.Gapped.{gapped}
use Rattle.stream_model.specs.declared.heading.Heading.{Heading}
use Rattle.stream_model.specs.declared.heading.Heading.TheVariants as heading
use Rattle.stream_model.specs.declared.refusal.Refusal.TheVariants as refusal
use Rattle.stream_model.specs.Devices.{has_result, makes_devices, name_at, owner_written, written_device}
use Rattle.stream_model.specs.FileLines.{FileLine, HeadingLine, EventLine}
use Rattle.stream_model.specs.FileParts.{AreInOrder, FileParts, StreamPart, all_events, closed_parts, open_events, parts, with_section}
use Rattle.stream_model.specs.Order.{any_name, call_refusal, device_in_stream, device_named, devices_named, events, first_refusal, heading_thread, is_kept_out, is_of_another_device, is_of_another_stream, is_on_no_device, section, stream, stream_of_name, stream_refusal, with_device}
use Rattle.stream_model.specs.Plans.{device_written}
use Rattle.stream_model.proofs.Comings.{given_more}
use Rattle.stream_model.proofs.OnDevices.{written_after}
use Rattle.stream_model.proofs.Orders.{lines_accepted, not_refused}
use Rattle.stream_model.proofs.WholeTraces.{all_in_order, in_streams}
use Rattle.stream_plans.specs.Cuts.{devices_cut, devices_with, event_device}
use Rattle.stream_plans.proofs.CutLemmas.{named_both}

-- ---- one call

-- a name that has a written device was given
written_given : (events : List TraceEvent) (n d : Name) → written_device events n ≡ Some d → is_given events n ≡ true
written_given [] n d is = cc is
written_given (Begin b ∷ before) n d is = go (has_result b n) (written_given before n d) is
  where
    go : (u : Bool) → (written_device before n ≡ Some d → is_given before n ≡ true)
        → cond (u && makes_devices b.cmd) (Some n) (option_and_then (written_device before) (cond u (owner_written b.args (row_of b.cmd).effect) (Some n))) ≡ Some d → (u || is_given before n) ≡ true
    go true rest p = refl
    go false rest p = rest p
written_given (Return thread ∷ before) n d is = written_given before n d is

-- what tells the devices of names tells the device of a call that is on one, where it agrees on its first argument
named_alike : (device_of other : Name → Option Name) (c : CommandId) (args : List Arg) → ((n d : Name) → other n ≡ Some d → device_of n ≡ Some d) → is_none (device_named other c args) ≡ false
    → device_named device_of c args ≡ device_named other c args
named_alike device_of other c args agree is = go (is_on_no_device (row_of c).params) (name_at args 0) is
  where
    at : (n : Name) (d : Option Name) → other n ≡ d → is_none d ≡ false → device_of n ≡ other n
    at n None e p = cc p
    at n (Some d) e p = agree n d e ∙ sym e

    go : (u : Bool) (o : Option Name) → is_none (cond u None (option_and_then other o)) ≡ false → cond u None (option_and_then device_of o) ≡ cond u None (option_and_then other o)
    go true o p = refl
    go false None p = refl
    go false (Some n) p = at n (other n) refl p

on_one : (a b c : Bool) → first_refusal ((a, refusal.NoDevice) ∷ (b, refusal.NotInStream) ∷ (c, refusal.CrossDevice) ∷ []) ≡ None → a ≡ false
on_one true b c is = cc
on_one false b c is = refl

-- what tells the devices of names agrees on those that were given
abbrev pub Agrees : (Name → Option Name) → List TraceEvent → Type 0
Agrees f before = (n : Name) → is_given before n ≡ true → f n ≡ written_device before n

-- a call of a stream is on a device
pub on_a_device : (lines : List FileLine) (t : ℕ) (b : BeginEvent) → stream lines ≡ Some t → stream_refusal lines (Begin b) ≡ None → is_none (device_named (written_device (events lines)) b.cmd b.args) ≡ false
on_a_device lines t b here fine =
    on_one (is_none (device_named (written_device (events lines)) b.cmd b.args)) (is_kept_out b.cmd || any_name (is_of_another_stream (stream_of_name lines) t) b.args)
    (any_name (is_of_another_device (written_device (events lines)) (device_named (written_device (events lines)) b.cmd b.args)) b.args)
    (sym (ap (option_and_then (call_refusal (written_device (events lines)) (stream_of_name lines) b.cmd b.args)) here) ∙ fine)

-- and that device is what the whole file tells
pub named_same : (f : Name → Option Name) (lines : List FileLine) (t : ℕ) (b : BeginEvent) → stream lines ≡ Some t → stream_refusal lines (Begin b) ≡ None → Agrees f (events lines)
    → device_named f b.cmd b.args ≡ device_named (written_device (events lines)) b.cmd b.args
named_same f lines t b here fine agrees =
    named_alike f (written_device (events lines)) b.cmd b.args (λ n d is. agrees n (written_given (events lines) n d is) ∙ is) (on_a_device lines t b here fine)

-- the device that an event of a stream names
event_same : (f : Name → Option Name) (lines : List FileLine) (t : ℕ) (e : TraceEvent) → stream lines ≡ Some t → stream_refusal lines e ≡ None → Agrees f (events lines) → event_device f e ≡ device_in_stream lines e
event_same f lines t (Return u) here fine agrees = refl
event_same f lines t (Begin b) here fine agrees =
    named_same f lines t b here fine agrees ∙ sym (ap (option_and_then (λ (u : ℕ). device_named (written_device (events lines)) b.cmd b.args)) here)

-- beside the streams none is named
no_device : (lines : List FileLine) (e : TraceEvent) → stream lines ≡ None → device_in_stream lines e ≡ None
no_device lines (Return u) is = refl
no_device lines (Begin b) is = ap (option_and_then (λ (u : ℕ). device_named (written_device (events lines)) b.cmd b.args)) is

-- ---- one line more

-- a stream that is the last
pub last_stream : (streams : List StreamPart) (t : ℕ) (latest : List TraceEvent) → in_streams (streams ++ record { thread = t; events = latest } ∷ []) ≡ in_streams streams ++ latest
last_stream streams t latest = flat_map-append (λ s. s.events) streams (record { thread = t; events = latest } ∷ []) ∙ ap (λ xs. in_streams streams ++ xs) (append-nil latest)

-- with one event more
pub last_more : (streams : List StreamPart) (t : ℕ) (latest : List TraceEvent) (e : TraceEvent)
    → in_streams (streams ++ record { thread = t; events = latest ++ e ∷ [] } ∷ []) ≡ in_streams (streams ++ record { thread = t; events = latest } ∷ []) ++ e ∷ []
last_more streams t latest e =
    last_stream streams t (latest ++ e ∷ []) ∙ (sym (append_assoc (in_streams streams) latest (e ∷ [])) ∙ ap (λ xs. xs ++ e ∷ []) (sym (last_stream streams t latest)))

headed : (f : Name → Option Name) (h : Heading) (file : FileParts) → devices_with f [] (in_streams (with_section file (Some h) []).streams) ≡ devices_with f [] (in_streams file.streams)
headed f heading.Setup file = refl
headed f heading.Teardown file = refl
headed f (heading.Stream t) file = ap (devices_with f []) (last_stream file.streams t [] ∙ append-nil (in_streams file.streams))

outside : (f : Name → Option Name) (lines : List FileLine) (e : TraceEvent) (streams : List StreamPart) → stream lines ≡ None → devices_with f [] (in_streams streams) ≡ devices_named lines
    → devices_with f [] (in_streams streams) ≡ with_device (device_in_stream lines e) (devices_named lines)
outside f lines e streams is so_far = so_far ∙ sym (ap (λ d. with_device d (devices_named lines)) (no_device lines e is))

evented : (f : Name → Option Name) (lines : List FileLine) (e : TraceEvent) (s : Option Heading) (file : FileParts) (latest : List TraceEvent) → section lines ≡ s → stream_refusal lines e ≡ None → Agrees f (events lines)
    → devices_with f [] (in_streams (with_section file s latest).streams) ≡ devices_named lines
    → devices_with f [] (in_streams (with_section file s (latest ++ e ∷ [])).streams) ≡ with_device (device_in_stream lines e) (devices_named lines)
evented f lines e None file latest is fine agrees so_far = outside f lines e file.streams (ap (option_and_then heading_thread) is) so_far
evented f lines e (Some heading.Setup) file latest is fine agrees so_far = outside f lines e file.streams (ap (option_and_then heading_thread) is) so_far
evented f lines e (Some heading.Teardown) file latest is fine agrees so_far = outside f lines e file.streams (ap (option_and_then heading_thread) is) so_far
evented f lines e (Some (heading.Stream t)) file latest is fine agrees so_far =
    ap (devices_with f []) (last_more file.streams t latest e)
    ∙ (sym (named_both f [] (in_streams (file.streams ++ record { thread = t; events = latest } ∷ [])) (e ∷ []))
    ∙ (ap (with_device (event_device f e)) so_far ∙ ap (λ d. with_device d (devices_named lines)) (event_same f lines t e (ap (option_and_then heading_thread) is) fine agrees)))

-- ---- all lines

-- what agrees behind a line does before it
pub agrees_before : (f : Name → Option Name) (before : List TraceEvent) (e : TraceEvent) → may_come before e ≡ true → Agrees f (e ∷ before) → Agrees f before
agrees_before f before e come agrees = λ n given. agrees n (given_more before e n given) ∙ written_after before e n come given

-- the device that the whole file tells agrees behind all lines, each of which may come
pub record Settled (lines : List FileLine) : Type 0 where
  pub come : may_all_come (events lines) ≡ true
  pub agrees : Agrees (device_written (parts lines)) (events lines)

pub settled : (lines : List FileLine) → AreInOrder lines → AllByRecursion IsEvent (events lines) → Settled lines
settled lines order grammar =
    let all : IsGapped (events lines) = gapped (events lines) (record { grammar = grammar; accepted = lines_accepted lines order }) in
    let newest : reverse (all_events (parts lines)) ≡ events lines = ap reverse (all_in_order lines order) ∙ reverse-reverse (events lines) in
    record { come = all.each; agrees = λ n given. ap (λ es. written_device es n) newest }

named_lines : (f : Name → Option Name) (lines : List FileLine) → AreInOrder lines → may_all_come (events lines) ≡ true → Agrees f (events lines) → devices_with f [] (in_streams (parts lines).streams) ≡ devices_named lines
named_lines f [] order each agrees = refl
named_lines f (HeadingLine h ∷ lines) order each agrees = headed f h (parts lines) ∙ named_lines f lines order.0 each agrees
named_lines f (EventLine e ∷ lines) order each agrees =
    let come = and_parts (may_all_come (events lines)) (may_come (events lines) e) each in
    let before : Agrees f (events lines) = agrees_before f (events lines) e come.1 agrees in
    evented f lines e (section lines) (closed_parts lines) (open_events lines) refl (not_refused lines e order.1).stream before (named_lines f lines order.0 come.0 before)

pub devices_first : (lines : List FileLine) → AreInOrder lines → AllByRecursion IsEvent (events lines) → devices_cut (parts lines) ≡ devices_named lines
devices_first lines order grammar = let all = settled lines order grammar in named_lines (device_written (parts lines)) lines order all.come all.agrees
