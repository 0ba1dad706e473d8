-- What is kept beside the state of the trace stands for the lines, one line after another.
use Rattle.std.proofs.Common.{◌≡◌, ◌∙◌, ◌+◌, ℕ, Option, Some, None, List, ◌∷◌, ◌++◌, length, sym, ap, subst, arith}
use Rattle.std.specs.Prelude.{option_and_then}
use Rattle.std.proofs.Math.Path.{fun_ext}
use Rattle.trace_format.specs.declared.event.Name.{Name}
use Rattle.trace_format.specs.Accepting.{names_in}
use Rattle.trace_format.specs.Content.{BeginEvent, TraceEvent, Begin, Return}
use Rattle.stream_model.specs.declared.heading.Heading.{Heading}
use Rattle.stream_model.specs.declared.refusal.Refusal.{Refusal}
use Rattle.command_tables.specs.Table.{row_of}
use Rattle.stream_model.specs.Devices.{makes_devices, owner_written, written_device}
use Rattle.stream_model.specs.FileLines.{FileLine, EventLine, HeadingLine}
use Rattle.stream_model.specs.Order.{call_refusal, device_in_stream, device_named, events, heading_thread, heading_threads, limit_passed, limit_refusal, refusal_or, stream_of_name, stream_refusal, with_device}
use Rattle.threaded_replay.specs.declared.sections.Sections.{Sections}
use Rattle.threaded_replay.specs.Calls.{KeepsCall, call_of}
use Rattle.threaded_replay.specs.Kept.{KeptOf}
use Rattle.threaded_replay.specs.Origins.{OriginsOf, PutResults, device_in, origin_of, stream_in}
use Rattle.threaded_replay.proofs.OriginLemmas.{origins_begun, origins_ended, origins_headed}

-- ---- refusals

-- the first of two refusals, by each
pub refused_first : (a b : Option Refusal) (r : Refusal) → a ≡ Some r → refusal_or a b ≡ Some r
refused_first a b r is = ap (λ x. refusal_or x b) is

pub refused_next : (a b o : Option Refusal) → a ≡ None → b ≡ o → refusal_or a b ≡ o
refused_next a b o none is = ap (λ x. refusal_or x b) none ∙ is

-- why a call may not stand in the stream, by what is kept
pub call_refusal_same : (s : Sections) (lines : List FileLine) (b : BeginEvent) → KeptOf s lines
    → option_and_then (call_refusal (device_in s.origins.rows.items) (stream_in s.origins.rows.items) b.cmd b.args) (option_and_then heading_thread s.section) ≡ stream_refusal lines (Begin b)
call_refusal_same s lines b kept =
    ap (λ f. option_and_then (call_refusal f (stream_in s.origins.rows.items) b.cmd b.args) (option_and_then heading_thread s.section)) (fun_ext kept.origins.devices)
    ∙ (ap (λ g. option_and_then (call_refusal (written_device (events lines)) g b.cmd b.args) (option_and_then heading_thread s.section)) (fun_ext kept.origins.streams)
    ∙ ap (λ x. option_and_then (call_refusal (written_device (events lines)) (stream_of_name lines) b.cmd b.args) (option_and_then heading_thread x)) kept.section)

-- the device that a call names, by what is kept
pub device_named_same : (s : Sections) (lines : List FileLine) (b : BeginEvent) → KeptOf s lines
    → option_and_then (λ (t : ℕ). device_named (device_in s.origins.rows.items) b.cmd b.args) (option_and_then heading_thread s.section) ≡ device_in_stream lines (Begin b)
device_named_same s lines b kept =
    ap (λ f. option_and_then (λ (t : ℕ). device_named f b.cmd b.args) (option_and_then heading_thread s.section)) (fun_ext kept.origins.devices)
    ∙ ap (λ x. option_and_then (λ (t : ℕ). device_named (written_device (events lines)) b.cmd b.args) (option_and_then heading_thread x)) kept.section

-- the limit that an event would pass, by what is kept
pub limit_same : (s : Sections) (lines : List FileLine) (e : TraceEvent) (names seen : ℕ) (device : Option Name) → KeptOf s lines → names ≡ names_in (e ∷ events lines) → seen ≡ length (e ∷ events lines) → device ≡ device_in_stream lines e
    → limit_passed names seen (length (with_device device s.devices.items)) ≡ limit_refusal lines e
limit_same s lines e names seen device kept named counted at =
    ap (λ n. limit_passed n seen (length (with_device device s.devices.items))) named
    ∙ (ap (λ k. limit_passed (names_in (e ∷ events lines)) k (length (with_device device s.devices.items))) counted
    ∙ (ap (λ d. limit_passed (names_in (e ∷ events lines)) (length (e ∷ events lines)) (length (with_device d s.devices.items))) at
    ∙ ap (λ ds. limit_passed (names_in (e ∷ events lines)) (length (e ∷ events lines)) (length (with_device (device_in_stream lines e) ds))) kept.devices))

-- one event more
pub one_more : (e : TraceEvent) (es : List TraceEvent) (n : ℕ) → n ≡ length es → n + 1 ≡ length (e ∷ es)
one_more e es n is = omega (arith, is)

-- ---- one line more

pub kept_headed : (s t : Sections) (lines : List FileLine) (h : Heading) → KeptOf s lines → t.section ≡ Some h → t.threads.items ≡ s.threads.items ++ heading_threads h → t.origins ≡ s.origins → t.devices ≡ s.devices → t.names ≡ s.names → t.events ≡ s.events
    → KeptOf t (HeadingLine h ∷ lines)
kept_headed s t lines h kept at threads origins devices names seen = record {
  section = at;
  threads = threads ∙ ap (λ ts. ts ++ heading_threads h) kept.threads;
  origins = subst (λ o. OriginsOf o.rows.items (HeadingLine h ∷ lines)) (sym origins) (origins_headed s.origins.rows.items lines h kept.origins);
  devices = ap (λ v. v.items) devices ∙ kept.devices;
  names = names ∙ kept.names;
  events = seen ∙ kept.events;
}

pub kept_ended : (s t : Sections) (lines : List FileLine) (thread : ℕ) → KeptOf s lines → t.section ≡ s.section → t.threads ≡ s.threads → t.origins ≡ s.origins → t.devices ≡ s.devices → t.names ≡ s.names → t.events ≡ s.events + 1
    → KeptOf t (EventLine (Return thread) ∷ lines)
kept_ended s t lines thread kept at threads origins devices names seen = record {
  section = at ∙ kept.section;
  threads = ap (λ v. v.items) threads ∙ kept.threads;
  origins = subst (λ o. OriginsOf o.rows.items (EventLine (Return thread) ∷ lines)) (sym origins) (origins_ended s.origins.rows.items lines thread kept.origins);
  devices = ap (λ v. v.items) devices ∙ kept.devices;
  names = names ∙ kept.names;
  events = seen ∙ one_more (Return thread) (events lines) s.events kept.events;
}

pub kept_begun : (s t : Sections) (lines : List FileLine) (b : BeginEvent) (device : Option Name) → KeptOf s lines → KeepsCall s t b device → device ≡ device_in_stream lines (Begin b) → KeptOf t (EventLine (Begin b) ∷ lines)
kept_begun s t lines b device kept keeps at = record {
  section = keeps.section ∙ kept.section;
  threads = ap (λ v. v.items) keeps.threads ∙ kept.threads;
  origins = origins_begun s.origins.rows.items t.origins.rows.items lines b kept.origins
      (subst (λ x. PutResults s.origins.rows.items t.origins.rows.items b.results (origin_of (makes_devices b.cmd) (option_and_then (device_in s.origins.rows.items) (owner_written b.args (row_of b.cmd).effect)) (option_and_then heading_thread x))) kept.section keeps.results);
  devices = keeps.devices ∙ (ap (λ d. with_device d s.devices.items) at ∙ ap (with_device (device_in_stream lines (Begin b))) kept.devices);
  names = keeps.names ∙ ap (λ n. n + length b.results) kept.names;
  events = keeps.events ∙ one_more (Begin b) (events lines) s.events kept.events;
}

-- ---- a begin as it is written

-- what is kept of a call doesn't look at its thread, its code and its payload
pub kept_whole : (t : Sections) (lines : List FileLine) (b : BeginEvent) → KeptOf t (EventLine (Begin (call_of b.cmd b.args b.results)) ∷ lines) → KeptOf t (EventLine (Begin b) ∷ lines)
kept_whole t lines b kept = record {
  section = kept.section;
  threads = kept.threads;
  origins = record { devices = kept.origins.devices; streams = kept.origins.streams };
  devices = kept.devices;
  names = kept.names;
  events = kept.events;
}
