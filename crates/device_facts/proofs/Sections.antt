-- The sections of a stream file, line by line: the setup leaves no call open, and each stream's events are on devices, are its thread's and begin calls only where none is open.
use Rattle.std.proofs.Common.{◌≡◌, ◌∙◌, ◌==◌, ℕ, Bool, true, false, not, ◌&&◌, ◌||◌, Option, Some, None, List, [], ◌∷◌, ◌++◌, length, refl, sym, ap, subst}
use Rattle.std.specs.Prelude.{⊤, option_and_then, reverse}
use Rattle.std.specs.List.{AllByRecursion, list_any}
use Rattle.std.proofs.lemmas.Bool.{and_parts, eq-eqb, eqb-true}
use Rattle.std.proofs.lemmas.Map.Views.{any-filter_same}
use Rattle.std.proofs.lemmas.List.{nil_from_length, reverse-reverse}
use Rattle.trace_format.specs.declared.event.Name.{Name}
use Rattle.trace_format.specs.declared.fault.TraceFault.TheVariants as fault
use Rattle.trace_format.specs.Accepting.{first_fault, is_open, open_threads}
use Rattle.trace_format.specs.Content.{BeginEvent, TraceEvent, Begin, Return}
use Rattle.trace_format.specs.Grammar.{IsEvent}
use Rattle.chain_model.specs.Gaps.{is_given, may_all_come, may_come}
use Rattle.stream_model.specs.declared.heading.Heading.{Heading}
use Rattle.stream_model.specs.declared.heading.Heading.TheVariants as heading
use Rattle.stream_model.specs.Devices.{written_device}
use Rattle.stream_model.specs.FileLines.{FileLine, HeadingLine, EventLine}
use Rattle.stream_model.specs.FileParts.{AreInOrder, FileParts, StreamPart, all_events, closed_parts, no_parts, open_events, with_section}
use Rattle.stream_model.specs.Order.{call_refusal, event_thread, events, heading_thread, is_in_order, section, stream, stream_of_name, stream_threads, takes_thread}
use Rattle.stream_model.proofs.Comings.{coming, given_more}
use Rattle.stream_model.proofs.OnDevices.{written_after}
use Rattle.stream_model.proofs.Orders.{NotRefused, heading_in_order, not_refused}
use Rattle.stream_model.proofs.WholeTraces.{Stands, placed_lines}
use Rattle.device_facts.proofs.Beheld.{StreamFits}
use Rattle.device_facts.proofs.Looks.{all_join}
use Rattle.device_facts.proofs.Opening.{Gives}
use Rattle.device_facts.proofs.Placing.{Lined, begin_gives, begin_on}

-- ---- begins where no call is open

-- a call is open behind a thread's events, where it was before or not
abbrev pub open_behind : Bool → List TraceEvent → Bool
open_behind u [] = u
open_behind u (Begin b ∷ es) = open_behind true es
open_behind u (Return thread ∷ es) = open_behind false es

-- each begins where none is
abbrev pub Alternate : Bool → List TraceEvent → Type 0
Alternate u [] = ⊤
Alternate u (Begin b ∷ es) = (u ≡ false) × Alternate true es
Alternate u (Return thread ∷ es) = Alternate false es

begin_more : (u : Bool) (es : List TraceEvent) (b : BeginEvent) → Alternate u es → open_behind u es ≡ false → Alternate u (es ++ Begin b ∷ [])
begin_more u [] b all none = (none, tt)
begin_more u (Begin c ∷ es) b all none = (all.0, begin_more true es b all.1 none)
begin_more u (Return t ∷ es) b all none = begin_more false es b all none

return_more : (u : Bool) (es : List TraceEvent) (t : ℕ) → Alternate u es → Alternate u (es ++ Return t ∷ [])
return_more u [] t all = tt
return_more u (Begin c ∷ es) t all = (all.0, return_more true es t all.1)
return_more u (Return s ∷ es) t all = return_more false es t all

behind_begin : (u : Bool) (es : List TraceEvent) (b : BeginEvent) → open_behind u (es ++ Begin b ∷ []) ≡ true
behind_begin u [] b = refl
behind_begin u (Begin c ∷ es) b = behind_begin true es b
behind_begin u (Return s ∷ es) b = behind_begin false es b

behind_return : (u : Bool) (es : List TraceEvent) (t : ℕ) → open_behind u (es ++ Return t ∷ []) ≡ false
behind_return u [] t = refl
behind_return u (Begin c ∷ es) t = behind_return true es t
behind_return u (Return s ∷ es) t = behind_return false es t

-- a thread's call behind a return
pub open_returned : (t thread : ℕ) (before : List TraceEvent) → is_open t (Return thread ∷ before) ≡ not (t == thread) && is_open t before
open_returned t thread before = any-filter_same (λ x. x == t) (λ x. not (x == thread)) (not (t == thread)) (λ k same. ap (λ y. not (y == thread)) (eqb-true k t same)) (open_threads before)

-- ---- the sections

-- an event of the setup: a begin gives names where their owners are
abbrev pub SetupFits : (Name → Option Name) → TraceEvent → Type 0
SetupFits device_of (Begin b) = Gives device_of b
SetupFits device_of (Return thread) = ⊤

-- a stream's events
pub record Streamed (device_of : Name → Option Name) (s : StreamPart) : Type 0 where
  pub fits : AllByRecursion (StreamFits device_of) s.events
  pub threads : AllByRecursion (λ e. event_thread e ≡ s.thread) s.events
  pub alternate : Alternate false s.events

-- a file's setup and streams
pub record Sectioned (device_of : Name → Option Name) (file : FileParts) : Type 0 where
  pub setup : AllByRecursion (SetupFits device_of) file.setup
  pub idle : open_threads (reverse file.setup) ≡ []
  pub streams : AllByRecursion (Streamed device_of) file.streams

module _ (device_of : Name → Option Name) where
  pub record InStream (lines : List FileLine) (t : ℕ) (file : FileParts) (latest : List TraceEvent) : Type 0 where
    pub before : Sectioned device_of file
    pub own : Streamed device_of (record { thread = t; events = latest })
    pub opens : open_behind false latest ≡ is_open t (events lines)

  -- the lines so far, by their section
  abbrev pub Stage : List FileLine → Option Heading → FileParts → List TraceEvent → Type 0
  Stage lines None file latest = ⊤
  Stage lines (Some heading.Setup) file latest = AllByRecursion (SetupFits device_of) latest
  Stage lines (Some (heading.Stream t)) file latest = InStream lines t file latest
  Stage lines (Some heading.Teardown) file latest = Sectioned device_of file

  pub closed_stream : (lines : List FileLine) (t : ℕ) (file : FileParts) (latest : List TraceEvent) → InStream lines t file latest → Sectioned device_of (with_section file (Some (heading.Stream t)) latest)
  closed_stream lines t file latest st = record {
    setup = st.before.setup;
    idle = st.before.idle;
    streams = all_join (Streamed device_of) file.streams (record { thread = t; events = latest } ∷ []) st.before.streams (st.own, tt);
  }

  opened_stream : (lines : List FileLine) (t : ℕ) (file : FileParts) → Sectioned device_of file → open_threads (events lines) ≡ [] → InStream (HeadingLine (heading.Stream t) ∷ lines) t file []
  opened_stream lines t file before closed = record {
    before = before;
    own = record { fits = tt; threads = tt; alternate = tt };
    opens = sym (ap (list_any (λ x. x == t)) closed);
  }

  -- all events so far are the setup's
  setup_whole : (all : List TraceEvent) (file : FileParts) (latest : List TraceEvent) → file ≡ no_parts → all_events file ++ latest ≡ reverse all → all ≡ reverse latest
  setup_whole all file latest none is =
      let own : latest ≡ reverse all = sym (ap (λ f. all_events f ++ latest) none) ∙ is in
      sym (ap reverse own ∙ reverse-reverse all)

  closed_setup : (all : List TraceEvent) (file : FileParts) (latest : List TraceEvent) → file ≡ no_parts → all_events file ++ latest ≡ reverse all → open_threads all ≡ [] → AllByRecursion (SetupFits device_of) latest
      → Sectioned device_of (with_section file (Some heading.Setup) latest)
  closed_setup all file latest none is closed fits = record {
    setup = fits;
    idle = ap open_threads (sym (setup_whole all file latest none is)) ∙ closed;
    streams = subst (λ (streams : List StreamPart). AllByRecursion (Streamed device_of) streams) (sym (ap (λ (f : FileParts). f.streams) none)) tt;
  }

  no_open : (ts : List ℕ) → first_fault ((not (length ts == 0), fault.OpenAtEnd) ∷ []) ≡ None → ts ≡ []
  no_open ts is = nil_from_length ts (eqb-true (length ts) 0 (closed (length ts == 0) is))
    where
      closed : (u : Bool) → first_fault ((not u, fault.OpenAtEnd) ∷ []) ≡ None → u ≡ true
      closed true p = refl
      closed false p = cc p

  headed : (lines : List FileLine) (s : Option Heading) (h : Heading) (file : FileParts) (latest : List TraceEvent) → is_in_order s (stream_threads lines) h ≡ true → open_threads (events lines) ≡ []
      → Stands s file latest → all_events file ++ latest ≡ reverse (events lines) → Stage lines s file latest → Stage (HeadingLine h ∷ lines) (Some h) (with_section file s latest) []
  headed lines None heading.Setup file latest order closed stands whole stage = tt
  headed lines None (heading.Stream t) file latest order closed stands whole stage = cc
  headed lines None heading.Teardown file latest order closed stands whole stage = cc
  headed lines (Some heading.Setup) heading.Setup file latest order closed stands whole stage = cc
  headed lines (Some heading.Setup) (heading.Stream t) file latest order closed stands whole stage =
      opened_stream lines t (with_section file (Some heading.Setup) latest) (closed_setup (events lines) file latest stands whole closed stage) closed
  headed lines (Some heading.Setup) heading.Teardown file latest order closed stands whole stage = closed_setup (events lines) file latest stands whole closed stage
  headed lines (Some (heading.Stream u)) heading.Setup file latest order closed stands whole stage = cc
  headed lines (Some (heading.Stream u)) (heading.Stream t) file latest order closed stands whole stage =
      opened_stream lines t (with_section file (Some (heading.Stream u)) latest) (closed_stream lines u file latest stage) closed
  headed lines (Some (heading.Stream u)) heading.Teardown file latest order closed stands whole stage = closed_stream lines u file latest stage
  headed lines (Some heading.Teardown) h file latest order closed stands whole stage = cc

  -- ---- an event

  setup_fits : (before : List TraceEvent) (e : TraceEvent) → may_all_come before ≡ true → may_come before e ≡ true → IsEvent e → ((n : Name) → is_given (e ∷ before) n ≡ true → device_of n ≡ written_device (e ∷ before) n)
      → SetupFits device_of e
  setup_fits before (Begin b) each comes event agrees = begin_gives device_of before b (record { each = each; comes = comes; grammar = event; agrees = agrees })
  setup_fits before (Return t) each comes event agrees = tt

  stream_fits : (lines : List FileLine) (t : ℕ) (e : TraceEvent) → stream lines ≡ Some t → NotRefused lines e → may_all_come (events lines) ≡ true → may_come (events lines) e ≡ true → IsEvent e
      → ((n : Name) → is_given (e ∷ events lines) n ≡ true → device_of n ≡ written_device (e ∷ events lines) n) → StreamFits device_of e
  stream_fits lines t (Begin b) here r each comes event agrees =
      let lined : Lined device_of (events lines) b = record { each = each; comes = comes; grammar = event; agrees = agrees } in
      let called : call_refusal (written_device (events lines)) (stream_of_name lines) b.cmd b.args t ≡ None =
      sym (ap (option_and_then (call_refusal (written_device (events lines)) (stream_of_name lines) b.cmd b.args)) here) ∙ r.stream in
      (begin_gives device_of (events lines) b lined, begin_on device_of (events lines) (stream_of_name lines) t b lined called)
  stream_fits lines t (Return u) here r each comes event agrees = tt

  stream_more : (lines : List FileLine) (t : ℕ) (file : FileParts) (latest : List TraceEvent) (e : TraceEvent) → event_thread e ≡ t → may_come (events lines) e ≡ true → StreamFits device_of e → InStream lines t file latest
      → InStream (EventLine e ∷ lines) t file (latest ++ e ∷ [])
  stream_more lines t file latest (Begin b) thread comes fits st = record {
    before = st.before;
    own = record {
      fits = all_join (StreamFits device_of) latest (Begin b ∷ []) st.own.fits (fits, tt);
      threads = all_join (λ e. event_thread e ≡ t) latest (Begin b ∷ []) st.own.threads (thread, tt);
      alternate = begin_more false latest b st.own.alternate (st.opens ∙ (sym (ap (λ v. is_open v (events lines)) thread) ∙ (coming (events lines) b comes).idle));
    };
    opens = behind_begin false latest b ∙ sym (ap (λ u. u || is_open t (events lines)) (eq-eqb b.thread t thread));
  }
  stream_more lines t file latest (Return u) thread comes fits st = record {
    before = st.before;
    own = record {
      fits = all_join (StreamFits device_of) latest (Return u ∷ []) st.own.fits (tt, tt);
      threads = all_join (λ e. event_thread e ≡ t) latest (Return u ∷ []) st.own.threads (thread, tt);
      alternate = return_more false latest u st.own.alternate;
    };
    opens = behind_return false latest u ∙ sym (closed_now (events lines) u t thread);
  }
    where
      closed_now : (es : List TraceEvent) (v w : ℕ) → v ≡ w → is_open w (Return v ∷ es) ≡ false
      closed_now es v w same = open_returned w v es ∙ ap (λ x. not x && is_open w es) (eq-eqb w v (sym same))

  evented : (lines : List FileLine) (s : Option Heading) (e : TraceEvent) (file : FileParts) (latest : List TraceEvent) → section lines ≡ s → NotRefused lines e → may_all_come (events lines) ≡ true → may_come (events lines) e ≡ true
      → IsEvent e → ((n : Name) → is_given (e ∷ events lines) n ≡ true → device_of n ≡ written_device (e ∷ events lines) n) → Stage lines s file latest → Stage (EventLine e ∷ lines) s file (latest ++ e ∷ [])
  evented lines None e file latest is r each comes event agrees stage = tt
  evented lines (Some heading.Setup) e file latest is r each comes event agrees stage =
      all_join (SetupFits device_of) latest (e ∷ []) stage (setup_fits (events lines) e each comes event agrees, tt)
  evented lines (Some heading.Teardown) e file latest is r each comes event agrees stage = stage
  evented lines (Some (heading.Stream t)) e file latest is r each comes event agrees stage =
      let here : stream lines ≡ Some t = ap (option_and_then heading_thread) is in
      let takes : (t == event_thread e) ≡ true = sym (ap (λ s. takes_thread s (event_thread e)) is) ∙ r.thread in
      stream_more lines t file latest e (sym (eqb-true t (event_thread e) takes)) comes (stream_fits lines t e here r each comes event agrees) stage

  -- ---- all lines

  pub staged : (lines : List FileLine) → AreInOrder lines → may_all_come (events lines) ≡ true → AllByRecursion IsEvent (events lines) → ((n : Name) → is_given (events lines) n ≡ true → device_of n ≡ written_device (events lines) n)
      → Stage lines (section lines) (closed_parts lines) (open_events lines)
  staged [] order each grammar agrees = tt
  staged (HeadingLine h ∷ lines) order each grammar agrees =
      let first = heading_in_order lines h order.1 in
      let placed = placed_lines lines order.0 in
      headed lines (section lines) h (closed_parts lines) (open_events lines) first.0 (no_open (open_threads (events lines)) first.1) placed.stands placed.events (staged lines order.0 each grammar agrees)
  staged (EventLine e ∷ lines) order each grammar agrees =
      let come = and_parts (may_all_come (events lines)) (may_come (events lines) e) each in
      evented lines (section lines) e (closed_parts lines) (open_events lines) refl (not_refused lines e order.1) come.0 come.1 grammar.0 agrees
      (staged lines order.0 come.0 grammar.1 (λ n given. agrees n (given_more (events lines) e n given) ∙ written_after (events lines) e n come.1 given))
