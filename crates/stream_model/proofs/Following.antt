-- What the threads of a stream file do on one device may come behind the file's setup, line by line.
use Rattle.std.proofs.Common.{◌≡◌, ◌∙◌, ◌==◌, ◌+◌, ℕ, nat_lt, Bool, true, false, not, cond, ◌&&◌, ◌||◌, Option, Some, None, List, [], ◌∷◌, ◌++◌, length, refl, sym, ap, subst}
use Rattle.std.specs.Prelude.{⊤, map, option_and_then, reverse}
use Rattle.std.specs.List.{AllByRecursion, list_all, list_any}
use Rattle.std.specs.Option.{is_none, option_map_or}
use Rattle.std.proofs.lemmas.Bool.{and_parts, eq-eqb, eqb-true, not-false, not-true}
use Rattle.std.proofs.lemmas.List.{map-append, nil_from_length, reverse-append, reverse-reverse}
use Rattle.command_tables.specs.declared.types.ObjectType.{ObjectType}
use Rattle.command_tables.specs.Effects.{type_made}
use Rattle.command_tables.specs.Table.{row_of}
use Rattle.trace_format.specs.declared.event.Name.{Name}
use Rattle.trace_format.specs.declared.fault.TraceFault.TheVariants as fault
use Rattle.trace_format.specs.Accepting.{breaks_instance, count_on, fault_after, fault_at_end, first_fault, is_known, is_of_type, is_open, names_given, names_used, open_threads, same_name, type_given}
use Rattle.trace_format.specs.Content.{TraceEvent, BeginEvent, Begin, Return}
use Rattle.trace_format.specs.Grammar.{IsEvent}
use Rattle.chain_model.specs.Gaps.{IsGapped, is_given, may_all_come, may_come}
use Rattle.chain_model.proofs.Eventing.{all_append}
use Rattle.chain_model.proofs.Gapped.{gapped}
use Rattle.stream_model.specs.declared.heading.Heading.{Heading}
use Rattle.stream_model.specs.declared.heading.Heading.TheVariants as heading
use Rattle.stream_model.specs.declared.limits.TheConstants.{MOST_STREAMS}
use Rattle.stream_model.specs.declared.refusal.Refusal.TheVariants as refusal
use Rattle.stream_model.specs.Devices.{has_result, written_device}
use Rattle.stream_model.specs.FileLines.{FileLine, HeadingLine, EventLine}
use Rattle.stream_model.specs.FileParts.{AreInOrder, FileParts, StreamPart, all_events, closed_parts, no_parts, open_events, parts, with_section}
use Rattle.stream_model.specs.Order.{any_name, call_refusal, device_named, event_thread, events, first_refusal, heading_thread, heading_threads, is_in_order, is_kept_out, is_new_stream, is_of_another_device, is_of_another_stream, section, stream, stream_of_name, stream_threads, takes_thread}
use Rattle.stream_model.specs.Plans.{Along, device_written, events_along, plan_cut, stream_on}
use Rattle.stream_model.proofs.Comings.{closed_whole, ends_all, ends_come, given_more}
use Rattle.stream_model.proofs.OnDevices.{BeginsIn, Kept, all_calls, begun, calls_kept, kept_on, last_on, no_instance, on_a_device, returned, written_after}
use Rattle.stream_model.proofs.Orders.{NotRefused, heading_in_order, lines_accepted, not_refused}
use Rattle.stream_model.proofs.Turns.{IsOwn, Ready, turns_follow}
use Rattle.stream_model.proofs.WholeTraces.{Stands, all_in_order, in_streams, placed_lines}

-- ---- the streams of names

any_left : (p : ℕ → Bool) (xs ys : List ℕ) → list_any p xs ≡ true → list_any p (xs ++ ys) ≡ true
any_left p [] ys is = cc is
any_left p (x ∷ xs) ys is = go (p x) (any_left p xs ys) is
  where
    go : (u : Bool) → (list_any p xs ≡ true → list_any p (xs ++ ys) ≡ true) → (u || list_any p xs) ≡ true → (u || list_any p (xs ++ ys)) ≡ true
    go true rest h = refl
    go false rest h = rest h

any_right : (p : ℕ → Bool) (xs ys : List ℕ) → list_any p ys ≡ true → list_any p (xs ++ ys) ≡ true
any_right p [] ys is = is
any_right p (x ∷ xs) ys is = go (p x) (any_right p xs ys is)
  where
    go : (u : Bool) → list_any p (xs ++ ys) ≡ true → (u || list_any p (xs ++ ys)) ≡ true
    go true rest = refl
    go false rest = rest

-- the section's thread is among those of the streams
thread_there : (lines : List FileLine) (t : ℕ) → stream lines ≡ Some t → list_any (λ x. x == t) (stream_threads lines) ≡ true
thread_there [] t is = cc is
thread_there (HeadingLine h ∷ lines) t is = any_right (λ x. x == t) (stream_threads lines) (heading_threads h) (here h is)
  where
    here : (h : Heading) → heading_thread h ≡ Some t → list_any (λ x. x == t) (heading_threads h) ≡ true
    here heading.Setup e = cc e
    here (heading.Stream u) e = let one : u ≡ t = cc in ap (λ v. v || false) (eq-eqb u t one)
    here heading.Teardown e = cc e
thread_there (EventLine e ∷ lines) t is = thread_there lines t is

-- so is that of any name's stream
named_there : (lines : List FileLine) (n : Name) (t : ℕ) → stream_of_name lines n ≡ Some t → list_any (λ x. x == t) (stream_threads lines) ≡ true
named_there [] n t is = cc is
named_there (HeadingLine h ∷ lines) n t is = any_left (λ x. x == t) (stream_threads lines) (heading_threads h) (named_there lines n t is)
named_there (EventLine (Begin b) ∷ lines) n t is = go (has_result b n) (named_there lines n t) is
  where
    go : (u : Bool) → (stream_of_name lines n ≡ Some t → list_any (λ x. x == t) (stream_threads lines) ≡ true) → cond u (stream lines) (stream_of_name lines n) ≡ Some t → list_any (λ x. x == t) (stream_threads lines) ≡ true
    go true rest p = thread_there lines t p
    go false rest p = rest p
named_there (EventLine (Return thread) ∷ lines) n t is = named_there lines n t is

-- ---- an event of a stream

counted_names : (thread k : ℕ) (names : List Name) → count_on thread k names ≡ true → AllByRecursion (λ (n : Name). n.thread ≡ thread) names
counted_names thread k [] is = tt
counted_names thread k (n ∷ names) is =
    let a = and_parts (same_name n (record { thread = thread; number = k })) (count_on thread (k + 1) names) is in
    (eqb-true n.thread thread (and_parts (n.thread == thread) (n.number == k) a.0).0, counted_names thread (k + 1) names a.1)

in_sequence : (a b c d e : Bool) → first_fault ((a, fault.Busy) ∷ (not b, fault.Unknown) ∷ (not c, fault.WrongType) ∷ (not d, fault.Sequence) ∷ (e, fault.Instance) ∷ []) ≡ None → d ≡ true
in_sequence a b c true e is = refl
in_sequence true b c false e is = cc is
in_sequence false false c false e is = cc is
in_sequence false true false false e is = cc is
in_sequence false true true false e is = cc is

results_counted : (before : List TraceEvent) (b : BeginEvent) → fault_after before (Begin b) ≡ None → AllByRecursion (λ (n : Name). n.thread ≡ b.thread) b.results
results_counted before b is =
    counted_names b.thread (names_given b.thread before + 1) b.results
    (in_sequence (is_open b.thread before) (list_all (is_known before) (names_used (row_of b.cmd).params b.args)) (list_all (is_of_type before) (names_used (row_of b.cmd).params b.args)) (count_on b.thread (names_given b.thread before + 1) b.results) (breaks_instance before (Begin b)) is)

no_refusal : (a k s d : Bool) → first_refusal ((a, refusal.NoDevice) ∷ (k || s, refusal.NotInStream) ∷ (d, refusal.CrossDevice) ∷ []) ≡ None → (a ≡ false) × (s ≡ false) × (d ≡ false)
no_refusal false false false false is = (refl, refl, refl)
no_refusal true k s d is = cc is
no_refusal false true s d is = cc is
no_refusal false false true d is = cc is
no_refusal false false false true is = cc is

-- what a begin in a stream is
begins_in : (device_of : Name → Option Name) (lines : List FileLine) (t : ℕ) (b : BeginEvent) → stream lines ≡ Some t → NotRefused lines (Begin b) → b.thread ≡ t → may_come (events lines) (Begin b) ≡ true
    → ((n : Name) → is_given (Begin b ∷ events lines) n ≡ true → device_of n ≡ written_device (Begin b ∷ events lines) n) → BeginsIn device_of lines t b
begins_in device_of lines t b here r thread comes agrees =
    let called : call_refusal (written_device (events lines)) (stream_of_name lines) b.cmd b.args t ≡ None =
    sym (ap (option_and_then (call_refusal (written_device (events lines)) (stream_of_name lines) b.cmd b.args)) here) ∙ r.stream in
    let facts =
    no_refusal (is_none (device_named (written_device (events lines)) b.cmd b.args)) (is_kept_out b.cmd) (any_name (is_of_another_stream (stream_of_name lines) t) b.args)
    (any_name (is_of_another_device (written_device (events lines)) (device_named (written_device (events lines)) b.cmd b.args)) b.args) called in
    record { at = thread; comes = comes; on_one = facts.0; own = facts.1; devices = facts.2; agrees = agrees }

is_own : (device_of : Name → Option Name) (lines : List FileLine) (t : ℕ) (e : TraceEvent) → stream lines ≡ Some t → NotRefused lines e → event_thread e ≡ t → may_come (events lines) e ≡ true → IsEvent e
    → ((n : Name) → is_given (e ∷ events lines) n ≡ true → device_of n ≡ written_device (e ∷ events lines) n) → IsOwn t e
is_own device_of lines t (Begin b) here r thread comes event agrees = record {
  at = thread;
  results = subst (λ u. AllByRecursion (λ (n : Name). n.thread ≡ u) b.results) thread (results_counted (events lines) b r.fault);
  begins = no_instance b (on_a_device (written_device (events lines)) b.cmd b.args (begins_in device_of lines t b here r thread comes agrees).on_one);
  event = event;
}
is_own device_of lines t (Return u) here r thread comes event agrees = record { at = thread; results = tt; begins = refl; event = event }

-- ---- the lines so far

-- What stands behind a setup: no call is open at its end, the names that no stream gave are given there with their types, and it is a part of the file.
record Behind (setup : List TraceEvent) (lines : List FileLine) : Type 0 where
  pub idle : open_threads setup ≡ []
  pub typed : (n : Name) (ty : ObjectType) → stream_of_name lines n ≡ None → type_given n (events lines) ≡ Some ty → type_given n setup ≡ Some ty
  pub given : (n : Name) → is_given setup n ≡ true → is_given (events lines) n ≡ true
  pub each : may_all_come setup ≡ true

module _ (device_of : Name → Option Name) (device : Name) where
  -- each closed stream's calls on the device may come behind the setup
  abbrev AreReady : FileParts → Type 0
  AreReady file = AllByRecursion (Ready (reverse file.setup)) (map (stream_on device_of device) file.streams)

  record InStream (lines : List FileLine) (t : ℕ) (file : FileParts) (latest : List TraceEvent) : Type 0 where
    pub behind : Behind (reverse file.setup) lines
    pub kept : Kept device_of device lines t (kept_on device_of device (reverse latest) ++ reverse file.setup) (last_on device_of device (reverse latest))
    pub own : AllByRecursion (IsOwn t) latest
    pub ready : AreReady file

  -- the lines so far, by their section
  abbrev Stage : List FileLine → Option Heading → FileParts → List TraceEvent → Type 0
  Stage lines None file latest = ⊤
  Stage lines (Some heading.Setup) file latest = ⊤
  Stage lines (Some (heading.Stream t)) file latest = InStream lines t file latest
  Stage lines (Some heading.Teardown) file latest = AreReady file

  -- a stream that is closed
  closed_ready : (lines : List FileLine) (t : ℕ) (file : FileParts) (latest : List TraceEvent) → InStream lines t file latest → AreReady (with_section file (Some (heading.Stream t)) latest)
  closed_ready lines t file latest s =
      subst (AllByRecursion (Ready (reverse file.setup))) (sym (map-append (stream_on device_of device) file.streams (record { thread = t; events = latest } ∷ [])))
      (all_append (Ready (reverse file.setup)) (map (stream_on device_of device) file.streams) (stream_on device_of device (record { thread = t; events = latest }) ∷ []) s.ready (
        record { comes = ap (λ es. may_all_come (es ++ reverse file.setup)) (calls_kept device_of device latest) ∙ s.kept.each; own = all_calls (IsOwn t) device_of device false latest s.own },
        tt,
      ))

  -- a stream begins
  starts : (setup : List TraceEvent) (lines : List FileLine) (t : ℕ) → Behind setup lines → list_any (λ x. x == t) (stream_threads lines) ≡ false → Kept device_of device (HeadingLine (heading.Stream t) ∷ lines) t setup false
  starts setup lines t behind new = record {
    each = behind.each;
    opens = ap (list_any (λ x. x == t)) behind.idle;
    given = behind.given;
    typed = λ n ty other there is. typed n ty (stream_of_name lines n) refl other is;
    calm = λ e. closed_whole setup e behind.idle;
  }
    where
      typed : (n : Name) (ty : ObjectType) (s : Option ℕ) → stream_of_name lines n ≡ s → option_map_or (λ x. not (x == t)) s false ≡ false → type_given n (events lines) ≡ Some ty → type_given n setup ≡ Some ty
      typed n ty None e other is = behind.typed n ty e is
      typed n ty (Some u) e other is =
          let there : list_any (λ x. x == u) (stream_threads lines) ≡ true = named_there lines n u e in
          let same : u ≡ t = eqb-true u t (not-false (u == t) other) in
          let bad : list_any (λ x. x == t) (stream_threads lines) ≡ true = subst (λ v. list_any (λ x. x == v) (stream_threads lines) ≡ true) same there in cc

  begin_stream : (setup : List TraceEvent) (lines : List FileLine) (t : ℕ) (file : FileParts) → setup ≡ reverse file.setup → Behind setup lines → list_any (λ x. x == t) (stream_threads lines) ≡ false → AreReady file
      → InStream (HeadingLine (heading.Stream t) ∷ lines) t file []
  begin_stream setup lines t file is behind new ready =
      let there : Behind (reverse file.setup) lines = subst (λ es. Behind es lines) is behind in
      record {
        behind = record { idle = there.idle; typed = there.typed; given = there.given; each = there.each };
        kept = starts (reverse file.setup) lines t there new;
        own = tt;
        ready = ready;
      }

  -- ---- a heading

  no_open : (ts : List ℕ) → first_fault ((not (length ts == 0), fault.OpenAtEnd) ∷ []) ≡ None → ts ≡ []
  no_open ts is = nil_from_length ts (eqb-true (length ts) 0 (closed (length ts == 0) is))
    where
      closed : (u : Bool) → first_fault ((not u, fault.OpenAtEnd) ∷ []) ≡ None → u ≡ true
      closed true p = refl
      closed false p = cc p

  is_new : (ts : List ℕ) (t : ℕ) (a : Bool) → (a && is_new_stream ts t) ≡ true → list_any (λ x. x == t) ts ≡ false
  is_new ts t a is =
      not-true (list_any (λ x. x == t) ts) (and_parts (nat_lt (length ts) MOST_STREAMS) (not (list_any (λ x. x == t) ts)) (and_parts a (is_new_stream ts t) is).1).1

  -- setup is closed: all events so far are its
  setup_whole : (lines : List FileLine) (file : FileParts) (latest : List TraceEvent) → file ≡ no_parts → all_events file ++ latest ≡ reverse (events lines) → events lines ≡ reverse latest
  setup_whole lines file latest none is =
      let own : latest ≡ reverse (events lines) = sym (ap (λ f. all_events f ++ latest) none) ∙ is in
      sym (ap reverse own ∙ reverse-reverse (events lines))

  setup_behind : (lines : List FileLine) → open_threads (events lines) ≡ [] → may_all_come (events lines) ≡ true → Behind (events lines) lines
  setup_behind lines idle each = record { idle = idle; typed = λ n ty s is. is; given = λ n is. is; each = each }

  no_streams : (file : FileParts) (latest : List TraceEvent) → file ≡ no_parts → AreReady (with_section file (Some heading.Setup) latest)
  no_streams file latest none =
      subst (λ (streams : List StreamPart). AllByRecursion (Ready (reverse latest)) (map (stream_on device_of device) streams)) (sym (ap (λ (f : FileParts). f.streams) none)) tt

  headed : (lines : List FileLine) (s : Option Heading) (h : Heading) (file : FileParts) (latest : List TraceEvent) → is_in_order s (stream_threads lines) h ≡ true → fault_at_end (events lines) ≡ None → may_all_come (events lines) ≡ true
      → Stands s file latest → all_events file ++ latest ≡ reverse (events lines) → Stage lines s file latest → Stage (HeadingLine h ∷ lines) (Some h) (with_section file s latest) []
  headed lines None heading.Setup file latest order closed each stands whole stage = tt
  headed lines None (heading.Stream t) file latest order closed each stands whole stage = cc
  headed lines None heading.Teardown file latest order closed each stands whole stage = cc
  headed lines (Some heading.Setup) heading.Setup file latest order closed each stands whole stage = cc
  headed lines (Some heading.Setup) (heading.Stream t) file latest order closed each stands whole stage =
      begin_stream (events lines) lines t (with_section file (Some heading.Setup) latest) (setup_whole lines file latest stands whole) (setup_behind lines (no_open (open_threads (events lines)) closed) each)
      (is_new (stream_threads lines) t true order) (no_streams file latest stands)
  headed lines (Some heading.Setup) heading.Teardown file latest order closed each stands whole stage = no_streams file latest stands
  headed lines (Some (heading.Stream u)) heading.Setup file latest order closed each stands whole stage = cc
  headed lines (Some (heading.Stream u)) (heading.Stream t) file latest order closed each stands whole stage =
      begin_stream (reverse file.setup) lines t (with_section file (Some (heading.Stream u)) latest) refl stage.behind (is_new (stream_threads lines) t true order) (closed_ready lines u file latest stage)
  headed lines (Some (heading.Stream u)) heading.Teardown file latest order closed each stands whole stage = closed_ready lines u file latest stage
  headed lines (Some heading.Teardown) h file latest order closed each stands whole stage = cc

  -- ---- an event

  behind_more : (setup : List TraceEvent) (lines : List FileLine) (t : ℕ) (e : TraceEvent) → stream lines ≡ Some t → Behind setup lines → Behind setup (EventLine e ∷ lines)
  behind_more setup lines t (Begin b) here behind = record { idle = behind.idle; typed = λ n ty s is. typed (has_result b n) n ty s is; given = λ n is. given_more (events lines) (Begin b) n (behind.given n is); each = behind.each }
    where
      typed : (u : Bool) (n : Name) (ty : ObjectType) → cond u (stream lines) (stream_of_name lines n) ≡ None → cond u (type_made (row_of b.cmd).effect) (type_given n (events lines)) ≡ Some ty → type_given n setup ≡ Some ty
      typed true n ty s is = let bad : Some t ≡ None = sym here ∙ s in cc bad
      typed false n ty s is = behind.typed n ty s is
  behind_more setup lines t (Return u) here behind = record { idle = behind.idle; typed = behind.typed; given = behind.given; each = behind.each }

  kept_more : (lines : List FileLine) (t : ℕ) (setup before : List TraceEvent) (e : TraceEvent) → stream lines ≡ Some t → NotRefused lines e → event_thread e ≡ t → may_come (events lines) e ≡ true
      → ((n : Name) → is_given (e ∷ events lines) n ≡ true → device_of n ≡ written_device (e ∷ events lines) n) → Kept device_of device lines t (kept_on device_of device before ++ setup) (last_on device_of device before)
      → Kept device_of device (EventLine e ∷ lines) t (kept_on device_of device (e ∷ before) ++ setup) (last_on device_of device (e ∷ before))
  kept_more lines t setup before (Begin b) here r thread comes agrees k = begun device_of device lines t setup before b k (begins_in device_of lines t b here r thread comes agrees)
  kept_more lines t setup before (Return u) here r thread comes agrees k =
      subst (λ v. Kept device_of device (EventLine (Return v) ∷ lines) t (kept_on device_of device (Return v ∷ before) ++ setup) (last_on device_of device (Return v ∷ before))) (sym thread)
      (returned device_of device lines t setup before k (subst (λ v. may_come (events lines) (Return v) ≡ true) thread comes))

  evented : (lines : List FileLine) (s : Option Heading) (e : TraceEvent) (file : FileParts) (latest : List TraceEvent) → section lines ≡ s → NotRefused lines e → may_come (events lines) e ≡ true → IsEvent e
      → ((n : Name) → is_given (e ∷ events lines) n ≡ true → device_of n ≡ written_device (e ∷ events lines) n) → Stage lines s file latest → Stage (EventLine e ∷ lines) s file (latest ++ e ∷ [])
  evented lines None e file latest is r comes event agrees stage = tt
  evented lines (Some heading.Setup) e file latest is r comes event agrees stage = tt
  evented lines (Some heading.Teardown) e file latest is r comes event agrees stage = stage
  evented lines (Some (heading.Stream t)) e file latest is r comes event agrees stage =
      let here : stream lines ≡ Some t = ap (option_and_then heading_thread) is in
      let takes : (t == event_thread e) ≡ true = sym (ap (λ s. takes_thread s (event_thread e)) is) ∙ r.thread in
      let thread : event_thread e ≡ t = sym (eqb-true t (event_thread e) takes) in
      record {
        behind = behind_more (reverse file.setup) lines t e here stage.behind;
        kept = subst (λ es. Kept device_of device (EventLine e ∷ lines) t (kept_on device_of device es ++ reverse file.setup) (last_on device_of device es)) (sym (reverse-append latest (e ∷ [])))
            (kept_more lines t (reverse file.setup) (reverse latest) e here r thread comes agrees stage.kept);
        own = all_append (IsOwn t) latest (e ∷ []) stage.own (is_own device_of lines t e here r thread comes event agrees, tt);
        ready = stage.ready;
      }

  -- ---- all lines

  staged : (lines : List FileLine) → AreInOrder lines → may_all_come (events lines) ≡ true → AllByRecursion IsEvent (events lines) → ((n : Name) → is_given (events lines) n ≡ true → device_of n ≡ written_device (events lines) n)
      → Stage lines (section lines) (closed_parts lines) (open_events lines)
  staged [] order each grammar agrees = tt
  staged (HeadingLine h ∷ lines) order each grammar agrees =
      let first = heading_in_order lines h order.1 in
      let placed = placed_lines lines order.0 in
      headed lines (section lines) h (closed_parts lines) (open_events lines) first.0 first.1 each placed.stands placed.events (staged lines order.0 each grammar agrees)
  staged (EventLine e ∷ lines) order each grammar agrees =
      let come = and_parts (may_all_come (events lines)) (may_come (events lines) e) each in
      evented lines (section lines) e (closed_parts lines) (open_events lines) refl (not_refused lines e order.1) come.1 grammar.0 agrees
      (staged lines order.0 come.0 grammar.1 (λ n given. agrees n (given_more (events lines) e n given) ∙ written_after (events lines) e n come.1 given))

  parts_ready : (lines : List FileLine) (s : Option Heading) (file : FileParts) (latest : List TraceEvent) → Stands s file latest → Stage lines s file latest → AreReady (with_section file s latest)
  parts_ready lines None file latest stands stage = subst (λ (f : FileParts). AreReady f) (sym stands.0) tt
  parts_ready lines (Some heading.Setup) file latest stands stage = no_streams file latest stands
  parts_ready lines (Some (heading.Stream t)) file latest stands stage = closed_ready lines t file latest stage
  parts_ready lines (Some heading.Teardown) file latest stands stage = stage

-- setup is the end of all events, of which the newest comes first
setup_ends : (lines : List FileLine) → AreInOrder lines → (P : List TraceEvent → Type 0) → ((xs ys : List TraceEvent) → P (xs ++ ys) → P ys) → P (events lines) → P (reverse (parts lines).setup)
setup_ends lines order P ends all =
    let cut : events lines ≡ reverse (in_streams (parts lines).streams ++ (parts lines).teardown) ++ reverse (parts lines).setup =
    sym (reverse-reverse (events lines)) ∙ (sym (ap reverse (all_in_order lines order)) ∙ reverse-append (parts lines).setup (in_streams (parts lines).streams ++ (parts lines).teardown)) in
    ends (reverse (in_streams (parts lines).streams ++ (parts lines).teardown)) (reverse (parts lines).setup) (subst P cut all)

pub follows_setup : (lines : List FileLine) (device : Name) (threads : List ℕ) → AreInOrder lines → AllByRecursion IsEvent (events lines) → Along (plan_cut (parts lines) device).streams threads
    → IsGapped (events_along (plan_cut (parts lines) device).streams threads ++ reverse (parts lines).setup)
follows_setup lines device threads order grammar along =
    let all : IsGapped (events lines) = gapped (events lines) (record { grammar = grammar; accepted = lines_accepted lines order }) in
    let setup : IsGapped (reverse (parts lines).setup) =
    record {
      grammar = setup_ends lines order (AllByRecursion IsEvent) (ends_all IsEvent) grammar;
      each = setup_ends lines order (λ es. may_all_come es ≡ true) ends_come all.each;
    } in
    let newest : reverse (all_events (parts lines)) ≡ events lines = ap reverse (all_in_order lines order) ∙ reverse-reverse (events lines) in
    let placed = placed_lines lines order in
    let device_of : Name → Option Name = device_written (parts lines) in
    let ready = parts_ready device_of device lines (section lines) (closed_parts lines) (open_events lines) placed.stands (staged device_of device lines order all.each grammar (λ n given. ap (λ es. written_device es n) newest)) in
    turns_follow (reverse (parts lines).setup) (plan_cut (parts lines) device).streams setup ready threads along
