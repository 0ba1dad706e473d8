-- Setup, a merge of a file's streams and teardown, one after the other, are a whole trace.
use Rattle.std.proofs.Common.{◌≡◌, ◌∙◌, ◌==◌, ◌+◌, ℕ, nat_eq, Bool, true, false, not, cond, ◌||◌, Option, Some, None, List, [], ◌∷◌, ◌++◌, length, refl, sym, ap, subst, append_assoc, append-nil}
use Rattle.std.specs.Prelude.{map, reverse}
use Rattle.std.specs.List.{AllByRecursion, IsDistinct, list_any}
use Rattle.std.proofs.lemmas.Bool.{eq-eqb, eqb-true}
use Rattle.std.proofs.lemmas.Grind.{flat_map-append}
use Rattle.std.proofs.lemmas.List.{map-append, reverse-append, reverse-reverse}
use Rattle.trace_format.specs.declared.fault.TraceFault.TheVariants as fault
use Rattle.trace_format.specs.Accepting.{are_accepted, begins_instance, fault_at_end, first_fault, is_open, names_in, open_threads}
use Rattle.trace_format.specs.Content.{TraceEvent}
use Rattle.trace_format.specs.Grammar.{IsEvent}
use Rattle.chain_model.proofs.Eventing.{all_append, all_map}
use Rattle.chain_model.proofs.Gapped.{gapped}
use Rattle.stream_model.specs.declared.heading.Heading.{Heading}
use Rattle.stream_model.specs.declared.heading.Heading.TheVariants as heading
use Rattle.stream_model.specs.FileLines.{FileLine, HeadingLine, EventLine}
use Rattle.stream_model.specs.FileParts.{AreInOrder, FileParts, IsOfOneThread, StreamPart, closed_parts, open_events, parts, with_section}
use Rattle.stream_model.specs.Order.{event_thread, events, follows, heading_threads, refusal_at_end, section, stream_threads, takes_thread}
use Rattle.stream_model.specs.Plans.{kept_if}
use Rattle.stream_model.proofs.Comings.{ends_all}
use Rattle.stream_model.proofs.Orders.{heading_in_order, lines_accepted, lines_closed, not_refused}
use Rattle.stream_model.proofs.WholeTraces.{Stands, all_in_order, in_streams, placed_lines}
use Rattle.stream_model.proofs.Within.{of_one_thread, threads_distinct}
use Rattle.merge_model.specs.Merges.{IsMerge, events_of_thread, merged_events}
use Rattle.merge_model.proofs.Parting.{all_one_by_one, all_reverse, filter_reverse, starts_all}
use Rattle.merge_model.proofs.Counted.{AreApart, AreOwn, IsSum, length_sum, merged_all, merged_sum, merged_threads, names_sum, sum_append, sum_reverse}
use Rattle.merge_model.proofs.Moved.{ends_accepted}
use Rattle.merge_model.proofs.Alone.{alone, alone_accepted, belongs, event_begins_none, heading_follows, is_stream, none_open}
use Rattle.merge_model.proofs.Woven.{AreAlike, MakeNone, accepted_behind, alike_behind, orders_alike, woven}

-- ---- the parts of a file, of which the newest event comes first

-- the events of the streams
abbrev streamed : FileParts → List TraceEvent
streamed file = reverse (in_streams file.streams)

stream_last : (streams : List StreamPart) (t : ℕ) (latest : List TraceEvent) → in_streams (streams ++ record { thread = t; events = latest } ∷ []) ≡ in_streams streams ++ latest
stream_last streams t latest = flat_map-append (λ s. s.events) streams (record { thread = t; events = latest } ∷ []) ∙ ap (λ es. in_streams streams ++ es) (append-nil latest)

streamed_event : (s : Option Heading) (file : FileParts) (latest : List TraceEvent) (e : TraceEvent) → streamed (with_section file s (latest ++ e ∷ [])) ≡ kept_if (is_stream s) e (streamed (with_section file s latest))
streamed_event None file latest e = refl
streamed_event (Some heading.Setup) file latest e = refl
streamed_event (Some heading.Teardown) file latest e = refl
streamed_event (Some (heading.Stream t)) file latest e =
    ap reverse (stream_last file.streams t (latest ++ e ∷ []) ∙ (sym (append_assoc (in_streams file.streams) latest (e ∷ [])) ∙ ap (λ es. es ++ e ∷ []) (sym (stream_last file.streams t latest))))
    ∙ reverse-append (in_streams (file.streams ++ record { thread = t; events = latest } ∷ [])) (e ∷ [])

streamed_heading : (h : Heading) (file : FileParts) → streamed (with_section file (Some h) []) ≡ streamed file
streamed_heading heading.Setup file = refl
streamed_heading heading.Teardown file = refl
streamed_heading (heading.Stream t) file = ap reverse (stream_last file.streams t [] ∙ append-nil (in_streams file.streams))

-- the streams begin no instance
streams_make_none : (lines : List FileLine) → AreInOrder lines → MakeNone (streamed (parts lines))
streams_make_none [] order = tt
streams_make_none (HeadingLine h ∷ lines) order = subst MakeNone (sym (streamed_heading h (parts lines))) (streams_make_none lines order.0)
streams_make_none (EventLine e ∷ lines) order =
    subst MakeNone (sym (streamed_event (section lines) (closed_parts lines) (open_events lines) e)) (go (is_stream (section lines)) refl (streams_make_none lines order.0))
  where
    go : (u : Bool) → is_stream (section lines) ≡ u → MakeNone (streamed (parts lines)) → MakeNone (kept_if u e (streamed (parts lines)))
    go true is rest = (event_begins_none lines e is (not_refused lines e order.1), rest)
    go false is rest = rest

-- the streams are in the order of their headings, and no two of one thread
abbrev threads_of : Option Heading → List ℕ
threads_of None = []
threads_of (Some h) = heading_threads h

section_threads : (s : Option Heading) (file : FileParts) (latest : List TraceEvent) → map (λ (x : StreamPart). x.thread) (with_section file s latest).streams ≡ map (λ (x : StreamPart). x.thread) file.streams ++ threads_of s
section_threads None file latest = sym (append-nil (map (λ (x : StreamPart). x.thread) file.streams))
section_threads (Some heading.Setup) file latest = sym (append-nil (map (λ (x : StreamPart). x.thread) file.streams))
section_threads (Some heading.Teardown) file latest = sym (append-nil (map (λ (x : StreamPart). x.thread) file.streams))
section_threads (Some (heading.Stream t)) file latest = map-append (λ (x : StreamPart). x.thread) file.streams (record { thread = t; events = latest } ∷ [])

threads_in_order : (lines : List FileLine) → map (λ (x : StreamPart). x.thread) (parts lines).streams ≡ stream_threads lines
threads_in_order [] = refl
threads_in_order (HeadingLine h ∷ lines) = section_threads (Some h) (parts lines) [] ∙ ap (λ ts. ts ++ heading_threads h) (threads_in_order lines)
threads_in_order (EventLine e ∷ lines) =
    section_threads (section lines) (closed_parts lines) (open_events lines ++ e ∷ []) ∙ (sym (section_threads (section lines) (closed_parts lines) (open_events lines)) ∙ threads_in_order lines)

streams_apart : (lines : List FileLine) → AreInOrder lines → AreApart (parts lines).streams
streams_apart lines order = subst (IsDistinct nat_eq) (sym (threads_in_order lines)) (threads_distinct lines order)

streams_own : (lines : List FileLine) → AreInOrder lines → AllByRecursion AreOwn (parts lines).streams
streams_own lines order =
    all_map IsOfOneThread AreOwn (λ s own. all_one_by_one (λ e. event_thread e ≡ s.thread) s.events own) (parts lines).streams (all_one_by_one IsOfOneThread (parts lines).streams (of_one_thread lines order))

-- ---- what a thread does alone, by the parts

abbrev thread_events : ℕ → FileParts → List TraceEvent
thread_events u file = events_of_thread u (streamed file) ++ reverse file.setup

module _ (u : ℕ) where
  heading_parts : (s : Option Heading) (h : Heading) (file : FileParts) (latest : List TraceEvent) → follows s h ≡ true → Stands s file latest
      → thread_events u (with_section file s latest) ≡ thread_events u (with_section (with_section file s latest) (Some h) [])
  heading_parts s heading.Teardown file latest order stands = refl
  heading_parts s (heading.Stream t) file latest order stands =
      ap (λ es. events_of_thread u es ++ reverse (with_section file s latest).setup) (sym (streamed_heading (heading.Stream t) (with_section file s latest)))
  heading_parts None heading.Setup file latest order stands = ap (λ (f : FileParts). events_of_thread u (streamed file) ++ reverse f.setup) stands.0
  heading_parts (Some heading.Setup) heading.Setup file latest order stands = cc order
  heading_parts (Some (heading.Stream t)) heading.Setup file latest order stands = cc order
  heading_parts (Some heading.Teardown) heading.Setup file latest order stands = cc order

  event_parts : (s : Option Heading) (file : FileParts) (latest : List TraceEvent) (e : TraceEvent) → takes_thread s (event_thread e) ≡ true → Stands s file latest
      → kept_if (belongs u s) e (thread_events u (with_section file s latest)) ≡ thread_events u (with_section file s (latest ++ e ∷ []))
  event_parts None file latest e takes stands = cc takes
  event_parts (Some heading.Setup) file latest e takes stands =
      let none : events_of_thread u (streamed file) ≡ [] = ap (λ (f : FileParts). events_of_thread u (streamed f)) stands in
      ap (λ es. e ∷ (es ++ reverse latest)) none ∙ (sym (reverse-append latest (e ∷ [])) ∙ sym (ap (λ es. es ++ reverse (latest ++ e ∷ [])) none))
  event_parts (Some (heading.Stream t)) file latest e takes stands =
      let now = with_section file (Some (heading.Stream t)) latest in
      let own = events_of_thread u (streamed now) in
      let same : t ≡ event_thread e = eqb-true t (event_thread e) takes in
      ap (λ x. kept_if (x == u) e (own ++ reverse file.setup)) same
      ∙ (put (event_thread e == u) own (reverse file.setup) ∙ sym (ap (λ es. events_of_thread u es ++ reverse file.setup) (streamed_event (Some (heading.Stream t)) file latest e)))
    where
      put : (v : Bool) (xs ys : List TraceEvent) → kept_if v e (xs ++ ys) ≡ cond v (e ∷ xs) xs ++ ys
      put true xs ys = refl
      put false xs ys = refl
  event_parts (Some heading.Teardown) file latest e takes stands = refl

  alone_parts : (lines : List FileLine) → AreInOrder lines → alone u lines ≡ thread_events u (parts lines)
  alone_parts [] order = refl
  alone_parts (HeadingLine h ∷ lines) order =
      alone_parts lines order.0
      ∙ heading_parts (section lines) h (closed_parts lines) (open_events lines) (heading_follows lines h (heading_in_order lines h order.1).0) (placed_lines lines order.0).stands
  alone_parts (EventLine e ∷ lines) order =
      ap (kept_if (belongs u (section lines)) e) (alone_parts lines order.0)
      ∙ event_parts (section lines) (closed_parts lines) (open_events lines) e (not_refused lines e order.1).thread (placed_lines lines order.0).stands

-- ---- a merge in a file

turned : (setup between teardown : List TraceEvent) → reverse (setup ++ (between ++ teardown)) ≡ reverse teardown ++ (reverse between ++ reverse setup)
turned setup between teardown =
    reverse-append setup (between ++ teardown) ∙ (ap (λ es. es ++ reverse setup) (reverse-append between teardown) ∙ append_assoc (reverse teardown) (reverse between) (reverse setup))

newest_first : (lines : List FileLine) → AreInOrder lines → events lines ≡ reverse (merged_events (parts lines) (in_streams (parts lines).streams))
newest_first lines order = sym (ap reverse (all_in_order lines order) ∙ reverse-reverse (events lines))

in_parts : (lines : List FileLine) → AreInOrder lines → events lines ≡ reverse (parts lines).teardown ++ (streamed (parts lines) ++ reverse (parts lines).setup)
in_parts lines order = newest_first lines order ∙ turned (parts lines).setup (in_streams (parts lines).streams) (parts lines).teardown

-- a sum over a merge with setup and teardown is that over the file
whole_sum : (m : List TraceEvent → ℕ) → IsSum m → (lines : List FileLine) (merge : List TraceEvent) → AreInOrder lines → IsMerge (parts lines).streams merge → m (merged_events (parts lines) merge) ≡ m (events lines)
whole_sum m sum lines merge order is =
    let file = parts lines in
    let both : m (merge ++ file.teardown) ≡ m (in_streams file.streams ++ file.teardown) =
    sum_append m sum merge file.teardown ∙ (ap (λ k. k + m file.teardown) (merged_sum m sum file.streams merge (streams_apart lines order) is) ∙ sym (sum_append m sum (in_streams file.streams) file.teardown)) in
    let whole : m (merged_events file merge) ≡ m (merged_events file (in_streams file.streams)) =
    sum_append m sum file.setup (merge ++ file.teardown) ∙ (ap (λ k. m file.setup + k) both ∙ sym (sum_append m sum file.setup (in_streams file.streams ++ file.teardown))) in
    whole ∙ (sym (sum_reverse m sum (merged_events file (in_streams file.streams))) ∙ sym (ap m (newest_first lines order)))

pub whole_names : (lines : List FileLine) (merge : List TraceEvent) → AreInOrder lines → IsMerge (parts lines).streams merge → names_in (reverse (merged_events (parts lines) merge)) ≡ names_in (events lines)
whole_names lines merge order is = sum_reverse names_in names_sum (merged_events (parts lines) merge) ∙ whole_sum names_in names_sum lines merge order is

pub whole_events : (lines : List FileLine) (merge : List TraceEvent) → AreInOrder lines → IsMerge (parts lines).streams merge → length (merged_events (parts lines) merge) ≡ length (events lines)
whole_events lines merge order is = whole_sum (λ es. length es) length_sum lines merge order is

-- what holds of each event of the file holds of each of a merge with setup and teardown
whole_all : (P : TraceEvent → Type 0) (lines : List FileLine) (merge : List TraceEvent) → AreInOrder lines → AllByRecursion P (events lines) → IsMerge (parts lines).streams merge → AllByRecursion P (merged_events (parts lines) merge)
whole_all P lines merge order all is =
    let file = parts lines in
    let each : AllByRecursion P (file.setup ++ (in_streams file.streams ++ file.teardown)) = subst (AllByRecursion P) (sym (all_in_order lines order)) (all_reverse P (events lines) all) in
    let rest = ends_all P file.setup (in_streams file.streams ++ file.teardown) each in
    let between = merged_all P file.streams merge (streams_apart lines order) is (starts_all P (in_streams file.streams) file.teardown rest) in
    all_append P file.setup (merge ++ file.teardown) (starts_all P file.setup (in_streams file.streams ++ file.teardown) each)
    (all_append P merge file.teardown between (ends_all P (in_streams file.streams) file.teardown rest))

pub whole_grammar : (lines : List FileLine) (merge : List TraceEvent) → AreInOrder lines → AllByRecursion IsEvent (events lines) → IsMerge (parts lines).streams merge → AllByRecursion IsEvent (merged_events (parts lines) merge)
whole_grammar lines merge order grammar is = whole_all IsEvent lines merge order grammar is

-- ---- the faults of a merge

module _ (lines : List FileLine) (merge : List TraceEvent) (order : AreInOrder lines) (grammar : AllByRecursion IsEvent (events lines)) (is : IsMerge (parts lines).streams merge) where
  abbrev file : FileParts
  file = parts lines

  abbrev base : List TraceEvent
  base = reverse file.setup

  same_threads : (t : ℕ) → events_of_thread t (streamed file) ≡ events_of_thread t (reverse merge)
  same_threads t =
      filter_reverse (λ e. event_thread e == t) (in_streams file.streams)
      ∙ (sym (ap reverse (merged_threads file.streams merge (streams_apart lines order) (streams_own lines order) is t)) ∙ sym (filter_reverse (λ e. event_thread e == t) merge))

  merge_makes_none : MakeNone (reverse merge)
  merge_makes_none =
      all_reverse (λ e. begins_instance e ≡ false) merge (merged_all (λ e. begins_instance e ≡ false) file.streams merge (streams_apart lines order) is
      (subst MakeNone (reverse-reverse (in_streams file.streams)) (all_reverse (λ e. begins_instance e ≡ false) (streamed file) (streams_make_none lines order))))

  merge_grammar : AllByRecursion IsEvent (reverse merge ++ base)
  merge_grammar =
      ends_all IsEvent (reverse file.teardown) (reverse merge ++ base)
      (subst (AllByRecursion IsEvent) (turned file.setup merge file.teardown) (all_reverse IsEvent (merged_events file merge) (whole_grammar lines merge order grammar is)))

  file_accepted : are_accepted (reverse file.teardown ++ (streamed file ++ base)) ≡ true
  file_accepted = sym (ap are_accepted (in_parts lines order)) ∙ lines_accepted lines order

  merge_accepted : are_accepted (reverse merge ++ base) ≡ true
  merge_accepted =
      woven base (reverse merge) (ends_accepted (streamed file) base (ends_accepted (reverse file.teardown) (streamed file ++ base) file_accepted)) merge_grammar merge_makes_none
      (λ t. sym (ap (λ es. are_accepted (es ++ base)) (same_threads t)) ∙ (sym (ap are_accepted (alone_parts t lines order)) ∙ alone_accepted t lines order))

  merge_alike : AreAlike (streamed file ++ base) (reverse merge ++ base)
  merge_alike = orders_alike (streamed file) (reverse merge) base same_threads (streams_make_none lines order) merge_makes_none (gapped (reverse merge ++ base) (record { grammar = merge_grammar; accepted = merge_accepted })).each

  whole_merge_accepted : are_accepted (reverse (merged_events file merge)) ≡ true
  whole_merge_accepted =
      ap are_accepted (turned file.setup merge file.teardown) ∙ accepted_behind (streamed file ++ base) (reverse merge ++ base) (reverse file.teardown) merge_alike merge_accepted file_accepted

  -- ---- its end

  no_thread : (ts : List ℕ) → ((t : ℕ) → list_any (λ x. x == t) ts ≡ false) → ts ≡ []
  no_thread [] none = refl
  no_thread (t ∷ ts) none = let bad : true ≡ false = sym (ap (λ u. u || list_any (λ x. x == t) ts) (eq-eqb t t refl)) ∙ none t in cc bad

  whole_merge_closed : refusal_at_end lines ≡ None → fault_at_end (reverse (merged_events file merge)) ≡ None
  whole_merge_closed whole =
      let idle : open_threads (events lines) ≡ [] = none_open (events lines) (lines_closed lines whole) in
      let like = alike_behind (streamed file ++ base) (reverse merge ++ base) (reverse file.teardown) merge_alike in
      let closed : open_threads (reverse (merged_events file merge)) ≡ [] =
      no_thread (open_threads (reverse (merged_events file merge)))
      (λ t. ap (is_open t) (turned file.setup merge file.teardown) ∙ (sym (like.opens t) ∙ (sym (ap (is_open t) (in_parts lines order)) ∙ ap (list_any (λ x. x == t)) idle))) in
      ap (λ ts. first_fault ((not (length ts == 0), fault.OpenAtEnd) ∷ [])) closed

pub whole_accepted : (lines : List FileLine) (merge : List TraceEvent) → AreInOrder lines → AllByRecursion IsEvent (events lines) → IsMerge (parts lines).streams merge → are_accepted (reverse (merged_events (parts lines) merge)) ≡ true
whole_accepted lines merge order grammar is = whole_merge_accepted lines merge order grammar is

pub whole_closed : (lines : List FileLine) (merge : List TraceEvent) → AreInOrder lines → AllByRecursion IsEvent (events lines) → refusal_at_end lines ≡ None → IsMerge (parts lines).streams merge
    → fault_at_end (reverse (merged_events (parts lines) merge)) ≡ None
whole_closed lines merge order grammar whole is = whole_merge_closed lines merge order grammar is whole
