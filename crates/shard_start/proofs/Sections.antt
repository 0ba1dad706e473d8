-- The sections of a whole stream file: no call is open behind setup, and each stream is of calls that return at once.
use Rattle.std.proofs.Common.{◌≡◌, ◌∙◌, ◌==◌, ◌+◌, ◌≤◌, ℕ, Bool, true, false, not, cond, ◌||◌, Option, Some, None, List, [], ◌∷◌, ◌++◌, length, map, refl, sym, ap, subst, arith, append-nil}
use Rattle.std.specs.Prelude.{⊤, filter, reverse}
use Rattle.std.specs.List.{AllByRecursion, flat_map, list_any}
use Rattle.std.proofs.lemmas.Bool.{and_parts, eq-eqb, eqb-true}
use Rattle.std.proofs.lemmas.List.{length-append, map-append, nil_from_length, reverse-reverse}
use Rattle.trace_format.specs.declared.fault.TraceFault.TheVariants as fault
use Rattle.trace_format.specs.Accepting.{calls_begun, fault_at_end, first_fault, is_open, open_threads}
use Rattle.trace_format.specs.Content.{TraceEvent, Begin, Return}
use Rattle.trace_format.specs.Grammar.{IsEvent}
use Rattle.chain_model.specs.Gaps.{IsGapped, may_all_come, may_come}
use Rattle.chain_model.proofs.Eventing.{all_append}
use Rattle.chain_model.proofs.Gapped.{gapped}
use Rattle.stream_model.specs.declared.heading.Heading.{Heading}
use Rattle.stream_model.specs.declared.heading.Heading.TheVariants as heading
use Rattle.stream_model.specs.FileLines.{FileLine, HeadingLine, EventLine}
use Rattle.stream_model.specs.FileParts.{AreInOrder, FileParts, StreamPart, all_events, closed_parts, no_parts, open_events, parts, with_section}
use Rattle.stream_model.specs.Order.{end_refusal, event_thread, events, heading_threads, is_in_order, refusal_at_end, section, stream_threads, takes_thread}
use Rattle.stream_model.proofs.Comings.{coming, open_at_return}
use Rattle.stream_model.proofs.Orders.{heading_in_order, lines_accepted, not_refused}
use Rattle.stream_model.proofs.WholeTraces.{Stands, placed_lines}
use Rattle.shard_start.specs.Starting.{ArePairs, events_in}
use Rattle.shard_start.proofs.Pairs.{PairsSo, begin_more, return_more}

-- ---- open calls

no_open : (ts : List ℕ) → first_fault ((not (length ts == 0), fault.OpenAtEnd) ∷ []) ≡ None → ts ≡ []
no_open ts is = nil_from_length ts (eqb-true (length ts) 0 (closed (length ts == 0) is))
  where
    closed : (u : Bool) → first_fault ((not u, fault.OpenAtEnd) ∷ []) ≡ None → u ≡ true
    closed true p = refl
    closed false p = cc p

none_of : (t : ℕ) (ts : List ℕ) → list_any (λ x. x == t) (filter (λ x. not (x == t)) ts) ≡ false
none_of t [] = refl
none_of t (x ∷ ts) = go (x == t) refl (none_of t ts)
  where
    go : (u : Bool) → (x == t) ≡ u → list_any (λ y. y == t) (filter (λ y. not (y == t)) ts) ≡ false → list_any (λ y. y == t) (cond (not u) (x ∷ filter (λ y. not (y == t)) ts) (filter (λ y. not (y == t)) ts)) ≡ false
    go true e rest = rest
    go false e rest = ap (λ (u : Bool). u || list_any (λ y. y == t) (filter (λ y. not (y == t)) ts)) e ∙ rest

closed_at : (t : ℕ) (before : List TraceEvent) → open_threads before ≡ [] → is_open t before ≡ false
closed_at t before none = ap (list_any (λ x. x == t)) none

-- a thread's event more behind its pairs
event_more : (before : List TraceEvent) (t : ℕ) (latest : List TraceEvent) (e : TraceEvent) → event_thread e ≡ t → may_come before e ≡ true → PairsSo (is_open t before) latest → PairsSo (is_open t (e ∷ before)) (latest ++ e ∷ [])
event_more before t latest (Begin b) thread comes pairs =
    let idle : is_open t before ≡ false = sym (ap (λ x. is_open x before) thread) ∙ (coming before b comes).idle in
    let own : is_open t (Begin b ∷ before) ≡ true = ap (λ (u : Bool). u || is_open t before) (eq-eqb b.thread t thread) in
    subst (λ (u : Bool). PairsSo u (latest ++ Begin b ∷ [])) (sym own) (begin_more latest b (subst (λ (u : Bool). PairsSo u latest) idle pairs))
event_more before t latest (Return u) thread comes pairs =
    let opened : is_open t before ≡ true = sym (ap (λ x. is_open x before) thread) ∙ open_at_return before u comes in
    let closed : is_open t (Return u ∷ before) ≡ false = subst (λ x. is_open t (Return x ∷ before) ≡ false) (sym thread) (none_of t (open_threads before)) in
    subst (λ (v : Bool). PairsSo v (latest ++ Return u ∷ [])) (sym closed) (return_more latest u (subst (λ (v : Bool). PairsSo v latest) opened pairs))

-- ---- the lines so far

-- no call is open behind setup, and each stream so far is of calls that return at once
pub record Settled (file : FileParts) : Type 0 where
  pub idle : open_threads (reverse file.setup) ≡ []
  pub pairs : AllByRecursion (λ (s : StreamPart). ArePairs s.events) file.streams

-- by their section
abbrev Stage : List FileLine → Option Heading → FileParts → List TraceEvent → Type 0
Stage lines None file latest = ⊤
Stage lines (Some heading.Setup) file latest = ⊤
Stage lines (Some (heading.Stream t)) file latest = Settled file × PairsSo (is_open t (events lines)) latest
Stage lines (Some heading.Teardown) file latest = Settled file

-- setup is closed: all events so far are its
setup_closed : (lines : List FileLine) (file : FileParts) (latest : List TraceEvent) → open_threads (events lines) ≡ [] → file ≡ no_parts → all_events file ++ latest ≡ reverse (events lines) → Settled (with_section file (Some heading.Setup) latest)
setup_closed lines file latest closed none is =
    let own : latest ≡ reverse (events lines) = sym (ap (λ (f : FileParts). all_events f ++ latest) none) ∙ is in
    let whole : reverse latest ≡ events lines = ap reverse own ∙ reverse-reverse (events lines) in
    record { idle = ap open_threads whole ∙ closed; pairs = subst (λ (f : FileParts). AllByRecursion (λ (s : StreamPart). ArePairs s.events) f.streams) (sym none) tt }

-- a stream is closed
stream_closed : (lines : List FileLine) (t : ℕ) (file : FileParts) (latest : List TraceEvent) → open_threads (events lines) ≡ [] → Settled file × PairsSo (is_open t (events lines)) latest
    → Settled (with_section file (Some (heading.Stream t)) latest)
stream_closed lines t file latest closed stage =
    let pairs : ArePairs latest = subst (λ (u : Bool). PairsSo u latest) (closed_at t (events lines) closed) stage.1 in
    record { idle = stage.0.idle; pairs = all_append (λ (s : StreamPart). ArePairs s.events) file.streams (record { thread = t; events = latest } ∷ []) stage.0.pairs (pairs, tt) }

-- a stream begins
stream_opened : (lines : List FileLine) (t : ℕ) (file : FileParts) → open_threads (events lines) ≡ [] → Settled file → Settled file × PairsSo (is_open t (events lines)) []
stream_opened lines t file closed settled = (settled, subst (λ (u : Bool). PairsSo u []) (sym (closed_at t (events lines) closed)) tt)

headed : (lines : List FileLine) (s : Option Heading) (h : Heading) (file : FileParts) (latest : List TraceEvent) → is_in_order s (stream_threads lines) h ≡ true → open_threads (events lines) ≡ [] → Stands s file latest
    → all_events file ++ latest ≡ reverse (events lines) → Stage lines s file latest → Stage (HeadingLine h ∷ lines) (Some h) (with_section file s latest) []
headed lines None heading.Setup file latest order closed stands whole stage = tt
headed lines None (heading.Stream t) file latest order closed stands whole stage = cc
headed lines None heading.Teardown file latest order closed stands whole stage = cc
headed lines (Some heading.Setup) heading.Setup file latest order closed stands whole stage = cc
headed lines (Some heading.Setup) (heading.Stream t) file latest order closed stands whole stage =
    stream_opened lines t (with_section file (Some heading.Setup) latest) closed (setup_closed lines file latest closed stands whole)
headed lines (Some heading.Setup) heading.Teardown file latest order closed stands whole stage = setup_closed lines file latest closed stands whole
headed lines (Some (heading.Stream u)) heading.Setup file latest order closed stands whole stage = cc
headed lines (Some (heading.Stream u)) (heading.Stream t) file latest order closed stands whole stage =
    stream_opened lines t (with_section file (Some (heading.Stream u)) latest) closed (stream_closed lines u file latest closed stage)
headed lines (Some (heading.Stream u)) heading.Teardown file latest order closed stands whole stage = stream_closed lines u file latest closed stage
headed lines (Some heading.Teardown) h file latest order closed stands whole stage = cc

evented : (lines : List FileLine) (s : Option Heading) (e : TraceEvent) (file : FileParts) (latest : List TraceEvent) → takes_thread s (event_thread e) ≡ true → may_come (events lines) e ≡ true → Stage lines s file latest
    → Stage (EventLine e ∷ lines) s file (latest ++ e ∷ [])
evented lines None e file latest takes comes stage = tt
evented lines (Some heading.Setup) e file latest takes comes stage = tt
evented lines (Some (heading.Stream t)) e file latest takes comes stage = (stage.0, event_more (events lines) t latest e (sym (eqb-true t (event_thread e) takes)) comes stage.1)
evented lines (Some heading.Teardown) e file latest takes comes stage = stage

staged : (lines : List FileLine) → AreInOrder lines → may_all_come (events lines) ≡ true → Stage lines (section lines) (closed_parts lines) (open_events lines)
staged [] order each = tt
staged (HeadingLine h ∷ lines) order each =
    let first = heading_in_order lines h order.1 in
    let placed = placed_lines lines order.0 in
    headed lines (section lines) h (closed_parts lines) (open_events lines) first.0 (no_open (open_threads (events lines)) first.1) placed.stands placed.events (staged lines order.0 each)
staged (EventLine e ∷ lines) order each =
    let come = and_parts (may_all_come (events lines)) (may_come (events lines) e) each in
    evented lines (section lines) e (closed_parts lines) (open_events lines) (not_refused lines e order.1).thread come.1 (staged lines order.0 come.0)

-- a whole file
pub file_settled : (lines : List FileLine) → AreInOrder lines → AllByRecursion IsEvent (events lines) → refusal_at_end lines ≡ None → Settled (parts lines)
file_settled lines order grammar whole =
    let all : IsGapped (events lines) = gapped (events lines) (record { grammar = grammar; accepted = lines_accepted lines order }) in
    go (section lines) whole (staged lines order all.each)
  where
    go : (s : Option Heading) → end_refusal s (fault_at_end (events lines)) ≡ None → Stage lines s (closed_parts lines) (open_events lines) → Settled (with_section (closed_parts lines) s (open_events lines))
    go None is stage = cc is
    go (Some heading.Setup) is stage = cc is
    go (Some (heading.Stream t)) is stage = cc is
    go (Some heading.Teardown) is stage = record { idle = stage.idle; pairs = stage.pairs }

-- ---- the streams' threads

abbrev section_threads : Option Heading → List ℕ
section_threads None = []
section_threads (Some h) = heading_threads h

with_threads : (file : FileParts) (s : Option Heading) (latest : List TraceEvent) → map (λ (x : StreamPart). x.thread) (with_section file s latest).streams ≡ map (λ (x : StreamPart). x.thread) file.streams ++ section_threads s
with_threads file None latest = sym (append-nil (map (λ (x : StreamPart). x.thread) file.streams))
with_threads file (Some heading.Setup) latest = sym (append-nil (map (λ (x : StreamPart). x.thread) file.streams))
with_threads file (Some (heading.Stream t)) latest = map-append (λ (x : StreamPart). x.thread) file.streams (record { thread = t; events = latest } ∷ [])
with_threads file (Some heading.Teardown) latest = sym (append-nil (map (λ (x : StreamPart). x.thread) file.streams))

pub threads_are : (lines : List FileLine) → map (λ (x : StreamPart). x.thread) (parts lines).streams ≡ stream_threads lines
threads_are [] = refl
threads_are (HeadingLine h ∷ lines) = with_threads (parts lines) (Some h) [] ∙ ap (λ (ts : List ℕ). ts ++ heading_threads h) (threads_are lines)
threads_are (EventLine e ∷ lines) =
    with_threads (closed_parts lines) (section lines) (open_events lines ++ e ∷ []) ∙ (sym (with_threads (closed_parts lines) (section lines) (open_events lines)) ∙ threads_are lines)

-- ---- how many events there are

pub setup_and_streams : (file : FileParts) → length file.setup + events_in file.streams ≤ length (all_events file)
setup_and_streams file =
    let outer : length (all_events file) ≡ length file.setup + length (flat_map (λ (s : StreamPart). s.events) file.streams ++ file.teardown) =
    length-append file.setup (flat_map (λ (s : StreamPart). s.events) file.streams ++ file.teardown) in
    let inner : length (flat_map (λ (s : StreamPart). s.events) file.streams ++ file.teardown) ≡ events_in file.streams + length file.teardown = length-append (flat_map (λ (s : StreamPart). s.events) file.streams) file.teardown in
    omega (arith, outer, inner)

pub begun_few : (before : List TraceEvent) → calls_begun before ≤ length before
begun_few [] = omega arith
begun_few (Begin b ∷ before) = let few = begun_few before in omega (arith, few)
begun_few (Return thread ∷ before) = let few = begun_few before in omega (arith, few)
