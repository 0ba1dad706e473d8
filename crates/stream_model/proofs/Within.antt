-- A stream file's limits, and its streams' threads.
use Rattle.std.proofs.Common.{◌≡◌, ◌+◌, ◌≤◌, ◌<◌, ◌==◌, ℕ, nat_eq, Bool, true, false, ◌&&◌, ◌||◌, not, Option, Some, None, List, [], ◌∷◌, ◌++◌, length, refl, sym, subst, arith, append-nil}
use Rattle.std.specs.Prelude.{⊤, All}
use Rattle.std.specs.List.{AllByRecursion, IsDistinct, list_any}
use Rattle.std.proofs.lemmas.Bool.{eqb-true, ltb-true}
use Rattle.std.proofs.lemmas.List.{length-append}
use Rattle.std.proofs.lemmas.List.Elements.{All-append, All-cons, All-nil}
use Rattle.std.proofs.lemmas.Map.Keys.{IsDistinct-cons, IsDistinct-head, IsDistinct-tail}
use Rattle.trace_format.specs.Accepting.{names_in}
use Rattle.trace_format.specs.Content.{TraceEvent}
use Rattle.stream_model.specs.declared.heading.Heading.{Heading}
use Rattle.stream_model.specs.declared.heading.Heading.TheVariants as heading
use Rattle.stream_model.specs.declared.limits.TheConstants.{MOST_DEVICES, MOST_EVENTS, MOST_NAMES, MOST_STREAMS}
use Rattle.stream_model.specs.FileLines.{FileLine, HeadingLine, EventLine}
use Rattle.stream_model.specs.FileParts.{AreInOrder, FileParts, IsOfOneThread, closed_parts, open_events, parts, with_section}
use Rattle.stream_model.specs.Order.{devices_named, event_thread, events, follows, heading_threads, is_in_order, is_new_stream, section, stream_threads, takes_thread}
use Rattle.stream_model.proofs.Orders.{heading_in_order, not_refused, within_limits}

-- ---- limits

pub names_within : (lines : List FileLine) → AreInOrder lines → names_in (events lines) ≤ MOST_NAMES
names_within [] order = omega arith
names_within (HeadingLine h ∷ lines) order = names_within lines order.0
names_within (EventLine e ∷ lines) order = (within_limits (names_in (e ∷ events lines)) (length (e ∷ events lines)) (length (devices_named (EventLine e ∷ lines))) (not_refused lines e order.1).limit).0

pub events_within : (lines : List FileLine) → AreInOrder lines → length (events lines) ≤ MOST_EVENTS
events_within [] order = omega arith
events_within (HeadingLine h ∷ lines) order = events_within lines order.0
events_within (EventLine e ∷ lines) order = (within_limits (names_in (e ∷ events lines)) (length (e ∷ events lines)) (length (devices_named (EventLine e ∷ lines))) (not_refused lines e order.1).limit).1

pub devices_within : (lines : List FileLine) → AreInOrder lines → length (devices_named lines) ≤ MOST_DEVICES
devices_within [] order = omega arith
devices_within (HeadingLine h ∷ lines) order = devices_within lines order.0
devices_within (EventLine e ∷ lines) order = (within_limits (names_in (e ∷ events lines)) (length (e ∷ events lines)) (length (devices_named (EventLine e ∷ lines))) (not_refused lines e order.1).limit).2

-- two tests in a row, and one or another
left_true : (a b : Bool) → a && b ≡ true → a ≡ true
left_true true b is = refl
left_true false b is = cc

right_true : (a b : Bool) → a && b ≡ true → b ≡ true
right_true true b is = is
right_true false b is = cc

left_false : (a b : Bool) → a || b ≡ false → a ≡ false
left_false true b is = cc
left_false false b is = refl

right_false : (a b : Bool) → a || b ≡ false → b ≡ false
right_false true b is = cc
right_false false b is = is

not_true : (b : Bool) → not b ≡ true → b ≡ false
not_true true is = cc
not_true false is = refl

-- ---- how many streams

heading_streams : (s : Option Heading) (ts : List ℕ) (h : Heading) → is_in_order s ts h ≡ true → length ts ≤ MOST_STREAMS → length (ts ++ heading_threads h) ≤ MOST_STREAMS
heading_streams s ts heading.Setup is few = subst (λ xs. length xs ≤ MOST_STREAMS) (sym (append-nil ts)) few
heading_streams s ts heading.Teardown is few = subst (λ xs. length xs ≤ MOST_STREAMS) (sym (append-nil ts)) few
heading_streams s ts (heading.Stream t) is few =
    let n : length (ts ++ t ∷ []) ≡ length ts + 1 = length-append ts (t ∷ []) in
    let less : length ts < MOST_STREAMS = ltb-true (length ts) MOST_STREAMS (left_true _ _ (right_true (follows s (heading.Stream t)) (is_new_stream ts t) is)) in
    omega (arith, n, less)

pub streams_within : (lines : List FileLine) → AreInOrder lines → length (stream_threads lines) ≤ MOST_STREAMS
streams_within [] order = omega arith
streams_within (HeadingLine h ∷ lines) order = heading_streams (section lines) (stream_threads lines) h (heading_in_order lines h order.1).0 (streams_within lines order.0)
streams_within (EventLine e ∷ lines) order = streams_within lines order.0

-- ---- their threads

differs_more : (x t : ℕ) (ts : List ℕ) → AllByRecursion (λ y. nat_eq x y ≡ false) ts → nat_eq x t ≡ false → AllByRecursion (λ y. nat_eq x y ≡ false) (ts ++ t ∷ [])
differs_more x t [] all is = (is, tt)
differs_more x t (y ∷ ts) all is = (all.0, differs_more x t ts all.1 is)

distinct_more : (ts : List ℕ) (t : ℕ) → IsDistinct nat_eq ts → list_any (λ u. u == t) ts ≡ false → IsDistinct nat_eq (ts ++ t ∷ [])
distinct_more [] t apart new = IsDistinct-cons nat_eq t [] tt apart
distinct_more (x ∷ ts) t apart new =
    IsDistinct-cons nat_eq x (ts ++ t ∷ [])
    (differs_more x t ts (IsDistinct-head nat_eq x ts apart) (left_false (nat_eq x t) (list_any (λ u. u == t) ts) new))
    (distinct_more ts t (IsDistinct-tail nat_eq x ts apart) (right_false (nat_eq x t) (list_any (λ u. u == t) ts) new))

heading_distinct : (s : Option Heading) (ts : List ℕ) (h : Heading) → is_in_order s ts h ≡ true → IsDistinct nat_eq ts → IsDistinct nat_eq (ts ++ heading_threads h)
heading_distinct s ts heading.Setup is apart = subst (IsDistinct nat_eq) (sym (append-nil ts)) apart
heading_distinct s ts heading.Teardown is apart = subst (IsDistinct nat_eq) (sym (append-nil ts)) apart
heading_distinct s ts (heading.Stream t) is apart = distinct_more ts t apart (not_true _ (right_true _ _ (right_true (follows s (heading.Stream t)) (is_new_stream ts t) is)))

none_distinct : IsDistinct nat_eq []
unfolding IsDistinct
none_distinct = tt

pub threads_distinct : (lines : List FileLine) → AreInOrder lines → IsDistinct nat_eq (stream_threads lines)
threads_distinct [] order = none_distinct
threads_distinct (HeadingLine h ∷ lines) order = heading_distinct (section lines) (stream_threads lines) h (heading_in_order lines h order.1).0 (threads_distinct lines order.0)
threads_distinct (EventLine e ∷ lines) order = threads_distinct lines order.0

-- ---- their events

-- the events behind the last heading are of its thread, where it is a stream's
abbrev AreOwn : Option Heading → List TraceEvent → Type 0
AreOwn None latest = ⊤
AreOwn (Some heading.Setup) latest = ⊤
AreOwn (Some (heading.Stream t)) latest = All (λ e. event_thread e ≡ t) latest
AreOwn (Some heading.Teardown) latest = ⊤

-- each stream so far is of its thread
record Owned (s : Option Heading) (file : FileParts) (latest : List TraceEvent) : Type 0 where
  pub streams : All IsOfOneThread file.streams
  pub own : AreOwn s latest

streams_owned : (s : Option Heading) (file : FileParts) (latest : List TraceEvent) → Owned s file latest → All IsOfOneThread (with_section file s latest).streams
streams_owned None file latest owned = owned.streams
streams_owned (Some heading.Setup) file latest owned = owned.streams
streams_owned (Some heading.Teardown) file latest owned = owned.streams
streams_owned (Some (heading.Stream t)) file latest owned =
    All-append IsOfOneThread file.streams (record { thread = t; events = latest } ∷ []) owned.streams (All-cons IsOfOneThread (record { thread = t; events = latest }) [] owned.own (All-nil IsOfOneThread))

own_none : (h : Heading) → AreOwn (Some h) []
own_none heading.Setup = tt
own_none (heading.Stream t) = All-nil (λ (e : TraceEvent). event_thread e ≡ t)
own_none heading.Teardown = tt

own_more : (s : Option Heading) (latest : List TraceEvent) (e : TraceEvent) → takes_thread s (event_thread e) ≡ true → AreOwn s latest → AreOwn s (latest ++ e ∷ [])
own_more None latest e takes own = tt
own_more (Some heading.Setup) latest e takes own = tt
own_more (Some (heading.Stream t)) latest e takes own =
    All-append (λ (x : TraceEvent). event_thread x ≡ t) latest (e ∷ []) own (All-cons (λ (x : TraceEvent). event_thread x ≡ t) e [] (sym (eqb-true t (event_thread e) takes)) (All-nil (λ (x : TraceEvent). event_thread x ≡ t)))
own_more (Some heading.Teardown) latest e takes own = tt

lines_owned : (lines : List FileLine) → AreInOrder lines → Owned (section lines) (closed_parts lines) (open_events lines)
lines_owned [] order = record { streams = All-nil IsOfOneThread; own = tt }
lines_owned (HeadingLine h ∷ lines) order = record { streams = streams_owned (section lines) (closed_parts lines) (open_events lines) (lines_owned lines order.0); own = own_none h }
lines_owned (EventLine e ∷ lines) order =
    let before = lines_owned lines order.0 in
    record { streams = before.streams; own = own_more (section lines) (open_events lines) e (not_refused lines e order.1).thread before.own }

pub of_one_thread : (lines : List FileLine) → AreInOrder lines → All IsOfOneThread (parts lines).streams
of_one_thread lines order = streams_owned (section lines) (closed_parts lines) (open_events lines) (lines_owned lines order)
