-- A merge of streams has the events of the streams: as many, with as many names, of each thread the same, and what holds of each of theirs holds of each of its.
use Rattle.std.proofs.Common.{◌≡◌, ◌∙◌, ◌==◌, ◌+◌, ℕ, nat_eq, Bool, true, false, not, cond, ◌||◌, List, [], ◌∷◌, ◌++◌, length, refl, sym, ap, subst, arith, append-nil}
use Rattle.std.specs.Prelude.{filter, map, reverse}
use Rattle.std.specs.List.{AllByRecursion, IsDistinct}
use Rattle.std.proofs.lemmas.Bool.{eq-eqb, eqb-true}
use Rattle.std.proofs.lemmas.List.{reverse-append}
use Rattle.std.proofs.lemmas.List.Elements.{filter-append}
use Rattle.std.proofs.lemmas.Map.Keys.{IsDistinct-head, IsDistinct-tail}
use Rattle.trace_format.specs.Accepting.{names_in}
use Rattle.trace_format.specs.Content.{TraceEvent, Begin, Return}
use Rattle.chain_model.proofs.Eventing.{all_append, all_map}
use Rattle.stream_model.specs.FileParts.{StreamPart}
use Rattle.stream_model.specs.Order.{event_thread}
use Rattle.stream_model.proofs.Comings.{all_both, differ_sym, ends_all}
use Rattle.stream_model.proofs.WholeTraces.{in_streams}
use Rattle.merge_model.specs.Merges.{IsMerge, events_of_thread, has_stream}
use Rattle.merge_model.proofs.Parting.{all_parted, all_unmapped, filter_every, filter_no, filter_within, starts_all}

-- no two of these streams are of one thread
abbrev pub AreApart : List StreamPart → Type 0
AreApart streams = IsDistinct nat_eq (map (λ (s : StreamPart). s.thread) streams)

-- a stream's events are its thread's
abbrev pub AreOwn : StreamPart → Type 0
AreOwn s = AllByRecursion (λ e. event_thread e ≡ s.thread) s.events

-- ---- a merge without one of its streams

abbrev rest_of : StreamPart → List TraceEvent → List TraceEvent
rest_of s merge = filter (λ e. not (event_thread e == s.thread)) merge

heads_differ : (s : StreamPart) (streams : List StreamPart) → AreApart (s ∷ streams) → AllByRecursion (λ (x : StreamPart). (s.thread == x.thread) ≡ false) streams
heads_differ s streams apart =
    all_unmapped (λ t. (s.thread == t) ≡ false) (λ (x : StreamPart). x.thread) streams (IsDistinct-head nat_eq s.thread (map (λ (x : StreamPart). x.thread) streams) apart)

tails_apart : (s : StreamPart) (streams : List StreamPart) → AreApart (s ∷ streams) → AreApart streams
tails_apart s streams apart = IsDistinct-tail nat_eq s.thread (map (λ (x : StreamPart). x.thread) streams) apart

-- an event of one thread is none of another
other_thread : (s t : ℕ) → (s == t) ≡ false → (e : TraceEvent) → (event_thread e == t) ≡ true → not (event_thread e == s) ≡ true
other_thread s t other e at = go (event_thread e == s) refl
  where
    go : (u : Bool) → (event_thread e == s) ≡ u → not u ≡ true
    go false is = refl
    go true is = let bad : (s == t) ≡ true = eq-eqb s t (sym (eqb-true (event_thread e) s is) ∙ eqb-true (event_thread e) t at) in cc

rest_others : (s : StreamPart) (streams : List StreamPart) (merge : List TraceEvent) → AllByRecursion (λ e. has_stream (s ∷ streams) e ≡ true) merge → AllByRecursion (λ e. has_stream streams e ≡ true) (rest_of s merge)
rest_others s streams [] all = tt
rest_others s streams (e ∷ merge) all = go (event_thread e == s.thread) refl (rest_others s streams merge all.1)
  where
    go : (u : Bool) → (event_thread e == s.thread) ≡ u → AllByRecursion (λ x. has_stream streams x ≡ true) (rest_of s merge)
        → AllByRecursion (λ x. has_stream streams x ≡ true) (cond (not u) (e ∷ rest_of s merge) (rest_of s merge))
    go true is rest = rest
    go false is rest = (sym (ap (λ v. v || has_stream streams e) (differ_sym (event_thread e) s.thread is)) ∙ all.0, rest)

merge_rest : (s : StreamPart) (streams : List StreamPart) (merge : List TraceEvent) → AreApart (s ∷ streams) → IsMerge (s ∷ streams) merge → IsMerge streams (rest_of s merge)
merge_rest s streams merge apart m = record {
  each = all_both (λ (x : StreamPart). (s.thread == x.thread) ≡ false) (λ (x : StreamPart). events_of_thread x.thread merge ≡ x.events) (λ (x : StreamPart). events_of_thread x.thread (rest_of s merge) ≡ x.events)
      (λ x other is. filter_within (λ e. event_thread e == x.thread) (λ e. not (event_thread e == s.thread)) (other_thread s.thread x.thread other) merge ∙ is) streams (heads_differ s streams apart) m.each.1;
  others = rest_others s streams merge m.others;
}

merge_none : (merge : List TraceEvent) → AllByRecursion (λ e. has_stream [] e ≡ true) merge → merge ≡ []
merge_none [] all = refl
merge_none (e ∷ merge) all = cc all.0

-- ---- sums over events

pub record IsSum (m : List TraceEvent → ℕ) : Type 0 where
  pub none : m [] ≡ 0
  pub more : (e : TraceEvent) (es : List TraceEvent) → m (e ∷ es) ≡ m (e ∷ []) + m es

pub names_sum : IsSum names_in
names_sum = record { none = refl; more = more }
  where
    more : (e : TraceEvent) (es : List TraceEvent) → names_in (e ∷ es) ≡ names_in (e ∷ []) + names_in es
    more (Begin b) es = omega arith
    more (Return t) es = omega arith

pub length_sum : IsSum (λ es. length es)
length_sum = record { none = refl; more = λ e es. omega arith }

module _ (m : List TraceEvent → ℕ) (sum : IsSum m) where
  pub sum_append : (xs ys : List TraceEvent) → m (xs ++ ys) ≡ m xs + m ys
  sum_append [] ys = let none = sum.none in omega (arith, none)
  sum_append (x ∷ xs) ys =
      let whole : m (x ∷ (xs ++ ys)) ≡ m (x ∷ []) + m (xs ++ ys) = sum.more x (xs ++ ys) in
      let first : m (x ∷ xs) ≡ m (x ∷ []) + m xs = sum.more x xs in let rest = sum_append xs ys in omega (arith, whole, first, rest)

  pub sum_reverse : (xs : List TraceEvent) → m (reverse xs) ≡ m xs
  sum_reverse [] = refl
  sum_reverse (x ∷ xs) =
      let turned : m (reverse (x ∷ xs)) ≡ m (reverse xs ++ x ∷ []) = ap m (reverse-append (x ∷ []) xs) in
      let both : m (reverse xs ++ x ∷ []) ≡ m (reverse xs) + m (x ∷ []) = sum_append (reverse xs) (x ∷ []) in
      let first : m (x ∷ xs) ≡ m (x ∷ []) + m xs = sum.more x xs in let rest : m (reverse xs) ≡ m xs = sum_reverse xs in omega (arith, turned, both, first, rest)

  sum_parted : (p : TraceEvent → Bool) (xs : List TraceEvent) → m xs ≡ m (filter p xs) + m (filter (λ x. not (p x)) xs)
  sum_parted p [] = let none = sum.none in omega (arith, none)
  sum_parted p (x ∷ xs) = go (p x) (sum_parted p xs)
    where
      go : (u : Bool) → m xs ≡ m (filter p xs) + m (filter (λ x. not (p x)) xs)
          → m (x ∷ xs) ≡ m (cond u (x ∷ filter p xs) (filter p xs)) + m (cond (not u) (x ∷ filter (λ x. not (p x)) xs) (filter (λ x. not (p x)) xs))
      go true rest =
          let first : m (x ∷ xs) ≡ m (x ∷ []) + m xs = sum.more x xs in
          let kept : m (x ∷ filter p xs) ≡ m (x ∷ []) + m (filter p xs) = sum.more x (filter p xs) in omega (arith, rest, first, kept)
      go false rest =
          let first : m (x ∷ xs) ≡ m (x ∷ []) + m xs = sum.more x xs in
          let kept : m (x ∷ filter (λ x. not (p x)) xs) ≡ m (x ∷ []) + m (filter (λ x. not (p x)) xs) = sum.more x (filter (λ x. not (p x)) xs) in omega (arith, rest, first, kept)

  pub merged_sum : (streams : List StreamPart) (merge : List TraceEvent) → AreApart streams → IsMerge streams merge → m merge ≡ m (in_streams streams)
  merged_sum [] merge apart k = ap m (merge_none merge k.others)
  merged_sum (s ∷ streams) merge apart k =
      let parted : m merge ≡ m (events_of_thread s.thread merge) + m (rest_of s merge) = sum_parted (λ e. event_thread e == s.thread) merge in
      let first : m (events_of_thread s.thread merge) ≡ m s.events = ap m k.each.0 in
      let rest : m (rest_of s merge) ≡ m (in_streams streams) = merged_sum streams (rest_of s merge) (tails_apart s streams apart) (merge_rest s streams merge apart k) in
      let both : m (s.events ++ in_streams streams) ≡ m s.events + m (in_streams streams) = sum_append s.events (in_streams streams) in
      let whole : m (in_streams (s ∷ streams)) ≡ m (s.events ++ in_streams streams) = refl in omega (arith, parted, first, rest, both, whole)

-- ---- each event

pub merged_all : (P : TraceEvent → Type 0) (streams : List StreamPart) (merge : List TraceEvent) → AreApart streams → IsMerge streams merge → AllByRecursion P (in_streams streams) → AllByRecursion P merge
merged_all P [] merge apart k all = subst (AllByRecursion P) (sym (merge_none merge k.others)) tt
merged_all P (s ∷ streams) merge apart k all =
    all_parted P (λ e. event_thread e == s.thread) merge (subst (AllByRecursion P) (sym k.each.0) (starts_all P s.events (in_streams streams) all))
    (merged_all P streams (rest_of s merge) (tails_apart s streams apart) (merge_rest s streams merge apart k) (ends_all P s.events (in_streams streams) all))

-- ---- the events of a thread

-- streams of other threads have none of a thread's events
none_there : (t : ℕ) (streams : List StreamPart) → AllByRecursion (λ (s : StreamPart). (t == s.thread) ≡ false) streams → AllByRecursion AreOwn streams → AllByRecursion (λ e. (event_thread e == t) ≡ false) (in_streams streams)
none_there t [] others own = tt
none_there t (s ∷ streams) others own =
    all_append (λ e. (event_thread e == t) ≡ false) s.events (in_streams streams)
    (all_map (λ e. event_thread e ≡ s.thread) (λ e. (event_thread e == t) ≡ false) (λ e at. ap (λ u. u == t) at ∙ differ_sym t s.thread others.0) s.events own.0) (none_there t streams others.1 own.1)

pub merged_threads : (streams : List StreamPart) (merge : List TraceEvent) → AreApart streams → AllByRecursion AreOwn streams → IsMerge streams merge
    → (t : ℕ) → events_of_thread t merge ≡ events_of_thread t (in_streams streams)
merged_threads [] merge apart own k t = ap (events_of_thread t) (merge_none merge k.others)
merged_threads (s ∷ streams) merge apart own k t =
    go (s.thread == t) refl (merged_threads streams (rest_of s merge) (tails_apart s streams apart) own.1 (merge_rest s streams merge apart k) t) ∙ sym (filter-append (λ e. event_thread e == t) s.events (in_streams streams))
  where
    go : (u : Bool) → (s.thread == t) ≡ u → events_of_thread t (rest_of s merge) ≡ events_of_thread t (in_streams streams) → events_of_thread t merge ≡ events_of_thread t s.events ++ events_of_thread t (in_streams streams)
    go true is rest =
        let same : s.thread ≡ t = eqb-true s.thread t is in
        let here : events_of_thread t merge ≡ s.events = sym (ap (λ u. events_of_thread u merge) same) ∙ k.each.0 in
        let own_here : events_of_thread t s.events ≡ s.events =
        filter_every (λ e. event_thread e == t) s.events (all_map (λ e. event_thread e ≡ s.thread) (λ e. (event_thread e == t) ≡ true) (λ e at. eq-eqb (event_thread e) t (at ∙ same)) s.events own.0) in
        let others : events_of_thread t (in_streams streams) ≡ [] =
        filter_no (λ e. event_thread e == t) (in_streams streams) (subst (λ u. AllByRecursion (λ e. (event_thread e == u) ≡ false) (in_streams streams)) same (none_there s.thread streams (heads_differ s streams apart) own.1)) in
        here ∙ (sym (append-nil s.events) ∙ (sym (ap (λ es. es ++ []) own_here) ∙ sym (ap (λ es. events_of_thread t s.events ++ es) others)))
    go false is rest =
        let own_none : events_of_thread t s.events ≡ [] =
        filter_no (λ e. event_thread e == t) s.events (all_map (λ e. event_thread e ≡ s.thread) (λ e. (event_thread e == t) ≡ false) (λ e at. ap (λ u. u == t) at ∙ is) s.events own.0) in
        sym (filter_within (λ e. event_thread e == t) (λ e. not (event_thread e == s.thread)) (other_thread s.thread t is) merge) ∙ (rest ∙ sym (ap (λ es. es ++ events_of_thread t (in_streams streams)) own_none))
