-- Turns that are all taken make a merge, and a merge's events are in turn.
use Rattle.std.proofs.Common.{◌≡◌, ◌∙◌, ◌==◌, ℕ, zero, suc, nat_eq, Bool, true, false, cond, ◌||◌, Option, Some, None, List, [], ◌∷◌, ◌++◌, length, take, refl, sym, ap, subst, arith, append-nil}
use Rattle.std.specs.Prelude.{filter, find, is_some, map, reverse, slice_get}
use Rattle.std.specs.List.{AllByRecursion, IsDistinct, list_any}
use Rattle.std.specs.Option.{option_map_or}
use Rattle.std.proofs.lemmas.Bool.{eq-eqb, eqb-true}
use Rattle.std.proofs.lemmas.List.{length-reverse, reverse-append, reverse-reverse, take_all}
use Rattle.std.proofs.lemmas.List.Elements.{filter-append, recursion_from_All}
use Rattle.std.proofs.lemmas.Map.Keys.{IsDistinct-head, IsDistinct-tail}
use Rattle.trace_format.specs.Content.{TraceEvent}
use Rattle.chain_model.proofs.Eventing.{all_append, all_found, all_map}
use Rattle.stream_model.specs.FileParts.{IsOfOneThread, StreamPart}
use Rattle.stream_model.specs.Order.{event_thread}
use Rattle.stream_model.specs.Plans.{Along, events_along, events_planned, next_turn, turns_of, with_event}
use Rattle.stream_model.proofs.Comings.{all_both}
use Rattle.merge_model.specs.Merges.{AreAllTaken, IsMerge, events_of_thread, has_stream}
use Rattle.merge_model.proofs.InTurn.{AreInTurn, begun_in_turn, in_turn_along, in_turn_events, turns_counted}

-- ---- lists

reverse_filter : {X : Type 0} (p : X → Bool) (xs : List X) → filter p (reverse xs) ≡ reverse (filter p xs)
reverse_filter p [] = refl
reverse_filter p (x ∷ xs) =
    ap (filter p) (reverse-append (x ∷ []) xs) ∙ (filter-append p (reverse xs) (x ∷ []) ∙ (ap (λ zs. zs ++ filter p (x ∷ [])) (reverse_filter p xs) ∙ go (p x)))
  where
    go : (u : Bool) → reverse (filter p xs) ++ cond u (x ∷ []) [] ≡ reverse (cond u (x ∷ filter p xs) (filter p xs))
    go true = sym (reverse-append (x ∷ []) (filter p xs))
    go false = append-nil (reverse (filter p xs))

reverse_map : {X Y : Type 0} (f : X → Y) (xs : List X) → map f (reverse xs) ≡ reverse (map f xs)
reverse_map f [] = refl
reverse_map f (x ∷ xs) =
    ap (map f) (reverse-append (x ∷ []) xs) ∙ (more (reverse xs) ∙ (ap (λ zs. zs ++ f x ∷ []) (reverse_map f xs) ∙ sym (reverse-append (f x ∷ []) (map f xs))))
  where
    more : (ys : List _) → map f (ys ++ x ∷ []) ≡ map f ys ++ f x ∷ []
    more [] = refl
    more (y ∷ ys) = ap (λ zs. f y ∷ zs) (more ys)

all_reverse : {X : Type 0} (P : X → Type 0) (xs : List X) → AllByRecursion P xs → AllByRecursion P (reverse xs)
all_reverse P [] ks = tt
all_reverse P (x ∷ xs) ks = subst (AllByRecursion P) (sym (reverse-append (x ∷ []) xs)) (all_append P (reverse xs) (x ∷ []) (all_reverse P xs ks.1) (ks.0, tt))

all_mapped : {X Y : Type 0} (P : Y → Type 0) (f : X → Y) (xs : List X) → AllByRecursion P (map f xs) → AllByRecursion (λ x. P (f x)) xs
all_mapped P f [] ks = tt
all_mapped P f (x ∷ xs) ks = (ks.0, all_mapped P f xs ks.1)

all_at : {X : Type 0} (P : X → Type 0) (xs : List X) (k : ℕ) (x : X) → AllByRecursion P xs → slice_get xs k ≡ Some x → P x
all_at P [] k x ks is = cc is
all_at P (y ∷ xs) zero x ks is = let one : y ≡ x = cc in subst P one ks.0
all_at P (y ∷ xs) (suc k) x ks is = all_at P xs k x ks.1 is

take_next : {X : Type 0} (xs : List X) (k : ℕ) (x : X) → slice_get xs k ≡ Some x → take (suc k) xs ≡ take k xs ++ x ∷ []
take_next [] k x is = cc is
take_next (y ∷ xs) zero x is = let one : y ≡ x = cc in ap (λ z. z ∷ []) one
take_next (y ∷ xs) (suc k) x is = ap (λ zs. y ∷ zs) (take_next xs k x is)

found_test : {X : Type 0} (p : X → Bool) (xs : List X) (x : X) → find p xs ≡ Some x → p x ≡ true
found_test p [] x is = cc is
found_test p (y ∷ xs) x is = go (p y) refl (found_test p xs x) is
  where
    go : (u : Bool) → p y ≡ u → (find p xs ≡ Some x → p x ≡ true) → cond u (Some y) (find p xs) ≡ Some x → p x ≡ true
    go true e rest h = let one : y ≡ x = cc in ap p (sym one) ∙ e
    go false e rest h = rest h

any_found : {X : Type 0} (p : X → Bool) (xs : List X) → list_any p xs ≡ is_some (find p xs)
any_found p [] = refl
any_found p (x ∷ xs) = go (p x) (any_found p xs)
  where
    go : (u : Bool) → list_any p xs ≡ is_some (find p xs) → (u || list_any p xs) ≡ is_some (cond u (Some x) (find p xs))
    go true rest = refl
    go false rest = rest

-- ---- what a thread has in the streams

-- a stream is of the thread
abbrev is_of : ℕ → StreamPart → Bool
is_of t s = s.thread == t

-- it is of the thread
owned : (streams : List StreamPart) (t : ℕ) → AllByRecursion IsOfOneThread streams → AllByRecursion (λ e. event_thread e ≡ t) (events_planned streams t)
owned streams t own = go (find (is_of t) streams) refl
  where
    go : (o : Option StreamPart) → find (is_of t) streams ≡ o → AllByRecursion (λ e. event_thread e ≡ t) (option_map_or (λ (s : StreamPart). s.events) o [])
    go None is = tt
    go (Some s) is =
        let thread : s.thread ≡ t = eqb-true s.thread t (found_test (is_of t) streams s is) in
        let one : IsOfOneThread s = all_found IsOfOneThread (is_of t) streams s own is in
        subst (λ u. AllByRecursion (λ e. event_thread e ≡ u) s.events) thread (recursion_from_All (λ e. event_thread e ≡ s.thread) s.events one)

-- where it is something, there is a stream
planned_there : (streams : List StreamPart) (t k : ℕ) (e : TraceEvent) → slice_get (events_planned streams t) k ≡ Some e → list_any (is_of t) streams ≡ true
planned_there streams t k e is = any_found (is_of t) streams ∙ go (find (is_of t) streams) is
  where
    go : (o : Option StreamPart) → slice_get (option_map_or (λ (s : StreamPart). s.events) o []) k ≡ Some e → is_some o ≡ true
    go None h = cc h
    go (Some s) h = refl

-- each stream is all that its thread has, where no two are of one thread
each_planned : (streams : List StreamPart) → IsDistinct nat_eq (map (λ (s : StreamPart). s.thread) streams) → AllByRecursion (λ (s : StreamPart). events_planned streams s.thread ≡ s.events) streams
each_planned [] apart = tt
each_planned (s ∷ streams) apart =
    let threads : List ℕ = map (λ (r : StreamPart). r.thread) streams in
    let others = all_mapped (λ u. nat_eq s.thread u ≡ false) (λ (r : StreamPart). r.thread) streams (IsDistinct-head nat_eq s.thread threads apart) in
    let rest = each_planned streams (IsDistinct-tail nat_eq s.thread threads apart) in (
      ap (λ u. option_map_or (λ (r : StreamPart). r.events) (cond u (Some s) (find (is_of s.thread) streams)) []) (eq-eqb s.thread s.thread refl),
      all_both (λ (r : StreamPart). nat_eq s.thread r.thread ≡ false) (λ (r : StreamPart). events_planned streams r.thread ≡ r.events) (λ (r : StreamPart). events_planned (s ∷ streams) r.thread ≡ r.events)
          (λ r other is. ap (λ u. option_map_or (λ (x : StreamPart). x.events) (cond u (Some s) (find (is_of r.thread) streams)) []) other ∙ is) streams others rest,
    )

-- ---- turns make a merge

-- a thread's events along turns
abbrev along_of : List StreamPart → ℕ → List ℕ → List TraceEvent
along_of streams t turns = events_of_thread t (events_along streams turns)

-- they are the first of what it has, as many as it had turns
pub took : (streams : List StreamPart) (t : ℕ) (turns : List ℕ) → AllByRecursion IsOfOneThread streams → Along streams turns
    → reverse (along_of streams t turns) ≡ take (turns_of t turns) (events_planned streams t)
took streams t [] own along = refl
took streams t (u ∷ before) own along = go (next_turn streams u before) refl along.0 (took streams t before own along.1)
  where
    turn : (e : TraceEvent) (v : Bool) → (u == t) ≡ v → next_turn streams u before ≡ Some e → reverse (along_of streams t before) ≡ take (turns_of t before) (events_planned streams t)
        → reverse (cond v (e ∷ along_of streams t before) (along_of streams t before)) ≡ take (length (cond v (u ∷ filter (λ x. x == t) before) (filter (λ x. x == t) before))) (events_planned streams t)
    turn e true same is rest =
        let next : next_turn streams t before ≡ Some e = subst (λ x. next_turn streams x before ≡ Some e) (eqb-true u t same) is in
        reverse-append (e ∷ []) (along_of streams t before) ∙ (ap (λ es. es ++ e ∷ []) rest ∙ sym (take_next (events_planned streams t) (turns_of t before) e next))
    turn e false other is rest = rest

    go : (o : Option TraceEvent) → next_turn streams u before ≡ o → is_some o ≡ true → reverse (along_of streams t before) ≡ take (turns_of t before) (events_planned streams t)
        → reverse (events_of_thread t (with_event o (events_along streams before))) ≡ take (turns_of t (u ∷ before)) (events_planned streams t)
    go None is there rest = cc there
    go (Some e) is there rest =
        let thread : event_thread e ≡ u = all_at (λ x. event_thread x ≡ u) (events_planned streams u) (turns_of u before) e (owned streams u own) is in
        ap (λ x. reverse (cond (x == t) (e ∷ along_of streams t before) (along_of streams t before))) thread ∙ turn e (u == t) refl is rest

-- each event along turns is of a stream
all_there : (streams : List StreamPart) (turns : List ℕ) → AllByRecursion IsOfOneThread streams → AllByRecursion (λ e. has_stream streams e ≡ true) (events_along streams turns)
all_there streams [] own = tt
all_there streams (u ∷ before) own = go (next_turn streams u before) refl (all_there streams before own)
  where
    go : (o : Option TraceEvent) → next_turn streams u before ≡ o → AllByRecursion (λ e. has_stream streams e ≡ true) (events_along streams before)
        → AllByRecursion (λ e. has_stream streams e ≡ true) (with_event o (events_along streams before))
    go None is rest = rest
    go (Some e) is rest =
        let thread : event_thread e ≡ u = all_at (λ x. event_thread x ≡ u) (events_planned streams u) (turns_of u before) e (owned streams u own) is in
        (ap (λ x. list_any (is_of x) streams) thread ∙ planned_there streams u (turns_of u before) e is, rest)

pub turns_merge : (streams : List StreamPart) (turns : List ℕ) → IsDistinct nat_eq (map (λ (s : StreamPart). s.thread) streams) → AllByRecursion IsOfOneThread streams → Along streams turns → AreAllTaken streams turns
    → IsMerge streams (reverse (events_along streams turns))
turns_merge streams turns apart own along taken = record {
  each = all_both (λ (s : StreamPart). events_planned streams s.thread ≡ s.events) (λ (s : StreamPart). turns_of s.thread turns ≡ length s.events)
      (λ (s : StreamPart). events_of_thread s.thread (reverse (events_along streams turns)) ≡ s.events) whole streams (each_planned streams apart) taken;
  others = all_reverse (λ e. has_stream streams e ≡ true) (events_along streams turns) (all_there streams turns own);
}
  where
    whole : (s : StreamPart) → events_planned streams s.thread ≡ s.events → turns_of s.thread turns ≡ length s.events → events_of_thread s.thread (reverse (events_along streams turns)) ≡ s.events
    whole s planned count =
        reverse_filter (λ e. event_thread e == s.thread) (events_along streams turns)
        ∙ (took streams s.thread turns own along ∙ (ap (take (turns_of s.thread turns)) planned ∙ (ap (λ k. take k s.events) count ∙ take_all (length s.events) s.events (omega arith))))

-- ---- a merge comes about by turns

none_there : (streams : List StreamPart) (t : ℕ) (es : List TraceEvent) → find (is_of t) streams ≡ None → AllByRecursion (λ e. has_stream streams e ≡ true) es → events_of_thread t es ≡ []
none_there streams t [] none there = refl
none_there streams t (e ∷ es) none there = go (event_thread e == t) refl (none_there streams t es none there.1)
  where
    go : (u : Bool) → (event_thread e == t) ≡ u → events_of_thread t es ≡ [] → cond u (e ∷ events_of_thread t es) (events_of_thread t es) ≡ []
    go true same rest =
        let has : list_any (is_of t) streams ≡ true = sym (ap (λ x. list_any (is_of x) streams) (eqb-true (event_thread e) t same)) ∙ there.0 in
        let not : list_any (is_of t) streams ≡ false = any_found (is_of t) streams ∙ ap is_some none in cc
    go false other rest = rest

-- what a thread has in the streams is what a merge has of it
merge_planned : (streams : List StreamPart) (merge : List TraceEvent) (t : ℕ) → IsMerge streams merge → events_planned streams t ≡ events_of_thread t merge
merge_planned streams merge t m = go (find (is_of t) streams) refl
  where
    go : (o : Option StreamPart) → find (is_of t) streams ≡ o → option_map_or (λ (s : StreamPart). s.events) o [] ≡ events_of_thread t merge
    go None is = sym (none_there streams t merge is m.others)
    go (Some s) is =
        let thread : s.thread ≡ t = eqb-true s.thread t (found_test (is_of t) streams s is) in
        sym (all_found (λ (r : StreamPart). events_of_thread r.thread merge ≡ r.events) (is_of t) streams s m.each is) ∙ ap (λ u. events_of_thread u merge) thread

merge_in_turn : (streams : List StreamPart) (merge : List TraceEvent) → IsMerge streams merge → AreInTurn streams (reverse merge)
merge_in_turn streams merge m = begun_in_turn streams (reverse merge) (record { rest = λ t. []; whole = whole })
  where
    whole : (t : ℕ) → events_planned streams t ≡ reverse (events_of_thread t (reverse merge)) ++ []
    whole t =
        let twice : reverse (events_of_thread t (reverse merge)) ≡ events_of_thread t merge =
        sym (reverse_filter (λ e. event_thread e == t) (reverse merge)) ∙ ap (events_of_thread t) (reverse-reverse merge) in
        merge_planned streams merge t m ∙ (sym twice ∙ sym (append-nil (reverse (events_of_thread t (reverse merge)))))

pub merge_along : (streams : List StreamPart) (merge : List TraceEvent) → IsMerge streams merge → Along streams (reverse (map event_thread merge))
merge_along streams merge m = subst (Along streams) (reverse_map event_thread merge) (in_turn_along streams (reverse merge) (merge_in_turn streams merge m))

pub merge_events : (streams : List StreamPart) (merge : List TraceEvent) → IsMerge streams merge → events_along streams (reverse (map event_thread merge)) ≡ reverse merge
merge_events streams merge m = sym (ap (events_along streams) (reverse_map event_thread merge)) ∙ in_turn_events streams (reverse merge) (merge_in_turn streams merge m)

pub merge_taken : (streams : List StreamPart) (merge : List TraceEvent) → IsMerge streams merge → AreAllTaken streams (reverse (map event_thread merge))
merge_taken streams merge m = all_map (λ (s : StreamPart). events_of_thread s.thread merge ≡ s.events) (λ (s : StreamPart). turns_of s.thread (reverse (map event_thread merge)) ≡ length s.events) count streams m.each
  where
    count : (s : StreamPart) → events_of_thread s.thread merge ≡ s.events → turns_of s.thread (reverse (map event_thread merge)) ≡ length s.events
    count s is =
        sym (ap (turns_of s.thread) (reverse_map event_thread merge))
        ∙ (turns_counted s.thread (reverse merge)
        ∙ (ap length (reverse_filter (λ e. event_thread e == s.thread) merge) ∙ (length-reverse (events_of_thread s.thread merge) ∙ ap length is)))
