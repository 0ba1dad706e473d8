-- No threads part has an open call of a thread that begins one.
use Rattle.std.proofs.Common.{◌≡◌, ◌==◌, ℕ, ◌+◌, Bool, true, false, not, cond, Option, Some, None, List, [], ◌∷◌, ◌++◌, map, refl, sym, ◌∙◌, ap, subst}
use Rattle.std.proofs.lemmas.Bool.{eqb-true}
use Rattle.std.proofs.lemmas.List.{append-nil, map-append}
use Rattle.std.specs.Prelude.{find}
use Rattle.std.specs.List.{filter}
use Rattle.command_tables.specs.Calls.{ReplyContent}
use Rattle.trace_format.specs.Content.{BeginEvent, TraceEvent, Begin, Return}
use Rattle.object_model.specs.declared.Object.{Object}
use Rattle.object_model.specs.History.{Begins, Birth, History, Returns, births}
use Rattle.object_model.specs.Renaming.{renamed}
use Rattle.object_model.specs.Uses.{InUse, in_use}
use Rattle.replay_model.specs.Setup.{Setup}
use Rattle.replay_model.specs.Past.{Opened, Past, Retrieval, call_of, history, is_of, objects_of, open_calls, retrievals}
use Rattle.replay_model.specs.ChainPlaces.{reaches, seen_past, stops_at}
use Rattle.replay_model.specs.Judged.{begun_of, judged, made_of, returned_by}
use Rattle.replay_model.specs.Direct.{valued}
use Rattle.replay_model.proofs.Accepted.{BeginsIdle}
use Rattle.replay_model.proofs.OpenCalls.{OneEach, found_thread, one-append, one-filter}
use Rattle.layer_model.specs.Walks.{PartState, Threads, Lifetimes, Unique}
use Rattle.chain_model.specs.Gaps.{IsGapped}
use Rattle.chain_model.specs.Chained.{StatesMirror}
use Rattle.chain_model.specs.Simulated.{first_of}
use Rattle.chain_model.specs.Tokens.{token_in}
use Rattle.chain_model.proofs.Coming.{begins_idle}
use Rattle.session_model.specs.Session.{SessionKept}
use Rattle.session_model.specs.Stands.{Stands}
use Rattle.session_model.specs.Steps.{NoneOpen}

-- ---- lists

keep_none : {X : Type 0} (p : X → Bool) (x : X) (xs : List X) → find p (x ∷ xs) ≡ None → (p x ≡ false) × (find p xs ≡ None)
keep_none {X = X} p x xs none = go (p x) none
  where
    go : (t : Bool) → cond t (Some x) (find p xs) ≡ None → (t ≡ false) × (find p xs ≡ None)
    go true n = cc n
    go false n = (refl, n)

find_none : {X : Type 0} (p : X → Bool) (x : X) (xs : List X) → p x ≡ false → find p xs ≡ None → find p (x ∷ xs) ≡ None
find_none p x xs fails none = ap (λ t. cond t (Some x) (find p xs)) fails ∙ none

-- two tests commute
filters_swap : {X : Type 0} (p q : X → Bool) (xs : List X) → filter p (filter q xs) ≡ filter q (filter p xs)
filters_swap p q [] = refl
filters_swap {X = X} p q (x ∷ xs) = go (p x) refl (q x) refl (filters_swap p q xs)
  where
    go : (t : Bool) → p x ≡ t → (u : Bool) → q x ≡ u → filter p (filter q xs) ≡ filter q (filter p xs) → filter p (cond u (x ∷ filter q xs) (filter q xs)) ≡ filter q (cond t (x ∷ filter p xs) (filter p xs))
    go true e true d ih = ap (λ v. cond v (x ∷ filter p (filter q xs)) (filter p (filter q xs))) e ∙ (ap (λ ys. x ∷ ys) ih ∙ sym (ap (λ v. cond v (x ∷ filter q (filter p xs)) (filter q (filter p xs))) d))
    go true e false d ih = ih ∙ sym (ap (λ v. cond v (x ∷ filter q (filter p xs)) (filter q (filter p xs))) d)
    go false e true d ih = ap (λ v. cond v (x ∷ filter p (filter q xs)) (filter p (filter q xs))) e ∙ ih
    go false e false d ih = ih

-- a test of what a function gives
map_kept : {X Y : Type 0} (f : X → Y) (p : Y → Bool) (xs : List X) → map f (filter (λ x. p (f x)) xs) ≡ filter p (map f xs)
map_kept f p [] = refl
map_kept f p (x ∷ xs) = go (p (f x)) (map_kept f p xs)
  where
    go : (t : Bool) → map f (filter (λ y. p (f y)) xs) ≡ filter p (map f xs) → map f (cond t (x ∷ filter (λ y. p (f y)) xs) (filter (λ y. p (f y)) xs)) ≡ cond t (f x ∷ filter p (map f xs)) (filter p (map f xs))
    go true ih = ap (λ ys. f x ∷ ys) ih
    go false ih = ih

filter_one_more : {X : Type 0} (p : X → Bool) (xs : List X) (x : X) → filter p (xs ++ x ∷ []) ≡ filter p xs ++ cond (p x) (x ∷ []) []
filter_one_more p [] x = refl
filter_one_more p (y ∷ xs) x = go (p y) (filter_one_more p xs x)
  where
    go : (t : Bool) → filter p (xs ++ x ∷ []) ≡ filter p xs ++ cond (p x) (x ∷ []) [] → cond t (y ∷ filter p (xs ++ x ∷ [])) (filter p (xs ++ x ∷ [])) ≡ cond t (y ∷ filter p xs) (filter p xs) ++ cond (p x) (x ∷ []) []
    go true ih = ap (λ ys. y ∷ ys) ih
    go false ih = ih

-- ---- open calls

pub one_each : (s : Setup) (events : List TraceEvent) → BeginsIdle s events → OneEach (open_calls (judged s events))
one_each s [] idle = tt
one_each s (Begin e ∷ before) idle = one-append (open_calls (judged s before)) (begun_of s (judged s before) e).opened (one_each s before idle.1) idle.0
one_each s (Return t ∷ before) idle = go (find (is_of t) (open_calls (judged s before))) (one_each s before idle)
  where
    go : (f : Option Opened) → OneEach (open_calls (judged s before)) → OneEach (open_calls (returned_by s (judged s before) f))
    go None one = one
    go (Some o) one = one-filter (λ c. not (is_of o.thread c)) (open_calls (judged s before)) one

-- the only call of a thread, where it fails the test, may be left out before
none_dropped : (t : ℕ) (os : List Opened) → find (is_of t) os ≡ None → filter (λ c. not (is_of t c)) os ≡ os
none_dropped t [] none = refl
none_dropped t (x ∷ os) none =
    let parts = keep_none (is_of t) x os none in
    ap (λ u. cond (not u) (x ∷ filter (λ c. not (is_of t c)) os) (filter (λ c. not (is_of t c)) os)) parts.0 ∙ ap (λ ys. x ∷ ys) (none_dropped t os parts.1)

failing_dropped : (t : ℕ) (p : Opened → Bool) (os : List Opened) (o : Opened) → OneEach os → find (is_of t) os ≡ Some o → p o ≡ false → filter p (filter (λ c. not (is_of t c)) os) ≡ filter p os
failing_dropped t p [] o one there fails = refl
failing_dropped t p (x ∷ os) o one there fails = go (is_of t x) refl there (λ g. failing_dropped t p os o one.1 g fails)
  where
    go : (u : Bool) → is_of t x ≡ u → cond u (Some x) (find (is_of t) os) ≡ Some o → (find (is_of t) os ≡ Some o → filter p (filter (λ c. not (is_of t c)) os) ≡ filter p os)
        → filter p (cond (not u) (x ∷ filter (λ c. not (is_of t c)) os) (filter (λ c. not (is_of t c)) os)) ≡ filter p (x ∷ os)
    go true e g ih =
        let is : x ≡ o = cc in
        let mine : x.thread ≡ t = eqb-true x.thread t e in
        ap (filter p) (none_dropped t os (subst (λ n. find (is_of n) os ≡ None) mine one.0)) ∙ sym (ap (λ v. cond v (x ∷ filter p os) (filter p os)) (ap p is ∙ fails))
    go false e g ih = ap (λ ys. cond (p x) (x ∷ ys) ys) (ih g)

-- ---- uses

-- the threads of the open calls that reach a place
abbrev threads_at : ℕ → List Opened → List ℕ
threads_at j os = map (λ o. o.thread) (filter (λ o. reaches o j) os)

threads_one_more : (j : ℕ) (os : List Opened) (o : Opened) → threads_at j (os ++ o ∷ []) ≡ threads_at j os ++ map (λ x. x.thread) (cond (reaches o j) (o ∷ []) [])
threads_one_more j os o =
    ap (map (λ (x : Opened). x.thread)) (filter_one_more (λ x. reaches x j) os o) ∙ map-append (λ (x : Opened). x.thread) (filter (λ x. reaches x j) os) (cond (reaches o j) (o ∷ []) [])

threads_left : (j t : ℕ) (os : List Opened) → filter (λ n. not (n == t)) (threads_at j os) ≡ threads_at j (filter (λ c. not (is_of t c)) os)
threads_left j t os =
    sym (map_kept (λ (x : Opened). x.thread) (λ n. not (n == t)) (filter (λ x. reaches x j) os)) ∙ ap (map (λ (x : Opened). x.thread)) (filters_swap (λ (x : Opened). not (x.thread == t)) (λ x. reaches x j) os)

-- the threads whose calls are in use at a place are those of the open calls that reach it
uses_are : (s : Setup) (f : Object → Object) (j : ℕ) (events : List TraceEvent) → BeginsIdle s events
    → map (λ (u : InUse). u.thread) (in_use (renamed f (seen_past (judged s events) j))) ≡ threads_at j (open_calls (judged s events))
uses_are s f j [] idle = refl
uses_are s f j (Begin e ∷ before) idle = go (reaches o j) refl (uses_are s f j before idle.1)
  where
    o : Opened
    o = (begun_of s (judged s before) e).opened

    os : List Opened
    os = open_calls (judged s before)

    go : (u : Bool) → reaches o j ≡ u → map (λ (x : InUse). x.thread) (in_use (renamed f (seen_past (judged s before) j))) ≡ threads_at j os
        → map (λ (x : InUse). x.thread) (in_use (renamed f (cond u (Begins (call_of o) (stops_at o j) ∷ seen_past (judged s before) j) (seen_past (judged s before) j)))) ≡ threads_at j (os ++ o ∷ [])
    go true r ih =
        map-append (λ (x : InUse). x.thread) (in_use (renamed f (seen_past (judged s before) j))) _
        ∙ (ap (λ ts. ts ++ o.thread ∷ []) ih ∙ sym (threads_one_more j os o ∙ ap (λ u. threads_at j os ++ map (λ (x : Opened). x.thread) (cond u (o ∷ []) [])) r))
    go false r ih = ih ∙ sym (threads_one_more j os o ∙ (ap (λ u. threads_at j os ++ map (λ (x : Opened). x.thread) (cond u (o ∷ []) [])) r ∙ append-nil (threads_at j os)))
uses_are s f j (Return t ∷ before) idle = at (find (is_of t) (open_calls (judged s before))) refl (uses_are s f j before idle)
  where
    os : List Opened
    os = open_calls (judged s before)

    at : (g : Option Opened) → find (is_of t) os ≡ g → map (λ (x : InUse). x.thread) (in_use (renamed f (seen_past (judged s before) j))) ≡ threads_at j os
        → map (λ (x : InUse). x.thread) (in_use (renamed f (seen_past (returned_by s (judged s before) g) j))) ≡ threads_at j (open_calls (returned_by s (judged s before) g))
    at None is ih = ih
    at (Some o) is ih = go (reaches o j) refl
      where
        mine : o.thread ≡ t
        mine = found_thread t os o is

        go : (u : Bool) → reaches o j ≡ u
            → map (λ (x : InUse). x.thread) (in_use (renamed f (cond u (Returns (call_of o) (objects_of (made_of s (judged s before) o)) ∷ seen_past (judged s before) j) (seen_past (judged s before) j)))) ≡ threads_at j (filter (λ c. not (is_of o.thread c)) os)
        go true r =
            map_kept (λ (x : InUse). x.thread) (λ n. not (n == o.thread)) (in_use (renamed f (seen_past (judged s before) j)))
            ∙ (ap (filter (λ n. not (n == o.thread))) ih ∙ threads_left j o.thread os)
        go false r =
            ih ∙ sym (ap (map (λ (x : Opened). x.thread)) (failing_dropped o.thread (λ x. reaches x j) os o (one_each s before idle) (subst (λ n. find (is_of n) os ≡ Some o) (sym mine) is) r))

-- ---- a thread without an open call

no_thread : (j t : ℕ) (os : List Opened) → find (is_of t) os ≡ None → find (λ n. n == t) (threads_at j os) ≡ None
no_thread j t [] none = refl
no_thread j t (x ∷ os) none =
    let parts = keep_none (is_of t) x os none in go (reaches x j) parts.0 (no_thread j t os parts.1)
  where
    go : (u : Bool) → is_of t x ≡ false → find (λ n. n == t) (threads_at j os) ≡ None → find (λ n. n == t) (map (λ (y : Opened). y.thread) (cond u (x ∷ filter (λ y. reaches y j) os) (filter (λ y. reaches y j) os))) ≡ None
    go true fails rest = find_none (λ n. n == t) x.thread (threads_at j os) fails rest
    go false fails rest = rest

no_use : (t : ℕ) (us : List InUse) → find (λ n. n == t) (map (λ (u : InUse). u.thread) us) ≡ None → find (λ (u : InUse). u.thread == t) us ≡ None
no_use t [] none = refl
no_use t (u ∷ us) none =
    let parts = keep_none (λ n. n == t) u.thread (map (λ (x : InUse). x.thread) us) none in find_none (λ (x : InUse). x.thread == t) u us parts.0 (no_use t us parts.1)

in_parts : (bs : List Birth) (rs : List Retrieval) (f : Object → ℕ) (seen : ℕ → History) (t : ℕ) → ((j : ℕ) → find (λ (u : InUse). u.thread == t) (in_use (renamed (token_in bs) (seen j))) ≡ None) → (k : ℕ) (states : List PartState) → StatesMirror bs rs f seen k states
    → NoneOpen t states
in_parts bs rs f seen t none k [] s = tt
in_parts bs rs f seen t none k (Threads m ∷ states) s = (ap (find (λ (u : InUse). u.thread == t)) s.0.opens ∙ none k, in_parts bs rs f seen t none (k + 1) states s.1)
in_parts bs rs f seen t none k (Lifetimes m ∷ states) s = in_parts bs rs f seen t none (k + 1) states s.1
in_parts bs rs f seen t none k (Unique m ∷ states) s = in_parts bs rs f seen t none (k + 1) states s.1

pub none_open_then : (s : Setup) (k : SessionKept) (events : List TraceEvent) (e : BeginEvent) (replies : List ReplyContent) → IsGapped (Begin e ∷ events) → Stands s k events replies → NoneOpen e.thread k.chain.states
none_open_then s k events e replies trace st =
    let past : Past = judged s events in
    let idle : BeginsIdle s (Begin e ∷ events) = begins_idle s (Begin e ∷ events) trace.each in
    in_parts (births (history past)) (retrievals past) (first_of (valued past replies)) (seen_past past) e.thread
    (λ j. no_use e.thread (in_use (renamed (token_in (births (history past))) (seen_past past j)))
    (ap (find (λ n. n == e.thread)) (uses_are s (token_in (births (history past))) j events idle.1) ∙ no_thread j e.thread (open_calls past) idle.0))
    1 k.chain.states st.simulates.chain.mirror
