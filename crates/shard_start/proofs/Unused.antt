-- Where no call of a trace is open, no threads part of its chain has one.
use Rattle.std.proofs.Common.{◌≡◌, ◌∙◌, ◌==◌, ◌+◌, ℕ, Bool, true, false, not, cond, Option, Some, None, List, [], ◌∷◌, ◌++◌, refl, sym, ap, subst}
use Rattle.std.specs.Prelude.{filter, find, is_some}
use Rattle.std.specs.List.{list_any}
use Rattle.std.proofs.lemmas.Bool.{eq-eqb, eqb-true}
use Rattle.command_tables.specs.Calls.{ReplyContent}
use Rattle.trace_format.specs.Accepting.{open_threads}
use Rattle.trace_format.specs.Content.{TraceEvent, Begin, Return}
use Rattle.object_model.specs.declared.Object.{Object}
use Rattle.object_model.specs.History.{Begins, Birth, History, Returns, births}
use Rattle.object_model.specs.Renaming.{renamed}
use Rattle.object_model.specs.Uses.{InUse, in_use}
use Rattle.replay_model.specs.ChainPlaces.{reaches, seen_past, stops_at}
use Rattle.replay_model.specs.Direct.{valued}
use Rattle.replay_model.specs.Judged.{begun_of, judged, made_of, returned_by}
use Rattle.replay_model.specs.Past.{Opened, Past, Retrieval, call_of, history, is_of, objects_of, open_calls, retrievals}
use Rattle.replay_model.specs.Setup.{Setup}
use Rattle.replay_model.proofs.Accepted.{BeginsIdle, has_call, open-threads}
use Rattle.replay_model.proofs.OpenCalls.{found_thread}
use Rattle.layer_model.specs.Walks.{PartState, Threads, Lifetimes, Unique}
use Rattle.chain_model.specs.Chained.{StatesMirror}
use Rattle.chain_model.specs.Gaps.{IsGapped}
use Rattle.chain_model.specs.Simulated.{first_of}
use Rattle.chain_model.specs.Tokens.{token_in}
use Rattle.chain_model.proofs.Coming.{begins_idle}
use Rattle.session_model.specs.Session.{SessionKept}
use Rattle.session_model.specs.Stands.{Stands}
use Rattle.walk_bounds.specs.Bounds.{AllLight, AreLight}

-- ---- open calls

no_calls : (os : List Opened) → ((t : ℕ) → has_call t os ≡ false) → os ≡ []
no_calls [] none = refl
no_calls (o ∷ os) none =
    let there : has_call o.thread (o ∷ os) ≡ true = ap (λ (u : Bool). is_some (cond u (Some o) (find (is_of o.thread) os))) (eq-eqb o.thread o.thread refl) in
    let away : has_call o.thread (o ∷ os) ≡ false = none o.thread in cc

none_open : (s : Setup) (events : List TraceEvent) → open_threads events ≡ [] → open_calls (judged s events) ≡ []
none_open s events none = no_calls (open_calls (judged s events)) (λ t. open-threads s events t ∙ ap (list_any (λ x. x == t)) none)

-- ---- the one of a thread

find_last : {X : Type 0} (p : X → Bool) (xs : List X) (x : X) → find p xs ≡ None → find p (xs ++ x ∷ []) ≡ find p (x ∷ [])
find_last p [] x none = refl
find_last {X = X} p (y ∷ xs) x none = go (p y) none (find_last p xs x)
  where
    go : (u : Bool) → cond u (Some y) (find p xs) ≡ None → (find p xs ≡ None → find p (xs ++ x ∷ []) ≡ find p (x ∷ [])) → cond u (Some y) (find p (xs ++ x ∷ [])) ≡ find p (x ∷ [])
    go true n rest = cc n
    go false n rest = rest n

find_before : {X : Type 0} (p : X → Bool) (xs : List X) (x : X) → p x ≡ false → find p (xs ++ x ∷ []) ≡ find p xs
find_before p [] x fails = ap (λ (u : Bool). cond u (Some x) None) fails
find_before {X = X} p (y ∷ xs) x fails = ap (λ (f : Option X). cond (p y) (Some y) f) (find_before p xs x fails)

find_gone : {X : Type 0} (th : X → ℕ) (t : ℕ) (xs : List X) → find (λ x. th x == t) (filter (λ x. not (th x == t)) xs) ≡ None
find_gone th t [] = refl
find_gone {X = X} th t (x ∷ xs) = go (th x == t) refl (find_gone th t xs)
  where
    go : (u : Bool) → (th x == t) ≡ u → find (λ y. th y == t) (filter (λ y. not (th y == t)) xs) ≡ None
        → find (λ y. th y == t) (cond (not u) (x ∷ filter (λ y. not (th y == t)) xs) (filter (λ y. not (th y == t)) xs)) ≡ None
    go true e rest = rest
    go false e rest = ap (λ (v : Bool). cond v (Some x) (find (λ y. th y == t) (filter (λ y. not (th y == t)) xs))) e ∙ rest

find_kept : {X : Type 0} (th : X → ℕ) (t u : ℕ) (xs : List X) → (u == t) ≡ false → find (λ x. th x == t) (filter (λ x. not (th x == u)) xs) ≡ find (λ x. th x == t) xs
find_kept th t u [] apart = refl
find_kept {X = X} th t u (x ∷ xs) apart = go (th x == u) refl (find_kept th t u xs apart)
  where
    go : (v : Bool) → (th x == u) ≡ v → find (λ y. th y == t) (filter (λ y. not (th y == u)) xs) ≡ find (λ y. th y == t) xs
        → find (λ y. th y == t) (cond (not v) (x ∷ filter (λ y. not (th y == u)) xs) (filter (λ y. not (th y == u)) xs)) ≡ cond (th x == t) (Some x) (find (λ y. th y == t) xs)
    go true e rest =
        let away : (th x == t) ≡ false = subst (λ n. (n == t) ≡ false) (sym (eqb-true (th x) u e)) apart in
        rest ∙ sym (ap (λ (w : Bool). cond w (Some x) (find (λ y. th y == t) xs)) away)
    go false e rest = ap (λ (f : Option X). cond (th x == t) (Some x) f) rest

-- ---- uses

-- what a thread uses at a place
abbrev use_of : ℕ → List InUse → Option InUse
use_of t us = find (λ (u : InUse). u.thread == t) us

-- the call is there and reaches the place
abbrev is_there : ℕ → Option Opened → Bool
is_there j None = false
is_there j (Some o) = reaches o j

-- a thread uses something at a place just where its open call reaches that
abbrev Alike : ℕ → ℕ → List InUse → List Opened → Type 0
Alike j t us os = is_some (use_of t us) ≡ is_there j (find (is_of t) os)

no_use : (u : Option InUse) → is_some u ≡ false → u ≡ None
no_use None none = refl
no_use (Some u) none = cc none

-- a call begins
module _ (j t : ℕ) (us : List InUse) (os : List Opened) (o : Opened) (alike : Alike j t us os) where
  began_through : (x : InUse) → x.thread ≡ o.thread → find (is_of o.thread) os ≡ None → reaches o j ≡ true → Alike j t (us ++ x ∷ []) (os ++ o ∷ [])
  began_through x same none there = go (o.thread == t) refl
    where
      go : (v : Bool) → (o.thread == t) ≡ v → Alike j t (us ++ x ∷ []) (os ++ o ∷ [])
      go true e =
          let mine : o.thread ≡ t = eqb-true o.thread t e in
          let closed : find (is_of t) os ≡ None = subst (λ n. find (is_of n) os ≡ None) mine none in
          let unused : use_of t us ≡ None = no_use (use_of t us) (alike ∙ ap (is_there j) closed) in
          ap is_some (find_last (λ (u : InUse). u.thread == t) us x unused ∙ ap (λ (v : Bool). cond v (Some x) None) (eq-eqb x.thread t (same ∙ mine)))
          ∙ sym (ap (is_there j) (find_last (is_of t) os o closed ∙ ap (λ (v : Bool). cond v (Some o) None) e) ∙ there)
      go false e = ap is_some (find_before (λ (u : InUse). u.thread == t) us x (ap (λ n. n == t) same ∙ e)) ∙ (alike ∙ sym (ap (is_there j) (find_before (is_of t) os o e)))

  began_short : find (is_of o.thread) os ≡ None → reaches o j ≡ false → Alike j t us (os ++ o ∷ [])
  began_short none missed = go (o.thread == t) refl
    where
      go : (v : Bool) → (o.thread == t) ≡ v → Alike j t us (os ++ o ∷ [])
      go true e =
          let closed : find (is_of t) os ≡ None = subst (λ n. find (is_of n) os ≡ None) (eqb-true o.thread t e) none in
          (alike ∙ ap (is_there j) closed) ∙ sym (ap (is_there j) (find_last (is_of t) os o closed ∙ ap (λ (v : Bool). cond v (Some o) None) e) ∙ missed)
      go false e = alike ∙ sym (ap (is_there j) (find_before (is_of t) os o e))

  -- it returns
  gone : o.thread ≡ t → find (is_of t) (filter (λ c. not (is_of o.thread c)) os) ≡ None
  gone mine = subst (λ n. find (is_of t) (filter (λ c. not (is_of n c)) os) ≡ None) (sym mine) (find_gone (λ (c : Opened). c.thread) t os)

  returned_through : Alike j t (filter (λ c. not (c.thread == o.thread)) us) (filter (λ c. not (is_of o.thread c)) os)
  returned_through = go (o.thread == t) refl
    where
      go : (v : Bool) → (o.thread == t) ≡ v → Alike j t (filter (λ c. not (c.thread == o.thread)) us) (filter (λ c. not (is_of o.thread c)) os)
      go true e =
          let mine : o.thread ≡ t = eqb-true o.thread t e in
          let unused : use_of t (filter (λ c. not (c.thread == o.thread)) us) ≡ None = subst (λ n. use_of t (filter (λ c. not (c.thread == n)) us) ≡ None) (sym mine) (find_gone (λ (u : InUse). u.thread) t us) in
          ap is_some unused ∙ sym (ap (is_there j) (gone mine))
      go false e = ap is_some (find_kept (λ (u : InUse). u.thread) t o.thread us e) ∙ (alike ∙ sym (ap (is_there j) (find_kept (λ (c : Opened). c.thread) t o.thread os e)))

  returned_short : find (is_of o.thread) os ≡ Some o → reaches o j ≡ false → Alike j t us (filter (λ c. not (is_of o.thread c)) os)
  returned_short found missed = go (o.thread == t) refl
    where
      go : (v : Bool) → (o.thread == t) ≡ v → Alike j t us (filter (λ c. not (is_of o.thread c)) os)
      go true e =
          let mine : o.thread ≡ t = eqb-true o.thread t e in
          let there : find (is_of t) os ≡ Some o = subst (λ n. find (is_of n) os ≡ Some o) mine found in
          (alike ∙ (ap (is_there j) there ∙ missed)) ∙ sym (ap (is_there j) (gone mine))
      go false e = alike ∙ sym (ap (is_there j) (find_kept (λ (c : Opened). c.thread) t o.thread os e))

uses_alike : (s : Setup) (f : Object → Object) (j : ℕ) (events : List TraceEvent) (t : ℕ) → BeginsIdle s events → Alike j t (in_use (renamed f (seen_past (judged s events) j))) (open_calls (judged s events))
uses_alike s f j [] t idle = refl
uses_alike s f j (Begin e ∷ before) t idle = go (reaches o j) refl (uses_alike s f j before t idle.1)
  where
    o : Opened
    o = (begun_of s (judged s before) e).opened

    go : (u : Bool) → reaches o j ≡ u → Alike j t (in_use (renamed f (seen_past (judged s before) j))) (open_calls (judged s before))
        → Alike j t (in_use (renamed f (cond u (Begins (call_of o) (stops_at o j) ∷ seen_past (judged s before) j) (seen_past (judged s before) j)))) (open_calls (judged s before) ++ o ∷ [])
    go true r rest = began_through j t (in_use (renamed f (seen_past (judged s before) j))) (open_calls (judged s before)) o rest _ refl idle.0 r
    go false r rest = began_short j t (in_use (renamed f (seen_past (judged s before) j))) (open_calls (judged s before)) o rest idle.0 r
uses_alike s f j (Return u ∷ before) t idle = at (find (is_of u) (open_calls (judged s before))) refl (uses_alike s f j before t idle)
  where
    at : (g : Option Opened) → find (is_of u) (open_calls (judged s before)) ≡ g → Alike j t (in_use (renamed f (seen_past (judged s before) j))) (open_calls (judged s before))
        → Alike j t (in_use (renamed f (seen_past (returned_by s (judged s before) g) j))) (open_calls (returned_by s (judged s before) g))
    at None is rest = rest
    at (Some o) is rest = go (reaches o j) refl
      where
        mine : o.thread ≡ u
        mine = found_thread u (open_calls (judged s before)) o is

        go : (v : Bool) → reaches o j ≡ v
            → Alike j t (in_use (renamed f (cond v (Returns (call_of o) (objects_of (made_of s (judged s before) o)) ∷ seen_past (judged s before) j) (seen_past (judged s before) j)))) (filter (λ c. not (is_of o.thread c)) (open_calls (judged s before)))
        go true r = returned_through j t (in_use (renamed f (seen_past (judged s before) j))) (open_calls (judged s before)) o rest
        go false r =
            returned_short j t (in_use (renamed f (seen_past (judged s before) j))) (open_calls (judged s before)) o rest
            (subst (λ n. find (is_of n) (open_calls (judged s before)) ≡ Some o) (sym mine) is) r

no_uses : (us : List InUse) → ((t : ℕ) → is_some (use_of t us) ≡ false) → us ≡ []
no_uses [] none = refl
no_uses (u ∷ us) none =
    let there : is_some (use_of u.thread (u ∷ us)) ≡ true = ap (λ (v : Bool). is_some (cond v (Some u) (use_of u.thread us))) (eq-eqb u.thread u.thread refl) in
    let away : is_some (use_of u.thread (u ∷ us)) ≡ false = none u.thread in cc

-- ---- parts

light_parts : (bs : List Birth) (rs : List Retrieval) (f : Object → ℕ) (seen : ℕ → History) (n : ℕ) (threads : List ℕ) → ((j : ℕ) → in_use (renamed (token_in bs) (seen j)) ≡ []) → (k : ℕ) (states : List PartState)
    → StatesMirror bs rs f seen k states → AllLight n threads states
light_parts bs rs f seen n threads none k [] mirror = tt
light_parts bs rs f seen n threads none k (Threads m ∷ states) mirror =
    (subst (λ (us : List InUse). AreLight n threads us) (sym (mirror.0.opens ∙ none k)) tt, light_parts bs rs f seen n threads none (k + 1) states mirror.1)
light_parts bs rs f seen n threads none k (Lifetimes m ∷ states) mirror = light_parts bs rs f seen n threads none (k + 1) states mirror.1
light_parts bs rs f seen n threads none k (Unique m ∷ states) mirror = light_parts bs rs f seen n threads none (k + 1) states mirror.1

pub all_light : (s : Setup) (k : SessionKept) (events : List TraceEvent) (replies : List ReplyContent) (n : ℕ) (threads : List ℕ) → IsGapped events → open_threads events ≡ [] → Stands s k events replies
    → AllLight n threads k.chain.states
all_light s k events replies n threads trace none stands =
    let past : Past = judged s events in
    let calls : open_calls (judged s events) ≡ [] = none_open s events none in
    light_parts (births (history past)) (retrievals past) (first_of (valued past replies)) (seen_past past) n threads
    (λ j. no_uses (in_use (renamed (token_in (births (history past))) (seen_past past j)))
    (λ t. uses_alike s (token_in (births (history past))) j events t (begins_idle s events trace.each) ∙ ap (λ (os : List Opened). is_there j (find (is_of t) os)) calls))
    1 k.chain.states stands.simulates.chain.mirror
