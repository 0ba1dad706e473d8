-- In accepted events a thread that begins a call has none that is open.
use Rattle.std.proofs.Common.{◌≡◌, ◌==◌, ℕ, Bool, true, false, not, cond, ◌&&◌, ◌||◌, Option, Some, None, List, [], ◌∷◌, ◌++◌, refl, sym, ◌∙◌, ap, subst, ◌+◌}
use Rattle.std.specs.Prelude.{filter, find, is_some, ⊤}
use Rattle.std.specs.List.{list_any}
use Rattle.std.specs.Option.{is_none}
use Rattle.std.proofs.lemmas.Bool.Decides.{Decides-eqb}
use Rattle.trace_format.specs.Accepting.{open_threads, is_open, fault_after, are_accepted}
use Rattle.trace_format.specs.Accepting.{calls_begun}
use Rattle.trace_format.specs.Content.{TraceEvent, Begin, Return}
use Rattle.replay_model.specs.Setup.{Setup}
use Rattle.replay_model.specs.Past.{Opened, calls_in, is_of, open_calls}
use Rattle.replay_model.specs.Judged.{begun_of, returned_by, judged}
use Rattle.replay_model.proofs.OpenCalls.{not_of, found_thread}

-- at every begin the thread has no open call
abbrev pub BeginsIdle : Setup → List TraceEvent → Type 0
BeginsIdle s [] = ⊤
BeginsIdle s (Begin e ∷ before) = (find (is_of e.thread) (open_calls (judged s before)) ≡ None) × BeginsIdle s before
BeginsIdle s (Return thread ∷ before) = BeginsIdle s before

-- a thread has a call among these
abbrev pub has_call : ℕ → List Opened → Bool
has_call t os = is_some (find (is_of t) os)

-- one call more
has-append : (t : ℕ) (os : List Opened) (o : Opened) → has_call t (os ++ o ∷ []) ≡ (o.thread == t) || has_call t os
has-append t [] o = elim (o.thread == t) as (λ u. is_some (cond u (Some o) None) ≡ u || false) [ true ↦ refl | false ↦ refl ]
has-append t (h ∷ os) o = go (h.thread == t) (o.thread == t) (has-append t os o)
  where
    go : (u v : Bool) → has_call t (os ++ o ∷ []) ≡ v || has_call t os → is_some (cond u (Some h) (find (is_of t) (os ++ o ∷ []))) ≡ v || is_some (cond u (Some h) (find (is_of t) os))
    go true true ih = refl
    go true false ih = refl
    go false v ih = ih

-- the calls of other threads
has-filter : (t u : ℕ) (os : List Opened) → has_call t (filter (not_of u) os) ≡ not (t == u) && has_call t os
has-filter t u [] = elim (t == u) as (λ x. false ≡ not x && false) [ true ↦ refl | false ↦ refl ]
has-filter t u (h ∷ os) = go (h.thread == u) (h.thread == t) refl refl (has-filter t u os)
  where
    go : (x y : Bool) → h.thread == u ≡ x → h.thread == t ≡ y → has_call t (filter (not_of u) os) ≡ not (t == u) && has_call t os
        → is_some (find (is_of t) (cond (not (h.thread == u)) (h ∷ filter (not_of u) os) (filter (not_of u) os))) ≡ not (t == u) && is_some (cond (h.thread == t) (Some h) (find (is_of t) os))
    go true true e f ih =
        let k : t ≡ u = sym ((Decides-eqb h.thread t).0 f) ∙ (Decides-eqb h.thread u).0 e in
        let l : t == u ≡ true = (Decides-eqb t u).1 k in
        rw (e, f, l) (rw l at ih)
    go true false e f ih = rw (e, f) ih
    go false true e f ih =
        let l : t == u ≡ false = rw ((Decides-eqb h.thread t).0 f) at e in
        rw (e, f, l) refl
    go false false e f ih = rw (e, f) ih

-- the threads other than one
any-filter : (t u : ℕ) (ts : List ℕ) → list_any (λ x. x == t) (filter (λ x. not (x == u)) ts) ≡ not (t == u) && list_any (λ x. x == t) ts
any-filter t u [] = elim (t == u) as (λ x. false ≡ not x && false) [ true ↦ refl | false ↦ refl ]
any-filter t u (h ∷ ts) = go (h == u) (h == t) refl refl (any-filter t u ts)
  where
    go : (x y : Bool) → h == u ≡ x → h == t ≡ y → list_any (λ x. x == t) (filter (λ x. not (x == u)) ts) ≡ not (t == u) && list_any (λ x. x == t) ts
        → list_any (λ x. x == t) (cond (not (h == u)) (h ∷ filter (λ x. not (x == u)) ts) (filter (λ x. not (x == u)) ts)) ≡ not (t == u) && ((h == t) || list_any (λ x. x == t) ts)
    go true true e f ih =
        let k : t ≡ u = sym ((Decides-eqb h t).0 f) ∙ (Decides-eqb h u).0 e in
        let l : t == u ≡ true = (Decides-eqb t u).1 k in
        rw (e, f, l) (rw l at ih)
    go true false e f ih = rw (e, f) ih
    go false true e f ih =
        let l : t == u ≡ false = rw ((Decides-eqb h t).0 f) at e in
        rw (e, f, l) refl
    go false false e f ih = rw (e, f) ih

-- without a call of this thread, leaving this thread out changes nothing
left_out : (t u : ℕ) (os : List Opened) → has_call u os ≡ false → has_call t os ≡ not (t == u) && has_call t os
left_out t u os n = go (t == u) refl
  where
    go : (x : Bool) → t == u ≡ x → has_call t os ≡ not (t == u) && has_call t os
    go true e = let k : t ≡ u = (Decides-eqb t u).0 e in rw e (subst (λ v. has_call v os ≡ false) (sym k) n)
    go false e = rw e refl

-- the threads of the open calls are the open threads
pub open-threads : (s : Setup) (events : List TraceEvent) (t : ℕ) → has_call t (open_calls (judged s events)) ≡ is_open t events
open-threads s [] t = refl
open-threads s (Begin e ∷ before) t = has-append t (open_calls (judged s before)) (begun_of s (judged s before) e).opened ∙ ap (λ x. (e.thread == t) || x) (open-threads s before t)
open-threads s (Return u ∷ before) t =
    go (find (is_of u) (open_calls (judged s before))) refl ∙ (ap (λ x. not (t == u) && x) (open-threads s before t) ∙ sym (any-filter t u (open_threads before)))
  where
    go : (c : Option Opened) → find (is_of u) (open_calls (judged s before)) ≡ c
        → has_call t (open_calls (returned_by s (judged s before) (find (is_of u) (open_calls (judged s before))))) ≡ not (t == u) && has_call t (open_calls (judged s before))
    go None f = rw f (left_out t u (open_calls (judged s before)) (ap is_some f))
    go (Some o) f =
        let k : o.thread ≡ u = found_thread u (open_calls (judged s before)) o f in
        rw f (has-filter t o.thread (open_calls (judged s before)) ∙ ap (λ v. not (t == v) && has_call t (open_calls (judged s before))) k)

-- a thread without an open call
no_call : (t : ℕ) (os : List Opened) → has_call t os ≡ false → find (is_of t) os ≡ None
no_call t os n = go (find (is_of t) os) refl
  where
    go : (c : Option Opened) → find (is_of t) os ≡ c → find (is_of t) os ≡ None
    go None f = f
    go (Some o) f = cc (rw f at n)

-- an accepted begin is of a thread without an open call
not_busy : (before : List TraceEvent) (e : _) → is_none (fault_after before (Begin e)) ≡ true → is_open e.thread before ≡ false
not_busy before e a = go (is_open e.thread before) refl
  where
    go : (x : Bool) → is_open e.thread before ≡ x → is_open e.thread before ≡ false
    go true f = cc (rw f at a)
    go false f = f

both : (x y : Bool) → x && y ≡ true → (x ≡ true) × (y ≡ true)
both true true e = (refl, refl)
both true false e = cc
both false y e = cc

-- so it is at every begin
pub begins-idle : (s : Setup) (events : List TraceEvent) → are_accepted events ≡ true → BeginsIdle s events
begins-idle s [] a = tt
begins-idle s (Begin e ∷ before) a =
    let k = both (are_accepted before) (is_none (fault_after before (Begin e))) a in
    (no_call e.thread (open_calls (judged s before)) (open-threads s before e.thread ∙ not_busy before e k.1), begins-idle s before k.0)
begins-idle s (Return t ∷ before) a = begins-idle s before (both (are_accepted before) (is_none (fault_after before (Return t))) a).0

-- as many calls are judged as have begun
pub calls-judged : (s : Setup) (events : List TraceEvent) → calls_in (judged s events) ≡ calls_begun events
calls-judged s [] = refl
calls-judged s (Begin e ∷ before) = ap (λ n. n + 1) (calls-judged s before)
calls-judged s (Return t ∷ before) = same_calls (find (is_of t) (open_calls (judged s before))) ∙ calls-judged s before
  where
    same_calls : (c : Option Opened) → calls_in (returned_by s (judged s before) c) ≡ calls_in (judged s before)
    same_calls None = refl
    same_calls (Some o) = refl
