-- Laws of lists of entries and of held threads, for this crate and for those above it.
use Rattle.std.proofs.Common.{◌≡◌, ◌≢◌, ◌⊎◌, ℕ, zero, suc, ◌<◌, Bool, true, false, true≢false, nat_eq, List, [], ◌∷◌, ◌++◌, refl, sym, ap, ◌∙◌, ⊎_elim, inl, inr, arith, append_assoc, eq-eqb, true-eqb}
use Rattle.std.specs.Prelude.{Contains, cond, not}
use Rattle.std.proofs.lemmas.List.Elements.{All-push, Contains-append_right}
use Rattle.stream_log.specs.declared.line.Line.{Line}
use Rattle.stream_log.specs.Log.{last_from, IsPast, RisesFrom, without}

-- the last time of a list is that of the entry that was added last
pub last_from-push : (n : ℕ) (es : List Line) (e : Line) → last_from n (es ++ e ∷ []) ≡ e.time
last_from-push n [] e = refl
last_from-push n (x ∷ xs) e = last_from-push x.time xs e

-- times still rise where the added entry is later than the last one
pub rises-push : (n : ℕ) (es : List Line) (e : Line) → RisesFrom n es → last_from n es < e.time → RisesFrom n (es ++ e ∷ [])
rises-push n [] e h lt = (lt, tt)
rises-push n (x ∷ xs) e h lt = (h.0, rises-push x.time xs e h.1 lt)

-- what a thread saw stays its past where an entry of another thread is added
pub past-push : (thread : ℕ) (seen list : List Line) (e : Line) → IsPast thread seen list → e.thread ≢ thread → IsPast thread seen (list ++ e ∷ [])
past-push thread seen list e h ne = (h.0 ++ e ∷ [], ap (λ (l : List Line). l ++ e ∷ []) h.1 ∙ append_assoc seen h.0 (e ∷ []), All-push (λ (x : Line). x.thread ≢ thread) h.0 e h.2 ne)

contains_cons : (x y : ℕ) (xs : List ℕ) → Contains (y ∷ xs) x → (y ≡ x) ⊎ Contains xs x
contains_cons x y xs (zero, lt, e) = inl e
contains_cons x y xs (suc k, lt, e) = inr (k, omega arith, e)

keeps_one : (thread y x : ℕ) (rest ys : List ℕ) (b : Bool) → nat_eq y thread ≡ b → Contains (cond (not b) (y ∷ rest) rest) x → (Contains rest x → Contains ys x × (x ≢ thread)) → Contains (y ∷ ys) x × (x ≢ thread)
keeps_one thread y x rest ys true e h go = let r = go h in (Contains-append_right (y ∷ []) ys x r.0, r.1)
keeps_one thread y x rest ys false e h go =
    ⊎_elim
    (λ (same : y ≡ x). ((0, omega arith, same), λ (is : x ≡ thread). true≢false (sym (eq-eqb y thread (same ∙ is)) ∙ e)))
    (λ (r : Contains rest x). let q = go r in (Contains-append_right (y ∷ []) ys x q.0, q.1))
    (contains_cons x y rest h)

-- a thread that is held after a token was given is another one that was held before
pub without_keeps : (thread : ℕ) (xs : List ℕ) (x : ℕ) → Contains (without thread xs) x → Contains xs x × (x ≢ thread)
without_keeps thread [] x h = absurd (let lt = h.1 in omega arith)
without_keeps thread (y ∷ ys) x h = keeps_one thread y x (without thread ys) ys (nat_eq y thread) refl h (λ r. without_keeps thread ys x r)

leaves_one : (thread y x : ℕ) (rest : List ℕ) (b : Bool) → nat_eq y thread ≡ b → x ≢ thread → (y ≡ x) ⊎ Contains rest x → Contains (cond (not b) (y ∷ rest) rest) x
leaves_one thread y x rest true e ne h = ⊎_elim (λ (same : y ≡ x). absurd (ne (sym same ∙ true-eqb y thread (sym e)))) (λ (r : Contains rest x). r) h
leaves_one thread y x rest false e ne h = ⊎_elim (λ (same : y ≡ x). (0, omega arith, same)) (λ (r : Contains rest x). Contains-append_right (y ∷ []) rest x r) h

-- each other thread is still held after a token was given
pub without_leaves : (thread : ℕ) (xs : List ℕ) (x : ℕ) → Contains xs x → x ≢ thread → Contains (without thread xs) x
without_leaves thread [] x h ne = absurd (let lt = h.1 in omega arith)
without_leaves thread (y ∷ ys) x h ne =
    leaves_one thread y x (without thread ys) (nat_eq y thread) refl ne
    (⊎_elim (λ (same : y ≡ x). inl same) (λ (r : Contains ys x). inr (without_leaves thread ys x r ne)) (contains_cons x y ys h))
