-- Each step of a clock keeps its rule.
use Rattle.std.proofs.Common.{◌≡◌, ◌≢◌, ℕ, zero, suc, ◌+◌, ◌-◌, ◌%◌, ◌^◌, ◌<◌, ◌≤◌, List, [], ◌∷◌, ◌++◌, get_or, set, refl, sym, ap, ◌∙◌, subst, ⊎_elim, arith, length-set, get_or-set_same}
use Rattle.std.specs.List.{sum_by}
use Rattle.std.proofs.lemmas.List.Sums.{sum_by-cons, sum_by_push}
use mathlib.Core.Option.{none, some, some-injective, some-ne-none}
use lib.ListN.{get_elem?}
use Rattle.atomic_table.specs.Table.{Me, step, keeps, Allows, Splits, Joins}
use Rattle.atomic_table.proofs.Lists.{at_set, at_snoc}
use Rattle.stream_log.specs.declared.ticks.Ticks.{Ticks}
use Rattle.stream_log.specs.ClockRule.{ticks, left_of, IsBehind, IsClock, Drawn, kept_of, given_of, pooled}

sum_set : (vs : List Ticks) (id : ℕ) (v w : Ticks) → get_elem? vs id ≡ some v → sum_by left_of (set vs id w) + v.left ≡ sum_by left_of vs + w.left
sum_set [] id v w e = absurd (some-ne-none v (sym e))
sum_set (x ∷ xs) zero v w e = let is : x.left ≡ v.left = ap left_of (some-injective x v e) in omega (arith, sum_by-cons left_of w xs, sum_by-cons left_of x xs)
sum_set (x ∷ xs) (suc i) v w e = let r = sum_set xs i v w e in omega (arith, sum_by-cons left_of x (set xs i w), sum_by-cons left_of x xs)

behind_set : (n m : ℕ) (vs : List Ticks) (id : ℕ) (w : Ticks) → n ≤ m → w.seen ≤ m → IsBehind n vs → IsBehind m (set vs id w)
behind_set n m vs id w le mine others j u e =
    ⊎_elim
    (λ (t : (j ≡ id) × (w ≡ u)). subst (λ (z : Ticks). z.seen ≤ m) t.1 mine)
    (λ (t : (j ≢ id) × (get_elem? vs j ≡ some u)). let h = others j u t.1 in omega arith)
    (at_set vs id j w u e)

behind_snoc : (n : ℕ) (vs : List Ticks) (w : Ticks) → w.seen ≤ n → IsBehind n vs → IsBehind n (vs ++ w ∷ [])
behind_snoc n vs w mine others j u e =
    ⊎_elim (λ (was : get_elem? vs j ≡ some u). others j u was) (λ (same : w ≡ u). subst (λ (z : Ticks). z.seen ≤ n) same mine) (at_snoc vs w u j e)

pub draws : (slots id : ℕ) (me : Me (Unit {0}) Ticks) → 0 < me.0.left → Allows IsClock slots id me 0 (λ n. (n + 1) % 2 ^ 64) (Drawn (step slots 0 1 0 none) me)
draws slots id me rest s r _ at small =
    let n : ℕ = get_or s.words 0 0 in
    let v = me.0 in
    let w = ticks (v.left - 1) (n + 1) in
    let one = r.one_word in
    let total = r.balance in
    let sum = sum_set s.views id v w at in
    let mine : v.seen ≤ n = r.behind id v at in
    let fits : n + 1 < 18446744073709551616 = omega arith in
    let next : (n + 1) % 18446744073709551616 ≡ n + 1 = omega arith in
    let word : get_or (set s.words 0 ((n + 1) % 18446744073709551616)) 0 0 ≡ n + 1 = get_or-set_same s.words 0 ((n + 1) % 18446744073709551616) 0 (omega arith) ∙ next in (
      w,
      keeps,
      tt,
      record {
        one_word = length-set s.words 0 ((n + 1) % 18446744073709551616) ∙ one;
        balance = omega arith;
        behind = subst (λ (m : ℕ). IsBehind m (set s.views id w)) (sym word) (behind_set n (n + 1) s.views id w (omega arith) (omega arith) r.behind);
      },
      (refl, mine, fits),
    )

pub splits : (amount id : ℕ) (v : Ticks) → amount ≤ v.left → Splits IsClock id v (kept_of amount v) (given_of amount v)
splits amount id v fits s r at =
    let n : ℕ = get_or s.words 0 0 in
    let left = kept_of amount v in
    let right = given_of amount v in
    let total = r.balance in
    let sum = sum_set s.views id v left at in
    let more = sum_by_push left_of (set s.views id left) right in
    let mine : v.seen ≤ n = r.behind id v at in
    record {
      one_word = r.one_word;
      balance = omega arith;
      behind = behind_snoc n (set s.views id left) right mine (behind_set n n s.views id left (omega arith) mine r.behind);
    }

pub joins : (id : ℕ) (v : Ticks) (other : ℕ) (u : Ticks) → Joins IsClock id v other u (pooled v u) (ticks 0 0)
joins id v other u s r at apart there =
    let n : ℕ = get_or s.words 0 0 in
    let both = pooled v u in
    let total = r.balance in
    let sum = sum_set s.views id v both at in
    let sum' = sum_set (set s.views id both) other u (ticks 0 0) there in
    let mine : v.seen ≤ n = r.behind id v at in
    let theirs : u.seen ≤ n = ⊎_elim (λ (t : (other ≡ id) × (both ≡ u)). absurd (apart t.0)) (λ (t : (other ≢ id) × (get_elem? s.views other ≡ some u)). r.behind other u t.1) (at_set s.views id other both u there) in
    record {
      one_word = r.one_word;
      balance = omega arith;
      behind = behind_set n n (set s.views id both) other (ticks 0 0) (omega arith) (omega arith) (behind_set n n s.views id both (omega arith) (omega arith) r.behind);
    }
