-- Places of lists.
use Rattle.std.proofs.Common.{◌≡◌, ◌≤◌, ◌<◌, ◌==◌, ℕ, zero, suc, Bool, true, false, ◌||◌, Some, List, [], ◌∷◌, length, map, refl, ap, subst, arith}
use Rattle.std.specs.Prelude.{drop, slice_get, slice_set}
use Rattle.std.specs.List.{AllByRecursion, flat_map, list_any}
use Rattle.std.proofs.lemmas.Bool.{eq-eqb}
use Rattle.std.proofs.lemmas.List.{length-append}

-- what two are, that are one
pub one : {X : Type 0} (x y : X) → Some x ≡ Some y → x ≡ y
one x y e = cc e

-- what holds of all holds at a place
pub all_at : {X : Type 0} (P : X → Type 0) (xs : List X) (i : ℕ) (x : X) → AllByRecursion P xs → slice_get xs i ≡ Some x → P x
all_at P [] i x all at = cc at
all_at P (y ∷ xs) zero x all at = subst P (one y x at) all.0
all_at P (y ∷ xs) (suc i) x all at = all_at P xs i x all.1 at

pub all_set : {X : Type 0} (P : X → Type 0) (xs : List X) (i : ℕ) (x : X) → AllByRecursion P xs → P x → AllByRecursion P (slice_set xs i x)
all_set P [] i x all here = tt
all_set P (y ∷ xs) zero x all here = (here, all.1)
all_set P (y ∷ xs) (suc i) x all here = (all.0, all_set P xs i x all.1 here)

-- one of them is the one at a place
pub among : {X : Type 0} (f : X → ℕ) (xs : List X) (i : ℕ) (x : X) → slice_get xs i ≡ Some x → list_any (λ t. f x == t) (map f xs) ≡ true
among f [] i x at = cc at
among {X = X} f (y ∷ xs) zero x at = ap (λ (b : Bool). b || list_any (λ t. f x == t) (map f xs)) (subst (λ (z : X). (f z == f y) ≡ true) (one y x at) (eq-eqb (f y) (f y) refl))
among f (y ∷ xs) (suc i) x at = go (f x == f y) (among f xs i x at)
  where
    go : (b : Bool) → list_any (λ t. f x == t) (map f xs) ≡ true → (b || list_any (λ t. f x == t) (map f xs)) ≡ true
    go true rest = refl
    go false rest = rest

-- what is dropped up to a place begins with what stands there
pub drop_here : {X : Type 0} (xs : List X) (k : ℕ) (x : X) → slice_get xs k ≡ Some x → drop k xs ≡ x ∷ drop (suc k) xs
drop_here [] k x at = cc at
drop_here {X = X} (y ∷ xs) zero x at = ap (λ (z : X). z ∷ xs) (one y x at)
drop_here (y ∷ xs) (suc k) x at = drop_here xs k x at

pub within : {X : Type 0} (xs : List X) (k : ℕ) (x : X) → slice_get xs k ≡ Some x → k < length xs
within [] k x at = cc at
within (y ∷ xs) zero x at = omega arith
within (y ∷ xs) (suc k) x at = let rest = within xs k x at in omega (arith, rest)

-- a part of a list of lists is no longer than all
pub part_fits : {X Y : Type 0} (f : X → List Y) (xs : List X) (i : ℕ) (x : X) → slice_get xs i ≡ Some x → length (f x) ≤ length (flat_map f xs)
part_fits f [] i x at = cc at
part_fits f (y ∷ xs) zero x at =
    let all = length-append (f y) (flat_map f xs) in
    let same = ap (λ z. length (f z)) (one y x at) in
    omega (arith, all, same)
part_fits f (y ∷ xs) (suc i) x at =
    let all = length-append (f y) (flat_map f xs) in
    let rest = part_fits f xs i x at in
    omega (arith, all, rest)
