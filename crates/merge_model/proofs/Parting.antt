-- Lists that a test parts in two.
use Rattle.std.proofs.Common.{◌≡◌, ◌∙◌, Bool, true, false, not, cond, List, [], ◌∷◌, ◌++◌, refl, sym, ap, subst, append-nil}
use Rattle.std.specs.Prelude.{All, filter, map, reverse}
use Rattle.std.specs.List.{AllByRecursion}
use Rattle.std.proofs.lemmas.List.{reverse-append}
use Rattle.std.proofs.lemmas.List.Elements.{All-head, All-tail, filter-append}
use Rattle.chain_model.proofs.Eventing.{all_append}

-- ---- what a test keeps

pub filter_every : {X : Type 0} (p : X → Bool) (xs : List X) → AllByRecursion (λ x. p x ≡ true) xs → filter p xs ≡ xs
filter_every p [] ks = refl
filter_every p (x ∷ xs) ks = ap (λ u. cond u (x ∷ filter p xs) (filter p xs)) ks.0 ∙ ap (λ zs. x ∷ zs) (filter_every p xs ks.1)

pub filter_no : {X : Type 0} (p : X → Bool) (xs : List X) → AllByRecursion (λ x. p x ≡ false) xs → filter p xs ≡ []
filter_no p [] ks = refl
filter_no p (x ∷ xs) ks = ap (λ u. cond u (x ∷ filter p xs) (filter p xs)) ks.0 ∙ filter_no p xs ks.1

pub filter_reverse : {X : Type 0} (p : X → Bool) (xs : List X) → filter p (reverse xs) ≡ reverse (filter p xs)
filter_reverse p [] = refl
filter_reverse p (x ∷ xs) =
    ap (filter p) (reverse-append (x ∷ []) xs) ∙ (filter-append p (reverse xs) (x ∷ []) ∙ (ap (λ zs. zs ++ filter p (x ∷ [])) (filter_reverse p xs) ∙ go (p x)))
  where
    go : (u : Bool) → reverse (filter p xs) ++ cond u (x ∷ []) [] ≡ reverse (cond u (x ∷ filter p xs) (filter p xs))
    go true = sym (reverse-append (x ∷ []) (filter p xs))
    go false = append-nil (reverse (filter p xs))

-- a test that keeps fewer than another
pub filter_within : {X : Type 0} (p q : X → Bool) → ((x : X) → p x ≡ true → q x ≡ true) → (xs : List X) → filter p (filter q xs) ≡ filter p xs
filter_within p q f [] = refl
filter_within p q f (x ∷ xs) = go (q x) (p x) refl refl (filter_within p q f xs)
  where
    go : (v u : Bool) → q x ≡ v → p x ≡ u → filter p (filter q xs) ≡ filter p xs → filter p (cond v (x ∷ filter q xs) (filter q xs)) ≡ cond u (x ∷ filter p xs) (filter p xs)
    go true u passed kept rest = ap (λ w. cond w (x ∷ filter p (filter q xs)) (filter p (filter q xs))) kept ∙ ap (λ zs. cond u (x ∷ zs) zs) rest
    go false true passed kept rest = let bad : q x ≡ true = f x kept in cc
    go false false passed kept rest = rest

-- ---- what holds of each

pub starts_all : {X : Type 0} (P : X → Type 0) (xs ys : List X) → AllByRecursion P (xs ++ ys) → AllByRecursion P xs
starts_all P [] ys ks = tt
starts_all P (x ∷ xs) ys ks = (ks.0, starts_all P xs ys ks.1)

pub all_parted : {X : Type 0} (P : X → Type 0) (p : X → Bool) (xs : List X) → AllByRecursion P (filter p xs) → AllByRecursion P (filter (λ x. not (p x)) xs) → AllByRecursion P xs
all_parted P p [] ks ls = tt
all_parted P p (x ∷ xs) ks ls = go (p x) ks ls (all_parted P p xs)
  where
    go : (u : Bool) → AllByRecursion P (cond u (x ∷ filter p xs) (filter p xs)) → AllByRecursion P (cond (not u) (x ∷ filter (λ x. not (p x)) xs) (filter (λ x. not (p x)) xs))
        → (AllByRecursion P (filter p xs) → AllByRecursion P (filter (λ x. not (p x)) xs) → AllByRecursion P xs) → AllByRecursion P (x ∷ xs)
    go true ms ns rest = (ms.0, rest ms.1 ns)
    go false ms ns rest = (ns.0, rest ms ns.1)

pub all_reverse : {X : Type 0} (P : X → Type 0) (xs : List X) → AllByRecursion P xs → AllByRecursion P (reverse xs)
all_reverse P [] ks = tt
all_reverse P (x ∷ xs) ks = subst (AllByRecursion P) (sym (reverse-append (x ∷ []) xs)) (all_append P (reverse xs) (x ∷ []) (all_reverse P xs ks.1) (ks.0, tt))

pub all_unmapped : {X Y : Type 0} (P : Y → Type 0) (f : X → Y) (xs : List X) → AllByRecursion P (map f xs) → AllByRecursion (λ x. P (f x)) xs
all_unmapped P f [] ks = tt
all_unmapped P f (x ∷ xs) ks = (ks.0, all_unmapped P f xs ks.1)

pub all_one_by_one : {X : Type 0} (P : X → Type 0) (xs : List X) → All P xs → AllByRecursion P xs
all_one_by_one P [] ks = tt
all_one_by_one P (x ∷ xs) ks = (All-head P x xs ks, all_one_by_one P xs (All-tail P x xs ks))
