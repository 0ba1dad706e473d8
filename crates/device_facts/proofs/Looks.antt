-- What is found in lists, and in parts of them.
use Rattle.std.proofs.Common.{◌≡◌, ◌∙◌, ◌==◌, ℕ, zero, suc, Bool, true, false, cond, ◌||◌, Option, Some, None, List, [], ◌∷◌, ◌++◌, map, take, refl, sym, ap, subst}
use Rattle.std.specs.Prelude.{filter, find}
use Rattle.std.proofs.lemmas.Bool.{and_parts, eqb-true}
use Rattle.trace_format.specs.declared.event.Name.{Name}
use Rattle.trace_format.specs.Accepting.{same_name}
use Rattle.std.specs.List.{AllByRecursion, list_any}

-- ---- all of a list

pub all_of : {X : Type 0} (P : X → Type 0) → ((x : X) → P x) → (xs : List X) → AllByRecursion P xs
all_of P f [] = tt
all_of P f (x ∷ xs) = (f x, all_of P f xs)

pub all_to : {X : Type 0} (P Q : X → Type 0) → ((x : X) → P x → Q x) → (xs : List X) → AllByRecursion P xs → AllByRecursion Q xs
all_to P Q f [] ps = tt
all_to P Q f (x ∷ xs) ps = (f x ps.0, all_to P Q f xs ps.1)

pub all_both : {X : Type 0} (P Q R : X → Type 0) → ((x : X) → P x → Q x → R x) → (xs : List X) → AllByRecursion P xs → AllByRecursion Q xs → AllByRecursion R xs
all_both P Q R f [] ps qs = tt
all_both P Q R f (x ∷ xs) ps qs = (f x ps.0 qs.0, all_both P Q R f xs ps.1 qs.1)

pub all_join : {X : Type 0} (P : X → Type 0) (xs ys : List X) → AllByRecursion P xs → AllByRecursion P ys → AllByRecursion P (xs ++ ys)
all_join P [] ys ps qs = qs
all_join P (x ∷ xs) ys ps qs = (ps.0, all_join P xs ys ps.1 qs)

pub all_part : {X : Type 0} (P : X → Type 0) (p : X → Bool) (xs : List X) → AllByRecursion P xs → AllByRecursion P (filter p xs)
all_part P p [] ps = tt
all_part P p (x ∷ xs) ps = go (p x) (all_part P p xs ps.1)
  where
    go : (u : Bool) → AllByRecursion P (filter p xs) → AllByRecursion P (cond u (x ∷ filter p xs) (filter p xs))
    go true rest = (ps.0, rest)
    go false rest = rest

pub all_take : {X : Type 0} (P : X → Type 0) (k : ℕ) (xs : List X) → AllByRecursion P xs → AllByRecursion P (take k xs)
all_take P zero xs ps = tt
all_take P (suc k) [] ps = tt
all_take P (suc k) (x ∷ xs) ps = (ps.0, all_take P k xs ps.1)

pub all_mapped : {X : Type 0} {Y : Type 0} (P : X → Type 0) (Q : Y → Type 0) (f : X → Y) → ((x : X) → P x → Q (f x)) → (xs : List X) → AllByRecursion P xs → AllByRecursion Q (map f xs)
all_mapped P Q f g [] ps = tt
all_mapped P Q f g (x ∷ xs) ps = (g x ps.0, all_mapped P Q f g xs ps.1)

-- what is found is one of them, and passes the test
pub at_found : {X : Type 0} (P : X → Type 0) (p : X → Bool) (xs : List X) (x : X) → AllByRecursion P xs → find p xs ≡ Some x → P x × (p x ≡ true)
at_found P p [] x ps is = cc is
at_found P p (y ∷ xs) x ps is = go (p y) refl (at_found P p xs x ps.1) is
  where
    go : (u : Bool) → p y ≡ u → (find p xs ≡ Some x → P x × (p x ≡ true)) → cond u (Some y) (find p xs) ≡ Some x → P x × (p x ≡ true)
    go true e rest h = let one : y ≡ x = cc in (subst P one ps.0, ap p (sym one) ∙ e)
    go false e rest h = rest h

-- ---- what passes a test

-- nothing does
pub none_left : {X : Type 0} (p : X → Bool) (xs : List X) → AllByRecursion (λ x. p x ≡ false) xs → filter p xs ≡ []
none_left p [] all = refl
none_left p (x ∷ xs) all = ap (λ u. cond u (x ∷ filter p xs) (filter p xs)) all.0 ∙ none_left p xs all.1

pub none_found : {X : Type 0} (p : X → Bool) (xs : List X) → AllByRecursion (λ x. p x ≡ false) xs → find p xs ≡ None
none_found p [] all = refl
none_found p (x ∷ xs) all = ap (λ u. cond u (Some x) (find p xs)) all.0 ∙ none_found p xs all.1

-- two tests that agree
pub same_left : {X : Type 0} (p q : X → Bool) (xs : List X) → AllByRecursion (λ x. p x ≡ q x) xs → filter p xs ≡ filter q xs
same_left p q [] all = refl
same_left p q (x ∷ xs) all = ap (λ u. cond u (x ∷ filter p xs) (filter p xs)) all.0 ∙ ap (λ ys. cond (q x) (x ∷ ys) ys) (same_left p q xs all.1)

-- what passes a test passes a weaker one
pub find_part : {X : Type 0} (p q : X → Bool) → ((x : X) → p x ≡ true → q x ≡ true) → (xs : List X) → find p (filter q xs) ≡ find p xs
find_part p q weaker [] = refl
find_part p q weaker (x ∷ xs) = go (p x) (q x) refl refl (find_part p q weaker xs)
  where
    go : (u v : Bool) → p x ≡ u → q x ≡ v → find p (filter q xs) ≡ find p xs → find p (cond v (x ∷ filter q xs) (filter q xs)) ≡ cond u (Some x) (find p xs)
    go true true e f rest = ap (λ w. cond w (Some x) (find p (filter q xs))) e
    go true false e f rest = let bad : q x ≡ true = weaker x e in cc
    go false true e f rest = ap (λ w. cond w (Some x) (find p (filter q xs))) e ∙ rest
    go false false e f rest = rest

pub any_part : {X : Type 0} (p q : X → Bool) → ((x : X) → p x ≡ true → q x ≡ true) → (xs : List X) → list_any p (filter q xs) ≡ list_any p xs
any_part p q weaker [] = refl
any_part p q weaker (x ∷ xs) = go (p x) (q x) refl refl (any_part p q weaker xs)
  where
    go : (u v : Bool) → p x ≡ u → q x ≡ v → list_any p (filter q xs) ≡ list_any p xs → list_any p (cond v (x ∷ filter q xs) (filter q xs)) ≡ (u || list_any p xs)
    go true true e f rest = ap (λ w. w || list_any p (filter q xs)) e
    go true false e f rest = let bad : q x ≡ true = weaker x e in cc
    go false true e f rest = ap (λ w. w || list_any p (filter q xs)) e ∙ rest
    go false false e f rest = rest

-- ---- lists one behind the other

abbrev pub or_other : {X : Type 0} → Option X → Option X → Option X
or_other None y = y
or_other (Some x) y = Some x

pub find_joined : {X : Type 0} (p : X → Bool) (xs ys : List X) → find p (xs ++ ys) ≡ or_other (find p xs) (find p ys)
find_joined p [] ys = refl
find_joined p (x ∷ xs) ys = go (p x) (find_joined p xs ys)
  where
    go : (u : Bool) → find p (xs ++ ys) ≡ or_other (find p xs) (find p ys) → cond u (Some x) (find p (xs ++ ys)) ≡ or_other (cond u (Some x) (find p xs)) (find p ys)
    go true rest = refl
    go false rest = rest

pub or_nothing : {X : Type 0} (x : Option X) → or_other x None ≡ x
or_nothing None = refl
or_nothing (Some x) = refl

-- ---- names

pub name_is : (a b : Name) → same_name a b ≡ true → a ≡ b
name_is a b e =
    let parts = and_parts (a.thread == b.thread) (a.number == b.number) e in
    let thread : a.thread ≡ b.thread = eqb-true a.thread b.thread parts.0 in
    let number : a.number ≡ b.number = eqb-true a.number b.number parts.1 in
    ap (λ (x : ℕ). record { thread = x; number = a.number }) thread ∙ ap (λ (y : ℕ). record { thread = b.thread; number = y }) number

-- ---- functions that agree

pub any_alike : {X : Type 0} (p q : X → Bool) (xs : List X) → AllByRecursion (λ x. p x ≡ q x) xs → list_any p xs ≡ list_any q xs
any_alike p q [] all = refl
any_alike p q (x ∷ xs) all = ap (λ u. u || list_any p xs) all.0 ∙ ap (λ u. q x || u) (any_alike p q xs all.1)

pub mapped_alike : {X : Type 0} {Y : Type 0} (f g : X → Y) → ((x : X) → f x ≡ g x) → (xs : List X) → map f xs ≡ map g xs
mapped_alike f g same [] = refl
mapped_alike f g same (x ∷ xs) = ap (λ y. y ∷ map f xs) (same x) ∙ ap (λ ys. g x ∷ ys) (mapped_alike f g same xs)

pub any_none : {X : Type 0} (p : X → Bool) (xs : List X) → AllByRecursion (λ x. p x ≡ false) xs → list_any p xs ≡ false
any_none p [] all = refl
any_none p (x ∷ xs) all = ap (λ u. u || list_any p xs) all.0 ∙ any_none p xs all.1
