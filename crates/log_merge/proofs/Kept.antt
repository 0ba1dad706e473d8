-- What a test keeps of a list, and what holds of each element.
use Rattle.std.proofs.Common.{◌≡◌, ℕ, ◌<◌, Bool, true, false, not, cond, List, [], ◌∷◌, ◌++◌, length, drop, get_or, refl, sym, ap, ◌∙◌, true≢false}
use Rattle.std.specs.Prelude.{filter}
use Rattle.std.specs.List.{AllByRecursion}
use Rattle.std.proofs.lemmas.List.{append-nil}
use Rattle.std.proofs.lemmas.List.Elements.{filter-append, All-from_recursion, recursion_from_All, All-get_or, All-drop}

pub weaker : {X : Type 0} (P Q : X → Type 0) → ((x : X) → P x → Q x) → (xs : List X) → AllByRecursion P xs → AllByRecursion Q xs
weaker P Q f [] h = h
weaker P Q f (x ∷ xs) h = (f x h.0, weaker P Q f xs h.1)

pub all_at : {X : Type 0} (P : X → Type 0) (xs : List X) (i : ℕ) (d : X) → i < length xs → AllByRecursion P xs → P (get_or xs i d)
all_at P xs i d lt h = All-get_or P xs i d lt (All-from_recursion P xs h)

pub all_drop : {X : Type 0} (P : X → Type 0) (i : ℕ) (xs : List X) → AllByRecursion P xs → AllByRecursion P (drop i xs)
all_drop P i xs h = recursion_from_All P (drop i xs) (All-drop P i xs (All-from_recursion P xs h))

-- what passes a test comes to what it keeps
pub kept : {X : Type 0} (p : X → Bool) (xs : List X) (x : X) → p x ≡ true → filter p (xs ++ x ∷ []) ≡ filter p xs ++ x ∷ []
kept p xs x is = filter-append p xs (x ∷ []) ∙ ap (λ (b : Bool). filter p xs ++ cond b (x ∷ []) []) is

-- what does not leaves it as it is
pub passed_over : {X : Type 0} (p : X → Bool) (xs : List X) (x : X) → p x ≡ false → filter p (xs ++ x ∷ []) ≡ filter p xs
passed_over p xs x is = filter-append p xs (x ∷ []) ∙ (ap (λ (b : Bool). filter p xs ++ cond b (x ∷ []) []) is ∙ append-nil (filter p xs))

pub filter_all : {X : Type 0} (p : X → Bool) (xs : List X) → AllByRecursion (λ x. p x ≡ true) xs → filter p xs ≡ xs
filter_all p [] h = refl
filter_all p (x ∷ xs) h = ap (λ (b : Bool). cond b (x ∷ filter p xs) (filter p xs)) h.0 ∙ ap (λ l. x ∷ l) (filter_all p xs h.1)

pub filter_none : {X : Type 0} (p : X → Bool) (xs : List X) → AllByRecursion (λ x. p x ≡ false) xs → filter p xs ≡ []
filter_none p [] h = refl
filter_none p (x ∷ xs) h = ap (λ (b : Bool). cond b (x ∷ filter p xs) (filter p xs)) h.0 ∙ filter_none p xs h.1

within_by : {X : Type 0} (P : X → Type 0) (b : Bool) (x : X) (ys : List X) → AllByRecursion P (cond b (x ∷ ys) ys) → AllByRecursion P ys
within_by P true x ys h = h.1
within_by P false x ys h = h

one_of : {X : Type 0} (P : X → Type 0) (b : Bool) (x : X) (ys zs : List X) → AllByRecursion P (cond b (x ∷ ys) ys) → AllByRecursion P (cond (not b) (x ∷ zs) zs) → P x
one_of P true x ys zs h k = h.0
one_of P false x ys zs h k = k.0

-- what holds of those that pass and of those that do not holds of all
pub both_kept : {X : Type 0} (P : X → Type 0) (p : X → Bool) (xs : List X) → AllByRecursion P (filter p xs) → AllByRecursion P (filter (λ x. not (p x)) xs) → AllByRecursion P xs
both_kept P p [] h k = tt
both_kept P p (x ∷ xs) h k = (
  one_of P (p x) x (filter p xs) (filter (λ y. not (p y)) xs) h k,
  both_kept P p xs (within_by P (p x) x (filter p xs) h) (within_by P (not (p x)) x (filter (λ y. not (p y)) xs) k),
)

twice_by : {X : Type 0} (q : X → Bool) (a b : Bool) (x : X) (ys zs : List X) → q x ≡ b → (b ≡ true → a ≡ true) → filter q ys ≡ zs → filter q (cond a (x ∷ ys) ys) ≡ cond b (x ∷ zs) zs
twice_by q true b x ys zs is f e = ap (λ (c : Bool). cond c (x ∷ filter q ys) (filter q ys)) is ∙ ap (λ l. cond b (x ∷ l) l) e
twice_by q false true x ys zs is f e = absurd (true≢false (sym (f refl)))
twice_by q false false x ys zs is f e = e

-- a test that another implies keeps all that the other does
pub filter_twice : {X : Type 0} (p q : X → Bool) → ((x : X) → q x ≡ true → p x ≡ true) → (xs : List X) → filter q (filter p xs) ≡ filter q xs
filter_twice p q f [] = refl
filter_twice p q f (x ∷ xs) = twice_by q (p x) (q x) x (filter p xs) (filter q xs) refl (f x) (filter_twice p q f xs)
