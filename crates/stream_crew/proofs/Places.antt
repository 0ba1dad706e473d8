-- What stands at a place of a list, and what is left of a list that is taken from its end.
use Rattle.std.proofs.Common.{◌≡◌, ◌≤◌, ◌<◌, ◌+◌, ◌-◌, ◌*◌, ℕ, zero, suc, Some, List, [], ◌∷◌, ◌++◌, length, map, drop, reverse, refl, sym, ◌∙◌, ap, subst, arith, add-one}
use Rattle.std.specs.Prelude.{Vec, slice_get}
use Rattle.std.specs.List.{AllByRecursion, sum_by}
use Rattle.std.proofs.lemmas.List.{length-drop, length-reverse}
use Rattle.std.proofs.lemmas.List.Sums.{sum_by-cons}
use Rattle.device_shard.proofs.Lists.{drop_here, one}
use Rattle.stream_crew.proofs.Dealt.{last_next}

-- ---- by places

-- what holds at each place of a list, and of one more, holds at each place then
pub at_pushed : {X : Type 0} (Q : ℕ → X → Type 0) (xs : List X) (x : X) → ((k : ℕ) (y : X) → slice_get xs k ≡ Some y → Q k y) → Q (length xs) x → (k : ℕ) (y : X) → slice_get (xs ++ x ∷ []) k ≡ Some y → Q k y
at_pushed Q [] x all here zero y at = subst (Q 0) (one x y at) here
at_pushed Q [] x all here (suc k) y at = cc at
at_pushed Q (z ∷ xs) x all here zero y at = all zero y at
at_pushed Q (z ∷ xs) x all here (suc k) y at = at_pushed (λ (n : ℕ) w. Q (suc n) w) xs x (λ n w. all (suc n) w) here k y at

pub at_more : {X : Type 0} (Q : ℕ → X → Type 0) (xs ys : List X) (x : X) (n : ℕ) → ys ≡ xs ++ x ∷ [] → length xs ≡ n → ((k : ℕ) (y : X) → slice_get xs k ≡ Some y → Q k y) → Q n x → (k : ℕ) (y : X) → slice_get ys k ≡ Some y → Q k y
at_more Q xs ys x n is count all here = λ k y at. at_pushed Q xs x all (subst (λ (m : ℕ). Q m x) (sym count) here) k y (ap (λ zs. slice_get zs k) (sym is) ∙ at)

-- what holds at each place holds of all
pub all_by : {X : Type 0} (P : X → Type 0) (xs : List X) → ((k : ℕ) (x : X) → slice_get xs k ≡ Some x → P x) → AllByRecursion P xs
all_by P [] all = tt
all_by P (x ∷ xs) all = (all zero x refl, all_by P xs (λ k y. all (suc k) y))

-- what is seen of a list is another, if it is so at each place
pub map_by : {X Y : Type 0} (f : X → Y) (xs : List X) (ys : List Y) → length xs ≡ length ys → ((k : ℕ) (x : X) → slice_get xs k ≡ Some x → slice_get ys k ≡ Some (f x)) → map f xs ≡ ys
map_by f [] [] count all = refl
map_by f [] (y ∷ ys) count all = absurd (omega (arith, count))
map_by f (x ∷ xs) [] count all = absurd (omega (arith, count))
map_by {Y = Y} f (x ∷ xs) (y ∷ ys) count all =
    ap (λ (z : Y). z ∷ map f xs) (sym (one y (f x) (all zero x refl))) ∙ ap (λ (zs : List Y). y ∷ zs) (map_by f xs ys (omega (arith, count)) (λ k z. all (suc k) z))

-- ---- what is left

-- what is taken next stands at the place
pub record TakenAt {X : Type 0} (all new : List X) (i : ℕ) (x : X) : Type 0 where
  pub at : slice_get all i ≡ Some x
  pub left : reverse new ≡ drop (i + 1) all

first_left : {X : Type 0} (all new : List X) (i : ℕ) (x : X) → x ∷ reverse new ≡ drop i all → TakenAt all new i x
first_left [] new zero x is = cc is
first_left [] new (suc i) x is = cc is
first_left (y ∷ all) new zero x is = record { at = cc is; left = cc is }
first_left (y ∷ all) new (suc i) x is = let rest = first_left all new i x is in record { at = rest.at; left = rest.left ∙ (ap (λ (n : ℕ). drop n all) (add-one i) ∙ sym (ap (λ (n : ℕ). drop n (y ∷ all)) (add-one (suc i)))) }

pub taken_at : {X : Type 0} (all old new : List X) (i : ℕ) (x : X) → old ≡ new ++ x ∷ [] → reverse old ≡ drop i all → TakenAt all new i x
taken_at all old new i x is so_far = first_left all new i x (sym (last_next old new x is) ∙ so_far)

pub some_left : {X : Type 0} (all old : List X) (i : ℕ) → reverse old ≡ drop i all → i < length all → 0 < length old
some_left all old i so_far less =
    let left : length (reverse old) ≡ length (drop i all) = ap (λ xs. length xs) so_far in
    omega (arith, left, length-reverse old, length-drop i all, less)

-- ---- draws

pub draws_first : {A : Type 0} (all : List (Vec ℕ A)) (i : ℕ) (own : Vec ℕ A) (left : ℕ) → slice_get all i ≡ Some own → sum_by (λ (p : Vec ℕ A). 2 * length p.items) (drop i all) ≤ left → length own.items + length own.items ≤ left
draws_first {A} all i own left at enough =
    let draws : Vec ℕ A → ℕ = λ (p : Vec ℕ A). 2 * length p.items in
    let step : sum_by draws (drop i all) ≡ 2 * length own.items + sum_by draws (drop (suc i) all) = ap (sum_by draws) (drop_here all i own at) ∙ sum_by-cons draws own (drop (suc i) all) in
    omega (arith, step, enough)

pub draws_left : {A : Type 0} (all : List (Vec ℕ A)) (i : ℕ) (own : Vec ℕ A) (left : ℕ) → slice_get all i ≡ Some own → sum_by (λ (p : Vec ℕ A). 2 * length p.items) (drop i all) ≤ left
    → sum_by (λ (p : Vec ℕ A). 2 * length p.items) (drop (i + 1) all) ≤ left - (length own.items + length own.items)
draws_left {A} all i own left at enough =
    let draws : Vec ℕ A → ℕ = λ (p : Vec ℕ A). 2 * length p.items in
    let step : sum_by draws (drop i all) ≡ 2 * length own.items + sum_by draws (drop (suc i) all) = ap (sum_by draws) (drop_here all i own at) ∙ sum_by-cons draws own (drop (suc i) all) in
    let next : sum_by draws (drop (i + 1) all) ≡ sum_by draws (drop (suc i) all) = ap (λ (n : ℕ). sum_by draws (drop n all)) (add-one i) in
    omega (arith, step, next, enough)
