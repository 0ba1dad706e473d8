-- Marks, place by place.
use Rattle.std.proofs.Common.{◌≡◌, ◌<◌, ◌+◌, ◌∙◌, ℕ, zero, suc, Bool, true, false, List, [], ◌∷◌, ◌++◌, length, map, refl, sym, ap, arith, set, get_or, replicate, add-one}
use Rattle.std.proofs.lemmas.List.{get_or-set_same, set-get_or}
use Rattle.std.proofs.Math.Seq.{set-append_seam}
use Rattle.command_tables.specs.Handles.{list_at, put}
use Rattle.object_model.specs.declared.Argument.{Argument}
use Rattle.object_model.specs.declared.Argument.TheVariants.{Null}
use Rattle.chain_model.specs.Chained.{is_unborn}

-- the marks of so many arguments, and none of the others
abbrev pub marked : ℕ → List Argument → List Bool
marked zero xs = replicate (length xs) false
marked (suc k) [] = []
marked (suc k) (x ∷ xs) = is_unborn x ∷ marked k xs

marked_here : (k : ℕ) (xs : List Argument) → k < length xs → is_unborn (get_or xs k Null) ≡ true → set (marked k xs) k true ≡ marked (suc k) xs
marked_here k [] within is = absurd (omega arith)
marked_here zero (y ∷ xs) within is = ap (λ (b : Bool). b ∷ replicate (length xs) false) (sym is)
marked_here (suc k) (y ∷ xs) within is =
    let less : k < length xs = omega arith in
    ap (λ (bs : List Bool). is_unborn y ∷ bs) (marked_here k xs less is)

marked_less : (k : ℕ) (xs : List Argument) → k < length xs → is_unborn (get_or xs k Null) ≡ false → marked k xs ≡ marked (suc k) xs
marked_less k [] within is = absurd (omega arith)
marked_less zero (y ∷ xs) within is = ap (λ (b : Bool). b ∷ replicate (length xs) false) (sym is)
marked_less (suc k) (y ∷ xs) within is =
    let less : k < length xs = omega arith in
    ap (λ (bs : List Bool). is_unborn y ∷ bs) (marked_less k xs less is)

marked_all : (k : ℕ) (xs : List Argument) → k ≡ length xs → marked k xs ≡ map is_unborn xs
marked_all zero [] is = refl
marked_all (suc k) [] is = refl
marked_all zero (x ∷ xs) is = absurd (omega (arith, is))
marked_all (suc k) (x ∷ xs) is = let less : k ≡ length xs = omega (arith, is) in ap (λ (bs : List Bool). is_unborn x ∷ bs) (marked_all k xs less)

set_twice : {A : Type 0} (xs : List A) (p : ℕ) (x y : A) → set (set xs p x) p y ≡ set xs p y
set_twice [] p x y = refl
set_twice (z ∷ xs) zero x y = refl
set_twice (z ∷ xs) (suc p) x y = ap (λ ys. z ∷ ys) (set_twice xs p x y)

-- none is marked at first
pub marks_first : (ms : List (List Bool)) (p : ℕ) (xs : List Argument) → list_at ms p ≡ replicate (length xs) false → ms ≡ set ms p (marked 0 xs)
marks_first ms p xs none = sym (set-get_or ms p []) ∙ ap (set ms p) none

-- a mark more
pub marks_more : (ms before : List (List Bool)) (p k : ℕ) (xs : List Argument) → p < length before → k < length xs → is_unborn (get_or xs k Null) ≡ true
    → ms ≡ set before p (marked k xs) → put ms p k true ≡ set before p (marked (k + 1) xs)
marks_more ms before p k xs param within is e =
    ap (λ (ns : List (List Bool)). put ns p k true) e
    ∙ (ap (λ (bs : List Bool). set (set before p (marked k xs)) p (set bs k true)) (get_or-set_same before p (marked k xs) [] param)
    ∙ (set_twice before p (marked k xs) (set (marked k xs) k true) ∙ (ap (set before p) (marked_here k xs within is) ∙ ap (λ (n : ℕ). set before p (marked n xs)) (sym (add-one k)))))

-- a place that isn't marked
pub marks_still : (ms before : List (List Bool)) (p k : ℕ) (xs : List Argument) → k < length xs → is_unborn (get_or xs k Null) ≡ false → ms ≡ set before p (marked k xs)
    → ms ≡ set before p (marked (k + 1) xs)
marks_still ms before p k xs within is e = e ∙ (ap (set before p) (marked_less k xs within is) ∙ ap (λ (n : ℕ). set before p (marked n xs)) (sym (add-one k)))

-- all are marked at last
pub marks_last : (ms before : List (List Bool)) (p k : ℕ) (xs : List Argument) → k ≡ length xs → ms ≡ set before p (marked k xs) → ms ≡ set before p (map is_unborn xs)
marks_last ms before p k xs is e = e ∙ ap (set before p) (marked_all k xs is)

-- the marks of a last parameter
pub last_marks : (ms before : List (List Bool)) (p : ℕ) (bs cs : List Bool) → p ≡ length before → ms ≡ set (before ++ bs ∷ []) p cs → ms ≡ before ++ cs ∷ []
last_marks ms before p bs cs is e = e ∙ (ap (λ (n : ℕ). set (before ++ bs ∷ []) n cs) is ∙ set-append_seam before bs [] cs)
