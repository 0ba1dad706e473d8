-- Loops over the parameters and places of a call: what was gathered so far, and the rest.
use Rattle.std.proofs.Common.{◌≡◌, ◌<◌, ◌≤◌, ℕ, zero, suc, ◌+◌, Bool, false, ◌||◌, List, [], ◌∷◌, ◌++◌, map, length, drop, get_or, refl, sym, ap, ◌∙◌, arith, add-one, append_assoc}
use Rattle.std.specs.List.{list_any}
use Rattle.std.proofs.Math.Seq.{drop-cons}
use Rattle.std.proofs.lemmas.List.{append-nil}
use Rattle.command_tables.specs.Handles.{list_at}
use Rattle.command_tables.specs.Table.{ParamSpec, seen_param}
use Rattle.command_tables.specs.declared.types.Param.{Param}
use Rattle.object_model.specs.declared.Argument.{Argument}
use Rattle.object_model.specs.declared.Argument.TheVariants.{Null}
use Rattle.object_model.specs.Rules.{places_from, params_from}

-- the rest from a place on is the argument there and the rest behind it
pub place_cut : (places : List Argument) (k : ℕ) → k < length places → drop k places ≡ get_or places k Null ∷ drop (k + 1) places
place_cut places k less = drop-cons places k Null less ∙ ap (λ n. get_or places k Null ∷ drop n places) (sym (add-one k))

-- the same of the parameters
pub parameter_cut : (parts : List (List Argument)) (i : ℕ) → i < length parts → drop i parts ≡ list_at parts i ∷ drop (i + 1) parts
parameter_cut parts i less = drop-cons parts i [] less ∙ ap (λ n. get_or parts i [] ∷ drop n parts) (sym (add-one i))

-- one place more
pub place_more : {X : Type 0} (f : ℕ → Argument → List X) (places : List Argument) (k : ℕ) (so_far now all : List X) → k < length places → so_far ++ places_from f k (drop k places) ≡ all
    → now ≡ so_far ++ f k (get_or places k Null) → now ++ places_from f (k + 1) (drop (k + 1) places) ≡ all
place_more f places k so_far now all less is more =
    ap (λ xs. xs ++ places_from f (k + 1) (drop (k + 1) places)) more
    ∙ (append_assoc so_far (f k (get_or places k Null)) (places_from f (k + 1) (drop (k + 1) places))
    ∙ (ap (λ ps. so_far ++ places_from f k ps) (sym (place_cut places k less)) ∙ is))

-- past all places nothing is left
pub places_end : {X : Type 0} (f : ℕ → Argument → List X) (places : List Argument) (k : ℕ) (so_far : List X) → length places ≤ k → so_far ++ places_from f k (drop k places) ≡ so_far
places_end f places k so_far low = ap (λ (ps : List Argument). so_far ++ places_from f k ps) (none places k low) ∙ append-nil so_far
  where
    none : (xs : List Argument) (n : ℕ) → length xs ≤ n → drop n xs ≡ []
    none [] zero l = refl
    none [] (suc n) l = refl
    none (x ∷ xs) zero l = absurd (omega (arith, l))
    none (x ∷ xs) (suc n) l = none xs n (omega (arith, l))

-- one parameter more
pub parameter_more : {X : Type 0} (f : ℕ → ParamSpec → ℕ → Argument → List X) (ps : List Param) (parts : List (List Argument)) (i : ℕ) (d : Param) (so_far now all : List X) → i < length ps → length parts ≡ length ps
    → so_far ++ params_from f i (map seen_param (drop i ps)) (drop i parts) ≡ all → now ≡ so_far ++ places_from (f i (seen_param (get_or ps i d))) 0 (list_at parts i)
    → now ++ params_from f (i + 1) (map seen_param (drop (i + 1) ps)) (drop (i + 1) parts) ≡ all
parameter_more f ps parts i d so_far now all less same is more =
    let low : i < length parts = omega (arith, less, same) in
    ap (λ xs. xs ++ params_from f (i + 1) (map seen_param (drop (i + 1) ps)) (drop (i + 1) parts)) more
    ∙ (append_assoc so_far (places_from (f i (seen_param (get_or ps i d))) 0 (list_at parts i)) (params_from f (i + 1) (map seen_param (drop (i + 1) ps)) (drop (i + 1) parts))
    ∙ (ap (λ n. so_far ++ params_from f i (map seen_param (get_or ps i d ∷ drop n ps)) (list_at parts i ∷ drop (i + 1) parts)) (add-one i)
    ∙ (ap (λ (qs : List Param). so_far ++ params_from f i (map seen_param qs) (list_at parts i ∷ drop (i + 1) parts)) (sym (drop-cons ps i d less))
    ∙ (ap (λ (bs : List (List Argument)). so_far ++ params_from f i (map seen_param (drop i ps)) bs) (sym (parameter_cut parts i low)) ∙ is))))

-- past all parameters nothing is left
pub parameters_end : {X : Type 0} (f : ℕ → ParamSpec → ℕ → Argument → List X) (ps : List Param) (parts : List (List Argument)) (i : ℕ) (so_far : List X) → length ps ≤ i → so_far ++ params_from f i (map seen_param (drop i ps)) (drop i parts) ≡ so_far
parameters_end f ps parts i so_far low = ap (λ (qs : List Param). so_far ++ params_from f i (map seen_param qs) (drop i parts)) (none ps i low) ∙ append-nil so_far
  where
    none : (qs : List Param) (n : ℕ) → length qs ≤ n → drop n qs ≡ []
    none [] zero l = refl
    none [] (suc n) l = refl
    none (q ∷ qs) zero l = absurd (omega (arith, l))
    none (q ∷ qs) (suc n) l = none qs n (omega (arith, l))

-- a test of each place from a place on: of the one there, and of those behind it
pub any_more : (test : Argument → Bool) (places : List Argument) (k : ℕ) → k < length places → list_any test (drop k places) ≡ (test (get_or places k Null) || list_any test (drop (k + 1) places))
any_more test places k less = ap (list_any test) (place_cut places k less)

-- past all places none passes
pub any_end : (test : Argument → Bool) (places : List Argument) (k : ℕ) → length places ≤ k → list_any test (drop k places) ≡ false
any_end test [] zero low = refl
any_end test [] (suc k) low = refl
any_end test (a ∷ places) zero low = absurd (omega (arith, low))
any_end test (a ∷ places) (suc k) low = any_end test places k (omega (arith, low))
