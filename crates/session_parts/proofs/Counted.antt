-- How many handles the arguments of a call have.
use Rattle.std.proofs.Common.{◌≡◌, ◌∙◌, ◌≤◌, ◌<◌, ◌+◌, ℕ, zero, suc, List, [], ◌∷◌, Vec, Global, ap, arith, get_or, length, map, refl, sum_by, sym, take}
use Rattle.std.proofs.lemmas.List.{length-map, length-take-le}
use Rattle.std.proofs.lemmas.List.Sums.{sum_by-cons}
use Rattle.command_tables.specs.Handles.{count_in}
use Rattle.object_model.specs.declared.Argument.{Argument}
use Rattle.session_tables.specs.Shown.{args_shown}

-- one for each argument
pub counted : (h : Argument → ℕ) (ats : List (List Argument)) → count_in (map (map h) ats) ≡ sum_by (λ at. length at) ats
counted h [] = refl
counted h (at ∷ ats) =
    let n : length (map h at) ≡ length at = length-map at h in
    let rest : count_in (map (map h) ats) ≡ sum_by (λ xs. length xs) ats = counted h ats in
    let whole = sum_by-cons (λ (xs : List Argument). length xs) at ats in
    let part = sum_by-cons (λ (xs : List ℕ). length xs) (map h at) (map (map h) ats) in
    part ∙ ((λ i. n i + rest i) ∙ sym whole)

-- a parameter and those before it have no more than all
pub counted_part : (h : Argument → ℕ) (args : List (Vec Argument Global)) (k : ℕ) (a : Vec Argument Global) → k < length args → a ≡ get_or args k a → count_in (map (map h) (args_shown (take k args))) + length a.items ≤ sum_by (λ at. length at) (args_shown args)
counted_part h [] k a within is = absurd (omega (arith, within))
counted_part h (b ∷ args) zero a within is = let n : length a.items ≡ length b.items = ap (λ (v : Vec Argument Global). length v.items) is in
    let whole : sum_by (λ at. length at) (args_shown (b ∷ args)) ≡ length b.items + sum_by (λ at. length at) (args_shown args) = sum_by-cons (λ (xs : List Argument). length xs) b.items (args_shown args) in
    let none : count_in (map (map h) (args_shown (take 0 (b ∷ args)))) ≡ 0 = refl in
    omega (arith, n, whole, none)
counted_part h (b ∷ args) (suc k) a within is =
    let n : length (map h b.items) ≡ length b.items = length-map b.items h in
    let rest : count_in (map (map h) (args_shown (take k args))) + length a.items ≤ sum_by (λ at. length at) (args_shown args) = counted_part h args k a (omega (arith, within)) is in
    let whole : sum_by (λ at. length at) (args_shown (b ∷ args)) ≡ length b.items + sum_by (λ at. length at) (args_shown args) = sum_by-cons (λ (xs : List Argument). length xs) b.items (args_shown args) in
    let part : count_in (map (map h) (args_shown (take (suc k) (b ∷ args)))) ≡ length (map h b.items) + count_in (map (map h) (args_shown (take k args))) = sum_by-cons (λ (xs : List ℕ). length xs) (map h b.items) (map (map h) (args_shown (take k args))) in
    omega (arith, n, rest, whole, part)

-- as many lists as parameters
pub params_long : (h : Argument → ℕ) (args : List (Vec Argument Global)) (k : ℕ) → k ≤ length args → length (map (map h) (args_shown (take k args))) ≡ k
params_long h args k within =
    length-map (args_shown (take k args)) (map h) ∙ (length-map (take k args) (λ (v : Vec Argument Global). v.items) ∙ length-take-le k args within)
