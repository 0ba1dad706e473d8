-- The shape of a call, parameter by parameter.
use Rattle.std.proofs.Common.{◌≡◌, ◌<◌, ◌↔◌, ℕ, zero, suc, ◌+◌, List, [], ◌∷◌, length, map, drop, get_or, refl, ap, sym, subst, arith, add-one}
use Rattle.command_tables.specs.declared.types.Param.{Param}
use Rattle.command_tables.specs.Handles.{list_at}
use Rattle.command_tables.specs.Table.{seen_param}
use Rattle.model_driver.specs.Driver.{FitsParam, FitsRow}

-- the rest of a row fits where its first parameter does and the rest behind it
rest_fits : (params : List Param) (lists : List (List ℕ)) (i : ℕ) (x : Param) → x ≡ get_or params i x → i < length params → length params ≡ length lists
    → FitsRow (map seen_param (drop i params)) (drop i lists) ↔ (FitsParam (seen_param x) (list_at lists i) × FitsRow (map seen_param (drop (suc i) params)) (drop (suc i) lists))
rest_fits [] lists i x at within same = absurd (omega (arith, within))
rest_fits (p ∷ params) [] i x at within same = absurd (omega (arith, same))
rest_fits (p ∷ params) (l ∷ lists) zero x at within same =
    (λ fit. (subst (λ q. FitsParam (seen_param q) l) (sym at) fit.0, fit.1), λ fit. (subst (λ q. FitsParam (seen_param q) l) at fit.0, fit.1))
rest_fits (p ∷ params) (l ∷ lists) (suc i) x at within same = rest_fits params lists i x at (omega (arith, within)) (omega (arith, same))

pub row_more : (params : List Param) (lists : List (List ℕ)) (i : ℕ) (x : Param) → x ≡ get_or params i x → i < length params → length params ≡ length lists → FitsParam (seen_param x) (list_at lists i)
    → (FitsRow (map seen_param (drop i params)) (drop i lists) ↔ FitsRow (map seen_param params) lists) → FitsRow (map seen_param (drop (i + 1) params)) (drop (i + 1) lists) ↔ FitsRow (map seen_param params) lists
row_more params lists i x at within same fit all =
    let one = rest_fits params lists i x at within same in
    subst (λ k. FitsRow (map seen_param (drop k params)) (drop k lists) ↔ FitsRow (map seen_param params) lists) (sym (add-one i)) (λ rest. all.0 (one.1 (fit, rest)), λ whole. (one.0 (all.1 whole)).1)

pub row_broken : (params : List Param) (lists : List (List ℕ)) (i : ℕ) (x : Param) → x ≡ get_or params i x → i < length params → length params ≡ length lists → (FitsParam (seen_param x) (list_at lists i) → ⊥)
    → (FitsRow (map seen_param (drop i params)) (drop i lists) ↔ FitsRow (map seen_param params) lists) → FitsRow (map seen_param params) lists → ⊥
row_broken params lists i x at within same broken all whole = broken ((rest_fits params lists i x at within same).0 (all.1 whole)).0

pub row_end : (params : List Param) (lists : List (List ℕ)) (i : ℕ) → i ≡ length params → length params ≡ length lists
    → (FitsRow (map seen_param (drop i params)) (drop i lists) ↔ FitsRow (map seen_param params) lists) → FitsRow (map seen_param params) lists
row_end params lists i is same all = all.0 (ended params lists i is same)
  where
    ended : (params : List Param) (lists : List (List ℕ)) (i : ℕ) → i ≡ length params → length params ≡ length lists → FitsRow (map seen_param (drop i params)) (drop i lists)
    ended [] [] zero is same = tt
    ended [] [] (suc i) is same = tt
    ended [] (l ∷ lists) i is same = absurd (omega (arith, same))
    ended (p ∷ params) [] i is same = absurd (omega (arith, same))
    ended (p ∷ params) (l ∷ lists) zero is same = absurd (omega (arith, is))
    ended (p ∷ params) (l ∷ lists) (suc i) is same = ended params lists i (omega (arith, is)) (omega (arith, same))

-- as many lists as parameters
pub row_long : (params : List Param) (lists : List (List ℕ)) → FitsRow (map seen_param params) lists → length params ≡ length lists
row_long [] [] fit = refl
row_long [] (l ∷ lists) fit = absurd fit
row_long (p ∷ params) [] fit = absurd fit
row_long (p ∷ params) (l ∷ lists) fit = ap suc (row_long params lists fit.1)
