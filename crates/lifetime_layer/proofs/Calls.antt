-- Calls of tests have few places.
use Rattle.std.proofs.Common.{◌≡◌, ◌≤◌, ℕ, zero, suc, List, [], ◌∷◌, ◌++◌, length, ap, arith}
use Rattle.command_tables.specs.Handles.{list_at}

-- no parameter at all
pub few_none : (lists : List (List ℕ)) → lists ≡ [] → (p : ℕ) → length (list_at lists p) ≤ 1024
few_none [] is p = omega arith
few_none (xs ∷ lists) is p = cc is

-- one parameter more
few_more : (lists : List (List ℕ)) (handles : List ℕ) → ((p : ℕ) → length (list_at lists p) ≤ 1024) → length handles ≤ 1024 → (p : ℕ) → length (list_at (lists ++ handles ∷ []) p) ≤ 1024
few_more [] handles few low zero = low
few_more [] handles few low (suc p) = omega arith
few_more (xs ∷ lists) handles few low zero = few 0
few_more (xs ∷ lists) handles few low (suc p) = few_more lists handles (λ q. few (suc q)) low p

pub few_pushed : (lists now : List (List ℕ)) (handles : List ℕ) → ((p : ℕ) → length (list_at lists p) ≤ 1024) → length handles ≤ 1024 → now ≡ lists ++ handles ∷ [] → (p : ℕ) → length (list_at now p) ≤ 1024
few_pushed lists now handles few low is p = let e : length (list_at now p) ≡ length (list_at (lists ++ handles ∷ []) p) = ap (λ (xs : List (List ℕ)). length (list_at xs p)) is in let f = few_more lists handles few low p in omega (arith, e, f)
