-- From bytes between two places to all.
use Rattle.std.proofs.Common.{◌≡◌, ℕ, suc, ◌<◌, Bool, true, List, [], ◌∷◌, length, get_or, refl, arith}
use Rattle.std.specs.List.{list_all}
use Rattle.trace_format.specs.Between.{PassBetween}

each_passes : (p : ℕ → Bool) (xs : List ℕ) → ((k : ℕ) → k < length xs → p (get_or xs k 0) ≡ true) → list_all p xs ≡ true
each_passes p [] h = refl
each_passes p (x ∷ xs) h = rw (h 0 (omega arith)) (each_passes p xs (λ k lt. h (suc k) (omega arith)))

pub all_between : (p : ℕ → Bool) (xs : List ℕ) → PassBetween p xs 0 (length xs) → list_all p xs ≡ true
all_between p xs h = each_passes p xs (λ k lt. h k (omega arith) lt)
