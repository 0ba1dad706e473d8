-- The drivers of a call, by their places.
use Rattle.std.proofs.Common.{◌≡◌, ◌<◌, ◌+◌, ℕ, zero, suc, length, get_or, refl, ◌∙◌, arith, ap}
use Rattle.std.specs.List.{range_with_len}

count_from : (a n : ℕ) → length (range_with_len a n) ≡ n
count_from a zero = refl
count_from a (suc n) = ap suc (count_from (a + 1) n)

pub count_all : (n : ℕ) → length (range_with_len 0 n) ≡ n
count_all n = count_from 0 n

at_from : (a n k : ℕ) → k < n → get_or (range_with_len a n) k 0 ≡ a + k
at_from a zero k less = absurd (omega (arith, less))
at_from a (suc n) zero less = omega arith
at_from a (suc n) (suc k) less = at_from (a + 1) n k (omega (arith, less)) ∙ omega arith

pub at_all : (n k : ℕ) → k < length (range_with_len 0 n) → get_or (range_with_len 0 n) k 0 ≡ k
at_all n k less = let count = count_all n in at_from 0 n k (omega (arith, less, count)) ∙ omega arith
