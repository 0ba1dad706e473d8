-- Numbers.
use Rattle.std.proofs.Common.{◌≡◌, ◌<◌, ◌≤◌, ◌+◌, ◌-◌, ◌*◌, ◌^◌, ◌==◌, ℕ, Bool, true, false, not, nat_le, ◌&&◌, None, List, [], ◌∷◌, length, refl, arith}
use Rattle.std.proofs.lemmas.Bool.{leb-true}
use Rattle.std.proofs.lemmas.Bool.Decides.{nat_tests}
use Rattle.std.proofs.Math.Nat.{pow-le-pow_right}
use Rattle.std.specs.Char.{is_ascii_digit}
use Rattle.std.specs.Str.{all_ascii_digits}
use Rattle.trace_format.specs.Words.{has_no_leading_zero, number_up_to, only_if, value_after}

-- a number of at most seven digits
pub digits_fit : (n i : ℕ) → n < 10 ^ i → i ≤ 7 → n < 10000000
digits_fit n i h k = let e : 10 ^ i ≤ 10 ^ 7 = pow-le-pow_right {n = 10} (omega arith) k in omega arith

-- further digits make no number smaller
grows : (n : ℕ) (digits : List ℕ) → n ≤ value_after n digits
grows n [] = omega arith
grows n (d ∷ digits) = omega (arith, grows (10 * n + (d - 48)) digits)

-- the first of two tests
left_true : (a b : Bool) → (a && b) ≡ true → a ≡ true
left_true true b h = refl
left_true false b h = cc

-- a digit that is not `0`
first_counts : (d : ℕ) → is_ascii_digit d ≡ true → not (d == 48) ≡ true → 49 ≤ d
first_counts d digit counts = grind (arith, nat_tests)

-- more than seven digits without a leading zero are a number above each limit
eight_digits : (word : List ℕ) → 7 < length word → all_ascii_digits word ≡ true → has_no_leading_zero word ≡ true → 10000000 ≤ value_after 0 word
eight_digits (a ∷ b ∷ c ∷ d ∷ e ∷ f ∷ g ∷ h ∷ rest) many digits first =
    let counts : 49 ≤ a = first_counts a (left_true _ _ digits) first in
    omega (arith, grows (10 * (10 * (10 * (10 * (10 * (10 * (10 * (10 * 0 + (a - 48)) + (b - 48)) + (c - 48)) + (d - 48)) + (e - 48)) + (f - 48)) + (g - 48)) + (h - 48)) rest)
eight_digits _ many digits first = absurd (omega arith)

-- so a long word is no number within the limit
pub too_long : (limit : ℕ) (word : List ℕ) → limit < 10000000 → 7 < length word → number_up_to limit word ≡ None
unfolding number_up_to
too_long limit word small many = go (all_ascii_digits word) (has_no_leading_zero word) (nat_le (value_after 0 word) limit) (eight_digits word many) (leb-true (value_after 0 word) limit)
  where
    go : (digits first below : Bool) → (digits ≡ true → first ≡ true → 10000000 ≤ value_after 0 word) → (below ≡ true → value_after 0 word ≤ limit) → only_if (digits && first && below) (value_after 0 word) ≡ None
    go true true true above within = absurd (omega (arith, above refl refl, within refl))
    go true true false above within = refl
    go true false below above within = refl
    go false first below above within = refl
