-- Numerals: those that `parse` refuses, and the numbers that they spell.
use Rattle.std.proofs.Common.{◌≡◌, ◌∙◌, ◌<◌, ◌≤◌, ◌^◌, ◌==◌, ◌&&◌, not, ℕ, Bool, cond, true, false, refl, sym, ap, ap₂, subst, arith, List, [], ◌∷◌, length, get_or, Option, Some, None, Err, inl, inr, true≢false, nat_le, decimal, eq-eqb}
use Rattle.std.specs.Char.{is_ascii_digit}
use Rattle.std.specs.List.{list_all}
use Rattle.std.specs.Str.{all_ascii_digits}
use Rattle.std.specs.Str.Parse.{ParsesUnsigned, digits_value}
use Rattle.std.specs.Prelude.{is_some, unwrap_or}
use Rattle.std.proofs.lemmas.Bool.{and_parts, cases_eq, le-leb, leb-true, ne_eqb}
use Rattle.std.proofs.lemmas.Fmt.{decimal-digits_value, decimal_digit, decimal_is_IsNumeral, digits_decimal, digits_value-decimal, first_decimal}
use Rattle.std.proofs.lemmas.Str.Parse.{IsNumeralModel, numerals_by_value, parse_digits, tells_all_ascii_digits}
use Rattle.program_words.specs.Words.{Word}
use Rattle.program_words.specs.Asked.{has_leading_zero, is_numeral, number_up_to}

digits_mean : IsNumeralModel (λ ds. all_ascii_digits ds ≡ true) (digits_value 10)
digits_mean = numerals_by_value _ tells_all_ascii_digits

same_digits : (ds : List ℕ) → all_ascii_digits ds ≡ list_all is_ascii_digit ds
same_digits [] = refl
same_digits (d ∷ ds) = ap (λ b. is_ascii_digit d && b) (same_digits ds)

-- a word that isn't empty has a byte
filled : (word : Word) → not (length word == 0) ≡ true → 0 < length word
filled [] e = absurd (true≢false (sym e))
filled (d ∷ ds) e = omega arith

abbrev number_by : Word → Bool → Bool → Option ℕ
number_by word numeral small = cond (numeral && small) (Some (digits_value 10 word)) None

-- `parse` refuses a numeral only where its number is no u64
pub none_if_refused : {E : Type 0} (most : ℕ) (word : Word) (e : E) → is_numeral word ≡ true → most < 2 ^ 64 → ParsesUnsigned 64 10 word (Err e) → None ≡ number_up_to most word
none_if_refused most word e numeral fits refused = go (nat_le (digits_value 10 word) most) refl
  where
    go : (b : Bool) → nat_le (digits_value 10 word) most ≡ b → None ≡ number_by word (is_numeral word) (nat_le (digits_value 10 word) most)
    go false is = sym (ap₂ (number_by word) numeral is)
    go true is =
        let outer = and_parts _ _ numeral in
        let inner = and_parts _ _ outer.0 in
        let le : digits_value 10 word ≤ most = leb-true (digits_value 10 word) most is in
        absurd (parse_digits digits_mean 64 word (Err e) refused (same_digits word ∙ inner.1) (filled word inner.0, omega arith))

-- ---- the numbers that they spell

-- a first `0` without other digits stands alone
stands_alone : (word : Word) → not (has_leading_zero word) ≡ true → get_or word 0 0 ≡ 48 → length word ≡ 1
stands_alone [] e first = absurd (omega (arith, first))
stands_alone (d ∷ []) e first = refl
stands_alone (d ∷ f ∷ more) e first = absurd (true≢false (sym e ∙ ap not (eq-eqb d 48 first)))

-- a first digit above `0` is no leading zero
no_zero : (word : Word) → 48 < get_or word 0 0 → has_leading_zero word ≡ false
no_zero [] above = refl
no_zero (d ∷ []) above = refl
no_zero (d ∷ f ∷ more) above = ne_eqb d 48 (λ e. omega arith)

-- a number is spelled without a leading zero
spelled_short : (n : ℕ) → n < 2 ^ 64 → has_leading_zero (decimal n) ≡ false
spelled_short n fits = elim (cases_eq n 0) [
  | inl zero ↦ ap (λ k. has_leading_zero (decimal k)) zero ∙ ap has_leading_zero (decimal_digit 0 (omega arith))
  | inr more ↦ no_zero (decimal n) (first_decimal n (omega (arith, more)) fits)
]

pub is_spelling : (most n : ℕ) (word : Word) → most < 2 ^ 64 → number_up_to most word ≡ Some n → (word ≡ decimal n) × (n ≤ most)
is_spelling most n word fits read = go (is_numeral word && nat_le (digits_value 10 word) most) refl read
  where
    go : (b : Bool) → (is_numeral word && nat_le (digits_value 10 word) most) ≡ b → cond b (Some (digits_value 10 word)) None ≡ Some n → (word ≡ decimal n) × (n ≤ most)
    go false is f = absurd (true≢false (sym (ap is_some f)))
    go true is f =
        let whole = and_parts _ _ is in
        let outer = and_parts _ _ whole.0 in
        let inner = and_parts _ _ outer.0 in
        let le : digits_value 10 word ≤ most = leb-true (digits_value 10 word) most whole.1 in
        let value : digits_value 10 word ≡ n = ap (λ o. unwrap_or o n) f in
        let spelled : decimal (digits_value 10 word) ≡ word =
        decimal-digits_value digits_mean word (same_digits word ∙ inner.1) (filled word inner.0) (stands_alone word outer.1) (omega arith) in
        (sym spelled ∙ ap decimal value, subst (λ k. k ≤ most) value le)

pub of_spelling : (most n : ℕ) → most < 2 ^ 64 → n ≤ most → number_up_to most (decimal n) ≡ Some n
of_spelling most n fits le =
    let small : n < 2 ^ 64 = omega arith in
    let some : not (length (decimal n) == 0) ≡ true = ap not (ne_eqb (length (decimal n)) 0 (λ e. let has = (decimal_is_IsNumeral n small).0.0 in omega (arith, has, e))) in
    let digits : list_all is_ascii_digit (decimal n) ≡ true = sym (same_digits (decimal n)) ∙ digits_decimal digits_mean n small in
    let short : has_leading_zero (decimal n) ≡ false = spelled_short n small in
    let value : digits_value 10 (decimal n) ≡ n = digits_value-decimal digits_mean n small in
    let in_range : nat_le n most ≡ true = le-leb n most le in
    rw (some, digits, short, value, in_range) refl
