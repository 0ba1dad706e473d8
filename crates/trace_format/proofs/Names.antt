-- Numbers and names are read just as they are spelled.
use Rattle.std.proofs.Common.{◌≡◌, ℕ, ◌^◌, ◌<◌, ◌≤◌, ◌==◌, nat_le, Bool, true, false, not, ◌&&◌, Option, Some, None, List, [], ◌∷◌, ◌++◌, length, get_or, refl, sym, ap, ◌∙◌, arith, subst, inl, inr, rules, decimal, ◌⊎◌, lit<, cond, codes, eq-eqb}
use Rattle.std.specs.Option.{option_map}
use Rattle.std.specs.Str.{all_ascii_digits, bytes_eq}
use Rattle.std.specs.Char.{is_ascii_digit}
use Rattle.std.proofs.lemmas.Bool.{and_parts, and_from, leb-true, le-leb, ne_eqb, cases_eq}
use Rattle.std.proofs.lemmas.Fmt.{digits_decimal, digits_value-decimal, decimal-digits_value, first_decimal, decimal_digit}
use Rattle.std.proofs.lemmas.Str.Parse.{IsNumeralModel, numerals_by_fold}
use Rattle.std.proofs.lemmas.Slice.Eq.{bytes_eq-Decides}
use Rattle.trace_format.specs.declared.event.Name.{Name}
use Rattle.trace_format.specs.Grammar.{IsName, IsOne, IsUpTo, is_printable, name_text, one_text}
use Rattle.trace_format.specs.Words.{after, and_then, from, has_no_leading_zero, name_of, name_with, number_up_to, numbers_of, one_of, thread_of, until, value_after}
use Rattle.trace_format.proofs.Texts.{Each, Reads, after_is, each_append, each_weaker, from_append, is_not, mapped, passed, until_append, until_from, went}

-- ---- numbers

-- the digits and the value that the grammar reads are those of decimal numbers
own : IsNumeralModel (λ ds. all_ascii_digits ds ≡ true) (value_after 0)
own = numerals_by_fold _ (search rules) value_after (search rules)

-- a text of digits has digits alone
each_digit : (w : List ℕ) → all_ascii_digits w ≡ true → Each is_ascii_digit w
each_digit [] h = tt
each_digit (b ∷ w) h = let parts = and_parts (is_ascii_digit b) (all_ascii_digits w) h in (parts.0, each_digit w parts.1)

-- a number that is small enough to be spelled
small : (limit n : ℕ) → limit < 2 ^ 32 → n ≤ limit → n < 2 ^ 64
small limit n bound le = omega arith

-- a first byte above `0` is no leading zero
zero_free : (w : List ℕ) → 48 < get_or w 0 0 → has_no_leading_zero w ≡ true
zero_free [] h = absurd (omega arith)
zero_free (b ∷ w) h = ap not (ne_eqb b 48 (λ e. omega arith))

-- a first byte is there, and is not `0`
first_is : (w : List ℕ) → has_no_leading_zero w ≡ true → (0 < length w) × (get_or w 0 0 ≡ 48 → ⊥)
first_is [] h = cc
first_is (b ∷ w) h = (omega arith, λ e. let t : (b == 48) ≡ true = eq-eqb b 48 e in let f : not (b == 48) ≡ false = ap not t in cc)

-- a number without leading zeros is not 0
positive : (w : List ℕ) (n : ℕ) → has_no_leading_zero w ≡ true → w ≡ decimal n → 1 ≤ n
positive w n h e = elim (cases_eq n 0) [
  | inl z ↦ let d : w ≡ 48 ∷ [] = e ∙ (ap (λ k. decimal k) z ∙ decimal_digit 0 (omega arith)) in let f : has_no_leading_zero (48 ∷ []) ≡ true = rw d at h in cc
  | inr ne ↦ let g : n ≡ 0 → ⊥ = ne in omega arith
]

-- a number up to the limit is read as it is spelled
number_complete : (limit : ℕ) → limit < 2 ^ 32 → (n : ℕ) → IsUpTo limit n → number_up_to limit (decimal n) ≡ Some n
unfolding number_up_to
number_complete limit bound n v =
    let s : n < 2 ^ 64 = small limit n bound v.1 in
    let d : all_ascii_digits (decimal n) ≡ true = digits_decimal own n s in
    let value : value_after 0 (decimal n) ≡ n = digits_value-decimal own n s in
    let f : has_no_leading_zero (decimal n) ≡ true = zero_free (decimal n) (first_decimal n (omega arith) s) in
    let l : nat_le n limit ≡ true = le-leb n limit v.1 in
    rw (d, f, value, l) refl

-- a text that is read as a number is its spelling
number_sound : (limit : ℕ) → limit < 2 ^ 32 → (w : List ℕ) (n : ℕ) → number_up_to limit w ≡ Some n → IsUpTo limit n × (w ≡ decimal n)
unfolding number_up_to
number_sound limit bound w n h =
    let p = passed (all_ascii_digits w && has_no_leading_zero w && nat_le (value_after 0 w) limit) (value_after 0 w) n h in
    let a = and_parts (all_ascii_digits w && has_no_leading_zero w) (nat_le (value_after 0 w) limit) p.0 in
    let b = and_parts (all_ascii_digits w) (has_no_leading_zero w) a.0 in
    let first = first_is w b.1 in
    let le : value_after 0 w ≤ limit = leb-true (value_after 0 w) limit a.1 in
    let d : decimal (value_after 0 w) ≡ w = decimal-digits_value own w b.0 first.0 (λ e. absurd (first.1 e)) (small limit (value_after 0 w) bound le) in
    let e : w ≡ decimal n = sym d ∙ ap (λ k. decimal k) p.1 in
    ((positive w n b.1 e, omega (arith, le, p.1)), e)

-- numbers are read just as they are spelled
pub number_reader : (limit : ℕ) → limit < 2 ^ 32 → Reads (IsUpTo limit) decimal (number_up_to limit)
number_reader limit bound = record { complete = number_complete limit bound; sound = number_sound limit bound }

-- a number has digits alone
digits_of_number : (limit n : ℕ) → limit < 2 ^ 32 → IsUpTo limit n → Each is_ascii_digit (decimal n)
digits_of_number limit n bound v = each_digit (decimal n) (digits_decimal own n (small limit n bound v.1))

-- ---- names

-- a digit is none of the bytes at which words end
digit_is_not : (c b : ℕ) → (c < 48) ⊎ (57 < c) → is_ascii_digit b ≡ true → is_not c b ≡ true
digit_is_not c b away h =
    let parts = and_parts (nat_le 48 b) (nat_le b 57) h in
    let low : 48 ≤ b = leb-true 48 b parts.0 in
    let high : b ≤ 57 = leb-true b 57 parts.1 in
    ap not (ne_eqb b c (λ e. elim away [ inl l ↦ omega arith | inr r ↦ omega arith ]))

-- a byte that is no digit is none of a number's
pub number_lacks : (c limit n : ℕ) → (c < 48) ⊎ (57 < c) → limit < 2 ^ 32 → IsUpTo limit n → Each (is_not c) (decimal n)
number_lacks c limit n away bound v = each_weaker is_ascii_digit (is_not c) (λ b h. digit_is_not c b away h) (decimal n) (digits_of_number limit n bound v)

-- a byte that is no digit, `%` or `.` is none of a name's
pub name_lacks : (c : ℕ) (n : Name) → (c < 48) ⊎ (57 < c) → is_not c 37 ≡ true → is_not c 46 ≡ true → IsName n → Each (is_not c) (name_text n)
name_lacks c n away percent dot v =
    (percent, each_append (is_not c) (decimal n.thread) (46 ∷ decimal n.number) (number_lacks c 1024 n.thread away (lit< tt) v.0) (dot, number_lacks c 4194304 n.number away (lit< tt) v.1))

-- each byte of a number passes a test that digits pass
pub number_each : (p : ℕ → Bool) → ((b : ℕ) → is_ascii_digit b ≡ true → p b ≡ true) → (limit n : ℕ) → limit < 2 ^ 32 → IsUpTo limit n → Each p (decimal n)
number_each p digit limit n bound v = each_weaker is_ascii_digit p digit (decimal n) (digits_of_number limit n bound v)

-- digits can be printed
pub digit_prints : (b : ℕ) → is_ascii_digit b ≡ true → is_printable b ≡ true
digit_prints b h =
    let parts = and_parts (nat_le 48 b) (nat_le b 57) h in
    let low : 48 ≤ b = leb-true 48 b parts.0 in
    let high : b ≤ 57 = leb-true b 57 parts.1 in
    and_from (nat_le 32 b) (nat_le b 126) (le-leb 32 b (omega arith)) (le-leb b 126 (omega arith))

-- digits are no spaces
pub digit_no_space : (b : ℕ) → is_ascii_digit b ≡ true → is_not 32 b ≡ true
digit_no_space b h = digit_is_not 32 b (inl (lit< tt)) h

-- each byte of a name passes a test that digits, `%` and `.` pass
pub name_each : (p : ℕ → Bool) → ((b : ℕ) → is_ascii_digit b ≡ true → p b ≡ true) → p 37 ≡ true → p 46 ≡ true → (n : Name) → IsName n → Each p (name_text n)
name_each p digit percent dot n v =
    (percent, each_append p (decimal n.thread) (46 ∷ decimal n.number) (number_each p digit 1024 n.thread (lit< tt) v.0) (dot, number_each p digit 4194304 n.number (lit< tt) v.1))

-- each byte of a place passes a test that those of names and of `null` pass
pub one_each : (p : ℕ → Bool) → ((n : Name) → IsName n → Each p (name_text n)) → Each p (codes "null") → (o : Option Name) → IsOne o → Each p (one_text o)
one_each p name null None v = null
one_each p name null (Some n) v = name n v

-- a name is read as it is spelled
name_complete : (n : Name) → IsName n → name_of (name_text n) ≡ Some n
unfolding name_of
name_complete n v =
    let lacks : Each (is_not 46) (decimal n.thread) = number_lacks 46 1024 n.thread (inl (lit< tt)) (lit< tt) v.0 in
    rw (
      until_append 46 (decimal n.thread) (46 ∷ decimal n.number) lacks refl,
      from_append 46 (decimal n.thread) (46 ∷ decimal n.number) lacks refl,
      number_complete 1024 (lit< tt) n.thread v.0,
      number_complete 4194304 (lit< tt) n.number v.1,
    ) refl

-- both numbers of a name
both_numbers : (a b : Option ℕ) (n : Name) → name_with a b ≡ Some n → (a ≡ Some n.thread) × (b ≡ Some n.number)
both_numbers None None n h = cc
both_numbers None (Some y) n h = cc
both_numbers (Some x) None n h = cc
both_numbers (Some x) (Some y) n h = (cc, cc)

-- a text that is read as a name is its spelling
name_sound : (w : List ℕ) (n : Name) → name_of w ≡ Some n → IsName n × (w ≡ name_text n)
unfolding name_of
name_sound w n h =
    let a = went (after (codes "%") w) numbers_of n h in
    let w_is : w ≡ 37 ∷ a.value = after_is (codes "%") w a.value a.read in
    let b = both_numbers (thread_of (until 46 a.value)) (and_then (after (codes ".") (from 46 a.value)) (number_up_to 4194304)) n a.gave in
    let t = number_sound 1024 (lit< tt) (until 46 a.value) n.thread b.0 in
    let d = went (after (codes ".") (from 46 a.value)) (number_up_to 4194304) n.number b.1 in
    let k = number_sound 4194304 (lit< tt) d.value n.number d.gave in
    let dot : from 46 a.value ≡ 46 ∷ d.value = after_is (codes ".") (from 46 a.value) d.value d.read in
    ((t.0, k.0), w_is ∙ ap (λ r. 37 ∷ r) (until_from 46 a.value ∙ (ap (λ s. s ++ from 46 a.value) t.1 ∙ ap (λ s. decimal n.thread ++ s) (dot ∙ ap (λ s. 46 ∷ s) k.1))))

-- names are read just as they are spelled
pub name_reader : Reads IsName name_text name_of
name_reader = record { complete = name_complete; sound = name_sound }

-- ---- one place

-- a byte that is none of a name's, and none of `null`'s, is none of a place's
pub one_lacks : (c : ℕ) (o : Option Name) → (c < 48) ⊎ (57 < c) → is_not c 37 ≡ true → is_not c 46 ≡ true → Each (is_not c) (codes "null") → IsOne o → Each (is_not c) (one_text o)
one_lacks c None away percent dot null v = null
one_lacks c (Some n) away percent dot null v = name_lacks c n away percent dot v

-- a place is read as it is spelled
one_complete : (o : Option Name) → IsOne o → one_of (one_text o) ≡ Some o
unfolding one_of
one_complete None v = refl
one_complete (Some n) v = ap (λ m. option_map Some m) (name_complete n v)

-- a text that is read as a place is its spelling
one_sound : (w : List ℕ) (o : Option Name) → one_of w ≡ Some o → IsOne o × (w ≡ one_text o)
unfolding one_of
one_sound w o h = go (bytes_eq w (codes "null")) (bytes_eq-Decides w (codes "null")).0 h
  where
    go : (t : Bool) → (t ≡ true → w ≡ codes "null") → cond t (Some None) (option_map Some (name_of w)) ≡ Some o → IsOne o × (w ≡ one_text o)
    go true is e = let o_is : None ≡ o = cc in subst (λ v. IsOne v × (w ≡ one_text v)) o_is (tt, is refl)
    go false is e =
        let m = mapped Some (name_of w) o e in
        let s = name_sound w m.value m.read in
        subst (λ v. IsOne v × (w ≡ one_text v)) m.gave s

-- places are read just as they are spelled
pub one_reader : Reads IsOne one_text one_of
one_reader = record { complete = one_complete; sound = one_sound }
