-- The stars at the ends of a text.
use Rattle.std.proofs.Common.{◌≡◌, ◌≢◌, ℕ, ◌+◌, ◌-◌, ◌<◌, Bool, true, false, eqb, List, [], ◌∷◌, ◌++◌, length, take, get_or, refl, ap, sym, ◌∙◌, arith}
use Rattle.std.proofs.lemmas.List.{take_more}
use Rattle.std.proofs.Math.Seq.{take-length}
use Rattle.std.proofs.lemmas.Grind.{common_steps}
use Rattle.std.proofs.lemmas.Bool.Decides.{Decides-eqb}
use Rattle.env_filters.specs.Globs.{form_of, part_of, begins_with_star, ends_with_star}
use Rattle.env_filters.specs.declared.glob.Form.TheVariants.{Whole, Prefix}

-- a text that isn't a star and a rest begins with none
no_star_first : (text : List ℕ) → ((rest : List ℕ) → text ≢ 42 ∷ rest) → begins_with_star text ≡ false
no_star_first [] h = refl
no_star_first (b ∷ bs) h = go (eqb b 42) (Decides-eqb b 42).0
  where
    go : (t : Bool) → (t ≡ true → b ≡ 42) → t ≡ false
    go true is = absurd (h bs (ap (λ x. x ∷ bs) (is refl)))
    go false is = refl

-- the last byte of a text with one
last_byte : (front : List ℕ) (b : ℕ) → get_or (front ++ b ∷ []) (length (front ++ b ∷ []) - 1) 0 ≡ b
last_byte front b = grind (arith, common_steps)

-- the front of a text with a last byte
all_but_last : (front : List ℕ) (b : ℕ) → take (length (front ++ b ∷ []) - 1) (front ++ b ∷ []) ≡ front
all_but_last front b = grind (arith, common_steps)

-- a text is its front and its last byte
front_and_last : (b : ℕ) (bs : List ℕ) → b ∷ bs ≡ take (length (b ∷ bs) - 1) (b ∷ bs) ++ (get_or (b ∷ bs) (length (b ∷ bs) - 1) 0 ∷ [])
front_and_last b bs = go (length (b ∷ bs)) (b ∷ bs) refl (omega arith)
  where
    go : (n : ℕ) (xs : List ℕ) → n ≡ length xs → 0 < n → xs ≡ take (n - 1) xs ++ (get_or xs (n - 1) 0 ∷ [])
    go n xs e h = let within : n - 1 < length xs = omega arith in let whole : n - 1 + 1 ≡ length xs = omega arith in sym (sym (take_more xs (n - 1) 0 within) ∙ ap (λ k. take k xs) whole ∙ take-length xs)

-- a text that isn't a front and a star ends with none
no_star_last : (text : List ℕ) → ((front : List ℕ) → text ≢ front ++ 42 ∷ []) → ends_with_star text ≡ false
no_star_last [] h = refl
no_star_last (b ∷ bs) h = go (get_or (b ∷ bs) (length (b ∷ bs) - 1) 0) (front_and_last b bs) (eqb (get_or (b ∷ bs) (length (b ∷ bs) - 1) 0) 42) (Decides-eqb _ 42).0
  where
    go : (last : ℕ) → b ∷ bs ≡ take (length (b ∷ bs) - 1) (b ∷ bs) ++ (last ∷ []) → (t : Bool) → (t ≡ true → last ≡ 42) → t ≡ false
    go last e true is = absurd (h (take (length (b ∷ bs) - 1) (b ∷ bs)) (e ∙ ap (λ x. take (length (b ∷ bs) - 1) (b ∷ bs) ++ (x ∷ [])) (is refl)))
    go last e false is = refl

-- without stars at its ends a text is a whole one
pub whole_form : (text : List ℕ) → ((rest : List ℕ) → text ≢ 42 ∷ rest) → ((front : List ℕ) → text ≢ front ++ 42 ∷ []) → form_of text ≡ Whole
whole_form text first last = rw (no_star_first text first, no_star_last text last)

-- and its own part
pub whole_part : (text : List ℕ) → ((rest : List ℕ) → text ≢ 42 ∷ rest) → ((front : List ℕ) → text ≢ front ++ 42 ∷ []) → text ≡ part_of (form_of text) text
whole_part text first last = rw (whole_form text first last)

-- with a star at its end alone it is a prefix
pub prefix_form : (text front : List ℕ) → ((rest : List ℕ) → text ≢ 42 ∷ rest) → text ≡ front ++ 42 ∷ [] → (form_of text ≡ Prefix) × (front ≡ part_of (form_of text) text)
prefix_form text front first e =
    let ends : ends_with_star text ≡ true = rw e (ap (λ b. eqb b 42) (last_byte front 42)) in
    let form : form_of text ≡ Prefix = rw (no_star_first text first, ends) refl in
    (form, rw form (rw e (sym (all_but_last front 42))))
