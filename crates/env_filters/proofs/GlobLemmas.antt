-- Pieces of a text with its capitals lowered.
use Rattle.std.proofs.Common.{◌≡◌, ◌↔◌, ℕ, ◌+◌, ◌-◌, ◌<◌, Bool, true, false, ◌||◌, IsTrue, Decides, nat_eq, List, [], ◌∷◌, ◌++◌, length, take, drop, get_or, refl, ap, sym, ◌∙◌, arith, add-one, drop-cons}
use Rattle.std.specs.List.{starts_with, ends_with}
use Rattle.std.specs.Str.{bytes_eq}
use Rattle.std.specs.Char.{to_ascii_lowercase}
use Rattle.std.proofs.lemmas.Grind.{common_steps}
use Rattle.std.proofs.lemmas.List.{length-map, take-map, drop-map}
use Rattle.std.proofs.lemmas.Bool.Decides.{same_from_decides, Decides-eqb}
use Rattle.std.proofs.lemmas.Slice.Eq.{bytes_eq-Decides, starts_is, ends_is}
use Rattle.env_filters.specs.Globs.{Form, Pattern, lowered, has_part, stands_in, StandsIn, is_match, Match}
use Rattle.env_filters.specs.declared.glob.Form.TheVariants.{Whole, Prefix, Suffix, Infix}

-- a test that tells whether two texts are one
same_test : (r : Bool) (xs ys : List ℕ) → (IsTrue r ↔ (xs ≡ ys)) → r ≡ bytes_eq ys xs
same_test r xs ys h =
    same_from_decides r (bytes_eq ys xs) (h.0, h.1) (λ e. sym ((bytes_eq-Decides ys xs).0 e), λ e. (bytes_eq-Decides ys xs).1 (sym e))

-- the same, the other way round
pub same_text : (r : Bool) (xs ys : List ℕ) → (IsTrue r ↔ (xs ≡ ys)) → r ≡ bytes_eq xs ys
same_text r xs ys h = same_from_decides r (bytes_eq xs ys) (h.0, h.1) (bytes_eq-Decides xs ys)

-- a front as long as the part is compared
pub starts-lowered : (r : Bool) (name part : List ℕ) → (IsTrue r ↔ (lowered (take (length part) name) ≡ lowered part)) → r ≡ starts_with nat_eq (lowered name) (lowered part)
starts-lowered r name part h =
    rw (length-map part to_ascii_lowercase, take-map to_ascii_lowercase (length part) name) (same_test r _ _ h)

-- an end as long as the part is compared
pub ends-lowered : (r : Bool) (name part : List ℕ) → (IsTrue r ↔ (lowered (drop (length name - length part) name) ≡ lowered part)) → r ≡ ends_with nat_eq (lowered name) (lowered part)
ends-lowered r name part h =
    rw (length-map part to_ascii_lowercase, length-map name to_ascii_lowercase, drop-map to_ascii_lowercase (length name - length part) name) (same_test r _ _ h)

-- a test by the front of a list
front_decides : (name part : List ℕ) → Decides (starts_with nat_eq name part) ((rest : List ℕ) × (name ≡ part ++ rest))
front_decides name part =
    let is = starts_is Decides-eqb name part (starts_with nat_eq name part) refl in
    (λ e. (drop (length part) name, is.0 e), λ w. is.1 w.0 w.1)

-- a test by the end of a list
end_decides : (name part : List ℕ) → Decides (ends_with nat_eq name part) ((front : List ℕ) × (name ≡ front ++ part))
end_decides name part =
    let is = ends_is Decides-eqb name part (ends_with nat_eq name part) refl in
    (λ e. (take (length name - length part) name, is.0 e), λ w. is.1 w.0 w.1)

-- a part that is found stands between a front and a rest
piece_from_test : (part name : List ℕ) → has_part part name ≡ true → (front : List ℕ) × (rest : List ℕ) × (name ≡ front ++ (part ++ rest))
piece_from_test part [] e = let w = (front_decides [] part).0 e in ([], w.0, w.1)
piece_from_test part (b ∷ bs) e = go (starts_with nat_eq (b ∷ bs) part) (front_decides (b ∷ bs) part).0 e (piece_from_test part bs)
  where
    go : (t : Bool) → (t ≡ true → (rest : List ℕ) × (b ∷ bs ≡ part ++ rest)) → (t || has_part part bs) ≡ true
        → (has_part part bs ≡ true → (front : List ℕ) × (rest : List ℕ) × (bs ≡ front ++ (part ++ rest)))
        → (front : List ℕ) × (rest : List ℕ) × (b ∷ bs ≡ front ++ (part ++ rest))
    go true here e ih = let w = here refl in ([], w.0, w.1)
    go false here e ih = let w = ih e in (b ∷ w.0, w.1, ap (λ xs. b ∷ xs) w.2)

-- a part that stands between a front and a rest is found
test_from_piece : (part name front rest : List ℕ) → name ≡ front ++ (part ++ rest) → has_part part name ≡ true
test_from_piece part [] [] rest e = (front_decides [] part).1 (rest, e)
test_from_piece part [] (c ∷ front) rest e = cc
test_from_piece part (b ∷ bs) [] rest e = rw ((front_decides (b ∷ bs) part).1 (rest, e))
test_from_piece part (b ∷ bs) (c ∷ front) rest e =
    let found : has_part part bs ≡ true = test_from_piece part bs front rest cc in
    rw found (go (starts_with nat_eq (b ∷ bs) part))
  where
    go : (t : Bool) → (t || true) ≡ true
    go true = refl
    go false = refl

-- the test of each form says that the part stands there
stands_decides : (form : Form) (part name : List ℕ) → Decides (stands_in form part name) (StandsIn form part name)
stands_decides Whole part name = bytes_eq-Decides name part
stands_decides Prefix part name = front_decides name part
stands_decides Suffix part name = end_decides name part
stands_decides Infix part name = (piece_from_test part name, λ w. test_from_piece part name w.0 w.1 w.2)

-- the test of a glob says that it matches
pub match_decides : (r : Bool) (glob : Pattern) (name : List ℕ) → r ≡ is_match glob name → IsTrue r ↔ Match glob name
match_decides r glob name e =
    let is = stands_decides glob.form (lowered glob.part) (lowered name) in
    (λ t. is.0 (sym e ∙ t), λ m. e ∙ is.1 m)

-- where the part doesn't begin at a place, it begins after it or nowhere
pub place_passed : (name part : List ℕ) (at : ℕ) → at < length name → starts_with nat_eq (lowered (drop at name)) (lowered part) ≡ false
    → has_part (lowered part) (lowered (drop at name)) ≡ has_part (lowered part) (lowered (drop (at + 1) name))
place_passed name part at h e = go (drop at name) (drop (at + 1) name) (get_or name at 0) (rw add-one (drop-cons name at 0 h)) e
  where
    go : (here after : List ℕ) (b : ℕ) → here ≡ b ∷ after → starts_with nat_eq (lowered here) (lowered part) ≡ false
        → has_part (lowered part) (lowered here) ≡ has_part (lowered part) (lowered after)
    go [] after b s e = cc
    go (c ∷ here) after b s e =
        let same : here ≡ after = cc in
        rw e (ap (λ xs. has_part (lowered part) (lowered xs)) same)

-- what a range up to the length gives
pub tail_range : (n : ℕ) (xs : List ℕ) → take (length xs - n) (drop n xs) ≡ drop n xs
tail_range n xs = grind (arith, common_steps)
