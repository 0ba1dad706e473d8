-- Words and pieces.
use Rattle.std.proofs.Common.{◌≡◌, ◌==◌, ◌<◌, ◌≤◌, ◌+◌, ℕ, suc, Bool, true, false, not, cond, List, [], ◌∷◌, length, take, drop, refl, ap, ◌∙◌, arith}
use Rattle.std.specs.List.{prefix_len, onto_first}
use Rattle.trace_format.specs.Words.{from, pieces, until}

-- how many bytes stand before the first c
abbrev count_before : ℕ → List ℕ → ℕ
count_before c bytes = prefix_len (λ b. not (b == c)) bytes

-- the bytes before the first c, and those from there on
pub cut_at : (c : ℕ) (bytes : List ℕ) → (take (count_before c bytes) bytes ≡ until c bytes) × (drop (count_before c bytes) bytes ≡ from c bytes)
cut_at c [] = (refl, refl)
cut_at c (b ∷ bytes) = go (b == c) (cut_at c bytes)
  where
    go : (stops : Bool) → (take (count_before c bytes) bytes ≡ until c bytes) × (drop (count_before c bytes) bytes ≡ from c bytes)
        → (take (cond (not stops) (1 + count_before c bytes) 0) (b ∷ bytes) ≡ cond stops [] (b ∷ until c bytes))
        × (drop (cond (not stops) (1 + count_before c bytes) 0) (b ∷ bytes) ≡ cond stops (b ∷ bytes) (from c bytes))
    go true rest = (refl, refl)
    go false rest =
        let one : 1 + count_before c bytes ≡ suc (count_before c bytes) = omega arith in
        (ap (λ n. take n (b ∷ bytes)) one ∙ ap (λ bs. b ∷ bs) rest.0, ap (λ n. drop n (b ∷ bytes)) one ∙ rest.1)

-- what stands from the first c on is no longer than the whole
pub from_shortens : (c : ℕ) (bytes : List ℕ) → length (from c bytes) ≤ length bytes
from_shortens c [] = omega arith
from_shortens c (b ∷ bytes) = go (b == c) (from_shortens c bytes)
  where
    go : (stops : Bool) → length (from c bytes) ≤ length bytes → length (cond stops (b ∷ bytes) (from c bytes)) ≤ suc (length bytes)
    go true h = omega arith
    go false h = omega arith

-- the pieces of what stands from the first comma on
abbrev pieces_from : List ℕ → List (List ℕ)
pieces_from [] = []
pieces_from (c ∷ rest) = pieces rest

-- the first piece ends at the first comma
pieces_cut : (bytes : List ℕ) → pieces bytes ≡ until 44 bytes ∷ pieces_from (from 44 bytes)
pieces_cut [] = refl
pieces_cut (b ∷ bytes) = go (b == 44) (pieces_cut bytes)
  where
    go : (comma : Bool) → pieces bytes ≡ until 44 bytes ∷ pieces_from (from 44 bytes)
        → cond comma ([] ∷ pieces bytes) (onto_first b (pieces bytes)) ≡ cond comma [] (b ∷ until 44 bytes) ∷ pieces_from (cond comma (b ∷ bytes) (from 44 bytes))
    go true rest = refl
    go false rest = ap (onto_first b) rest

-- where no comma stands, there is one piece
pub one_piece : (bytes : List ℕ) → length (from 44 bytes) ≡ 0 → pieces bytes ≡ until 44 bytes ∷ []
one_piece bytes none = pieces_cut bytes ∙ ap (λ ps. until 44 bytes ∷ ps) (go (from 44 bytes) none)
  where
    go : (rest : List ℕ) → length rest ≡ 0 → pieces_from rest ≡ []
    go [] e = refl
    go (c ∷ rest) e = cc

-- else the pieces go on after it
pub more_pieces : (bytes : List ℕ) (c : ℕ) (rest : List ℕ) → from 44 bytes ≡ c ∷ rest → pieces bytes ≡ until 44 bytes ∷ pieces rest
more_pieces bytes c rest e = pieces_cut bytes ∙ ap (λ r. until 44 bytes ∷ pieces_from r) e

-- which are shorter
pub rest_is_shorter : (bytes : List ℕ) (c : ℕ) (rest : List ℕ) → from 44 bytes ≡ c ∷ rest → length rest < length bytes
rest_is_shorter bytes c rest e = omega (arith, from_shortens 44 bytes, ap length e)
