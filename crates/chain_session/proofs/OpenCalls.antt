-- What is found among open calls.
use Rattle.std.proofs.Common.{◌≡◌, ◌∙◌, ◌<◌, ℕ, zero, suc, length, take, drop, get_or, arith, Bool, true, false, cond, filter, map, List, [], ◌∷◌, ◌++◌, Option, Box, box_value, refl, ap, sym}
use Rattle.std.specs.List.{find}
use Rattle.session_tables.proofs.Lists.{find_map, mapped}

-- an element that isn't kept may be taken out before
pub kept_without : {X : Type 0} (keep : X → Bool) (xs : List X) (i : ℕ) (d : X) → i < length xs → keep (get_or xs i d) ≡ false → filter keep (take i xs ++ drop (suc i) xs) ≡ filter keep xs
kept_without keep [] i d less refused = absurd (omega arith)
kept_without keep (x ∷ xs) zero d less refused = sym (ap (λ t. cond t (x ∷ filter keep xs) (filter keep xs)) refused)
kept_without keep (x ∷ xs) (suc i) d less refused = go (keep x) (kept_without keep xs i d (omega arith) refused)
  where
    go : (t : Bool) → filter keep (take i xs ++ drop (suc i) xs) ≡ filter keep xs
        → cond t (x ∷ filter keep (take i xs ++ drop (suc i) xs)) (filter keep (take i xs ++ drop (suc i) xs)) ≡ cond t (x ∷ filter keep xs) (filter keep xs)
    go true ih = ap (λ ys. x ∷ ys) ih
    go false ih = ih

-- what is left of boxes has the values that are left
pub values_left : {X Z : Type 0} (keep : X → Bool) (bs : List (Box X Z)) → map box_value (filter (λ b. keep (box_value b)) bs) ≡ filter keep (map box_value bs)
values_left keep [] = refl
values_left keep (b ∷ bs) = go (keep (box_value b)) (values_left keep bs)
  where
    go : (t : Bool) → map box_value (filter (λ b. keep (box_value b)) bs) ≡ filter keep (map box_value bs)
        → map box_value (cond t (b ∷ filter (λ b. keep (box_value b)) bs) (filter (λ b. keep (box_value b)) bs)) ≡ cond t (box_value b ∷ filter keep (map box_value bs)) (filter keep (map box_value bs))
    go true ih = ap (λ xs. box_value b ∷ xs) ih
    go false ih = ih

-- what is found among boxes has the value that is found
pub value_found : {X Z : Type 0} (is : X → Bool) (bs : List (Box X Z)) (found : Option (Box X Z)) → found ≡ find (λ b. is (box_value b)) bs → mapped box_value found ≡ find is (map box_value bs)
value_found is bs found e = ap (mapped box_value) e ∙ sym (find_map is box_value bs)
