-- The steps of the merge, on the entries that are merged.
use Rattle.std.proofs.Common.{◌≡◌, ◌⊎◌, ℕ, ◌+◌, ◌-◌, ◌<◌, ◌≤◌, true, List, [], ◌∷◌, ◌++◌, length, take, drop, get_or, sym, ap, ◌∙◌, subst, arith}
use Rattle.std.specs.Prelude.{map}
use Rattle.std.specs.Borrow.{Bor}
use Rattle.std.proofs.lemmas.List.{map-append, drop-map, get_or-map, length-map, length-drop, take_all}
use Rattle.stream_log.specs.declared.entry.Entry.{Entry}
use Rattle.log_merge.specs.Halves.{IsMergeOfTwo}
use Rattle.log_merge.specs.Merged.{NumberedLine, may_precede}
use Rattle.log_merge.specs.Numbered.{numbered}
use Rattle.log_merge.proofs.Steps.{State, step_left, step_right, ended}

at_place : (xs : List (ℕ × Bor Entry)) (i : ℕ) (x : ℕ × Bor Entry) (d : NumberedLine) → i < length xs → x ≡ get_or xs i x → numbered x ≡ get_or (map numbered xs) i d
at_place xs i x d lt is = ap numbered is ∙ sym (get_or-map numbered xs i x d lt)

pushed : (merged out : List (ℕ × Bor Entry)) (p : ℕ × Bor Entry) (z : NumberedLine) → out ≡ merged ++ p ∷ [] → numbered p ≡ z → map numbered merged ++ z ∷ [] ≡ map numbered out
pushed merged out p z is same =
    ap (λ (y : NumberedLine). map numbered merged ++ y ∷ []) (sym same) ∙ (sym (map-append numbered merged (p ∷ [])) ∙ ap (map numbered) (sym is))

pub took_left : (xs ys merged out : List (ℕ × Bor Entry)) (i j : ℕ) (a b p : ℕ × Bor Entry) → State (map numbered xs) (map numbered ys) (map numbered merged) i j
    → i < length xs → j < length ys → a ≡ get_or xs i a → b ≡ get_or ys j b → p ≡ get_or xs i p → may_precede (numbered a) (numbered b) ≡ true → out ≡ merged ++ p ∷ []
    → State (map numbered xs) (map numbered ys) (map numbered out) (i + 1) j
took_left xs ys merged out i j a b p s lt_x lt_y is_a is_b is_p le is =
    let X = map numbered xs in
    let Y = map numbered ys in
    let d = numbered a in
    let lx : i < length X = omega (arith, lt_x, length-map xs numbered) in
    let ly : j < length Y = omega (arith, lt_y, length-map ys numbered) in
    let first = subst (λ (y : NumberedLine). may_precede (get_or X i d) y ≡ true) (at_place ys j b d lt_y is_b) (subst (λ (x : NumberedLine). may_precede x (numbered b) ≡ true) (at_place xs i a d lt_x is_a) le) in
    subst (λ (l : List NumberedLine). State X Y l (i + 1) j) (pushed merged out p (get_or X i d) is (at_place xs i p d lt_x is_p)) (step_left X Y (map numbered merged) i j d s lx ly first)

pub took_right : (xs ys merged out : List (ℕ × Bor Entry)) (i j : ℕ) (a b p : ℕ × Bor Entry) → State (map numbered xs) (map numbered ys) (map numbered merged) i j
    → i < length xs → j < length ys → a ≡ get_or xs i a → b ≡ get_or ys j b → p ≡ get_or ys j p → may_precede (numbered b) (numbered a) ≡ true → out ≡ merged ++ p ∷ []
    → State (map numbered xs) (map numbered ys) (map numbered out) i (j + 1)
took_right xs ys merged out i j a b p s lt_x lt_y is_a is_b is_p le is =
    let X = map numbered xs in
    let Y = map numbered ys in
    let d = numbered a in
    let lx : i < length X = omega (arith, lt_x, length-map xs numbered) in
    let ly : j < length Y = omega (arith, lt_y, length-map ys numbered) in
    let first = subst (λ (x : NumberedLine). may_precede (get_or Y j d) x ≡ true) (at_place xs i a d lt_x is_a) (subst (λ (y : NumberedLine). may_precede y (numbered a) ≡ true) (at_place ys j b d lt_y is_b) le) in
    subst (λ (l : List NumberedLine). State X Y l i (j + 1)) (pushed merged out p (get_or Y j d) is (at_place ys j p d lt_y is_p)) (step_right X Y (map numbered merged) i j d s lx ly first)

rest_of : {X : Type 0} (xs : List X) (i : ℕ) → take (length xs - i) (drop i xs) ≡ drop i xs
rest_of xs i = take_all (length xs - i) (drop i xs) (omega (arith, length-drop i xs))

pub two_rests : {X : Type 0} (xs ys merged out : List X) (i j : ℕ) → out ≡ merged ++ take (length xs - i) (drop i xs)
    → out ++ take (length ys - j) (drop j ys) ≡ (merged ++ drop i xs) ++ drop j ys
two_rests xs ys merged out i j is = let e = is ∙ ap (λ l. merged ++ l) (rest_of xs i) in λ k. e k ++ rest_of ys j k

pub rest_follows : (xs ys merged out : List (ℕ × Bor Entry)) (i j : ℕ) → State (map numbered xs) (map numbered ys) (map numbered merged) i j
    → (length xs ≤ i) ⊎ (length ys ≤ j) → out ≡ (merged ++ drop i xs) ++ drop j ys → IsMergeOfTwo (map numbered xs) (map numbered ys) (map numbered out)
rest_follows xs ys merged out i j s over is =
    let X = map numbered xs in
    let Y = map numbered ys in
    let past : (length X ≤ i) ⊎ (length Y ≤ j) = rw (length-map xs numbered, length-map ys numbered) over in
    let same : (map numbered merged ++ drop i X) ++ drop j Y ≡ map numbered out =
    sym
    (ap (map numbered) is
    ∙ (map-append numbered (merged ++ drop i xs) (drop j ys)
    ∙ (ap (λ (l : List NumberedLine). l ++ map numbered (drop j ys)) (map-append numbered merged (drop i xs))
    ∙ (λ k. (map numbered merged ++ sym (drop-map numbered i xs) k) ++ sym (drop-map numbered j ys) k)))) in
    subst (IsMergeOfTwo X Y) same (ended X Y (map numbered merged) i j s past)
