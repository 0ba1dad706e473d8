-- Lists of texts in byte order, and lists in which the first of equal keys stays. Source: this project.
use Rattle.std.specs.Prelude.{ℕ, Bool, not, if◌then◌else◌, List, [], ◌∷◌, filter}
use Rattle.std.specs.Cmp.Lexicographic.{slice_cmp}
use Rattle.std.specs.Ordering.{nat_cmp, is_lt}
use Rattle.std.specs.Str.{bytes_eq}

-- a text stands before another in byte order
abbrev pub is_before : List ℕ → List ℕ → Bool
is_before x y = is_lt (slice_cmp nat_cmp x y)

-- a text is put into a list in byte order, in front of the first that stands behind it
abbrev pub put_in_order : List ℕ → List (List ℕ) → List (List ℕ)
put_in_order x [] = x ∷ []
put_in_order x (y ∷ ys) = if is_before y x then y ∷ put_in_order x ys else x ∷ y ∷ ys

-- texts in byte order
abbrev pub in_order : List (List ℕ) → List (List ℕ)
in_order [] = []
in_order (x ∷ xs) = put_in_order x (in_order xs)

-- of elements with one key the first stays
abbrev pub firsts : {X : Type 0} → (X → List ℕ) → List X → List X
firsts key [] = []
firsts key (x ∷ xs) = x ∷ filter (λ y. not (bytes_eq (key y) (key x))) (firsts key xs)
