-- The handles of a call as lists. Source: this project.
use Rattle.std.specs.Prelude.{◌≡◌, ℕ, ◌≤◌, ◌<◌, Bool, List, [], ◌∷◌, length, map, sum, sum_by, take, drop, slice_set, slice_index_or}

-- for each parameter its handles and their unborn marks; and how many parameters, and how many handles in all, can be held with no
-- further memory
pub record Handles : Type 0 where
  pub lists : List (List ℕ)
  pub marks : List (List Bool)
  pub slots : ℕ
  pub room : ℕ

-- a list cut into pieces of these lengths
abbrev pub cut : {A : Type 0} → List ℕ → List A → List (List A)
cut [] xs = []
cut (n ∷ ns) xs = take n xs ∷ cut ns (drop n xs)

-- there are at most so many lengths, they take all handles, and there is one mark for each handle
pub record AreWhole (limit : ℕ) (lengths handles : List ℕ) (marks : List Bool) : Type 0 where
  pub few : length lengths ≤ limit
  pub all : sum lengths ≡ length handles
  pub marked : sum lengths ≡ length marks

-- the list of a parameter; where there is no such parameter it is empty
abbrev pub list_at : {A : Type 0} → List (List A) → ℕ → List A
list_at xss p = slice_index_or xss p []

-- the lists with one place of one of them replaced
abbrev pub put : {A : Type 0} → List (List A) → ℕ → ℕ → A → List (List A)
put xss p k x = slice_set xss p (slice_set (list_at xss p) k x)

-- there is a parameter p, and its list has a place k
pub record HasPlace (xss : List (List ℕ)) (p k : ℕ) : Type 0 where
  pub param : p < length xss
  pub place : k < length (list_at xss p)

-- so many parameters, with so many handles in all, can be held with no further memory
pub record HasRoom (a : Handles) (params handles : ℕ) : Type 0 where
  pub slots : params ≤ a.slots
  pub room : handles ≤ a.room

-- how many handles there are in all
abbrev pub count_in : List (List ℕ) → ℕ
count_in xss = sum_by (λ xs. length xs) xss

-- there is one mark beside each handle
abbrev pub HasMarks : Handles → Type 0
HasMarks a = map (λ ms. length ms) a.marks ≡ map (λ xs. length xs) a.lists
