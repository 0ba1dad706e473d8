-- The values of pairs in one flat list. Source: this project.
use Rattle.std.specs.Prelude.{◌≡◌, ◌≢◌, ℕ, zero, suc, ◌+◌, ◌≤◌, ◌<◌, ◌⊎◌, List, [], ◌∷◌, length, take, drop, slice_index_or, slice_set}
use Rattle.handle_map.specs.Pairs.{MapEntry, Pair}
use Rattle.handle_map.specs.declared.span.Span.{Span}

-- the values of a span
abbrev pub values_at : List ℕ → Span → List ℕ
values_at values s = take s.len (drop s.start values)

-- a pair with the values of its span
abbrev pub entry_of : List ℕ → Pair → Span → MapEntry (List ℕ)
entry_of values p s = record { ty = p.ty; id = p.id; values = values_at values s }

-- all pairs with the values of their spans
abbrev pub entries_of : List ℕ → List Pair → List Span → List (MapEntry (List ℕ))
entries_of values [] spans = []
entries_of values (p ∷ pairs) [] = []
entries_of values (p ∷ pairs) (s ∷ spans) = entry_of values p s ∷ entries_of values pairs spans

-- the values of a span lie within its room, and that within the flat list
pub record IsWithin (values : List ℕ) (s : Span) : Type 0 where
  pub few : s.len ≤ s.room
  pub inside : s.start + s.room ≤ length values

-- the rooms of two spans have no place in common
abbrev pub AreApart : Span → Span → Type 0
AreApart a b = (a.start + a.room ≤ b.start) ⊎ (b.start + b.room ≤ a.start)

-- so many spans share the flat list, in which a place has 32 bits
pub record IsSpread (count : ℕ) (spans : List Span) (values : List ℕ) : Type 0 where
  pub all : length spans ≡ count
  pub short : length values ≤ 4294967295
  pub within : (place : ℕ) (other : Span) → place < length spans → IsWithin values (slice_index_or spans place other)
  pub apart : (a b : ℕ) (other : Span) → a < length spans → b < length spans → a ≢ b → AreApart (slice_index_or spans a other) (slice_index_or spans b other)

-- values in the place of others, from this place on
abbrev pub written : List ℕ → ℕ → List ℕ → List ℕ
written values start [] = values
written values start (v ∷ more) = written (slice_set values start v) (suc start) more

-- the entry at a place has these values now
abbrev pub put_at : List (MapEntry (List ℕ)) → ℕ → List ℕ → List (MapEntry (List ℕ))
put_at [] place values = []
put_at (e ∷ entries) zero values = record e { values = values } ∷ entries
put_at (e ∷ entries) (suc place) values = e ∷ put_at entries place values
