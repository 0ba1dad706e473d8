-- A list of values by type and id, which holds each pair once; and a list of such pairs alone. Source: this project.
use Rattle.std.specs.Prelude.{◌≡◌, ℕ, suc, ◌*◌, ◌≤◌, Bool, false, ◌&&◌, ◌==◌, if◌then◌else◌, max, Option, Some, None, List, [], ◌∷◌, find}
use Rattle.std.specs.List.{list_any}
use Rattle.std.specs.Option.{option_map}
use Rattle.command_tables.specs.declared.types.ObjectType.{ObjectType}
use Rattle.command_tables.specs.Tests.{same_type}

-- a pair of a type and an id, with what stands below it: the values of a map's entry
pub record MapEntry (V : Type 0) : Type 0 where
  pub ty : ObjectType
  pub id : ℕ
  pub values : V

-- a pair with nothing below it
abbrev pub Pair : Type 0
Pair = MapEntry (Unit {0})

-- the pair of a type and an id
abbrev pub pair : ObjectType → ℕ → Pair
pair ty id = record { ty = ty; id = id; values = tt }

-- pairs in order of insertion, and how many further ones can be held with no further memory
pub record SetState : Type 0 where
  pub pairs : List Pair
  pub spare : ℕ

-- the entries in order of insertion; and how many further entries, and how many further values in all, can be held with no further
-- memory
pub record MapState : Type 0 where
  pub entries : List (MapEntry (List ℕ))
  pub spare : ℕ
  pub room : ℕ

-- the entry is of this pair
abbrev pub is_pair : {V : Type 0} → ObjectType → ℕ → MapEntry V → Bool
is_pair ty id e = same_type e.ty ty && e.id == id

-- there is an entry of the pair
abbrev pub has_pair : {V : Type 0} → List (MapEntry V) → ObjectType → ℕ → Bool
has_pair entries ty id = list_any (is_pair ty id) entries

-- the place of a pair, where the first entry has this place
abbrev pub place_from : {V : Type 0} → ℕ → List (MapEntry V) → ObjectType → ℕ → Option ℕ
place_from k [] ty id = None
place_from k (e ∷ entries) ty id = if is_pair ty id e then Some k else place_from (suc k) entries ty id

-- the place of a pair, counted from 0
abbrev pub place_of : {V : Type 0} → List (MapEntry V) → ObjectType → ℕ → Option ℕ
place_of entries ty id = place_from 0 entries ty id

-- the values of a pair, where it has an entry
abbrev pub values_of : {V : Type 0} → List (MapEntry V) → ObjectType → ℕ → Option V
values_of entries ty id = option_map (λ e. e.values) (find (is_pair ty id) entries)

-- the pair has these values now: in its place, or last where it is new
abbrev pub with_values : {V : Type 0} → List (MapEntry V) → ObjectType → ℕ → V → List (MapEntry V)
with_values [] ty id values = record { ty = ty; id = id; values = values } ∷ []
with_values (e ∷ entries) ty id values = if is_pair ty id e then record e { values = values } ∷ entries else e ∷ with_values entries ty id values

-- no pair stands twice
abbrev pub AreDistinct : {V : Type 0} → List (MapEntry V) → Type 0
AreDistinct [] = Unit {0}
AreDistinct (e ∷ entries) = (has_pair entries e.ty e.id ≡ false) × AreDistinct entries

-- the greatest id, or 0 where there is no entry
abbrev pub greatest_id : {V : Type 0} → List (MapEntry V) → ℕ
greatest_id [] = 0
greatest_id (e ∷ entries) = max e.id (greatest_id entries)

-- so many further entries, each with at most so many values, can be held with no further memory
pub record HasSpare (m : MapState) (entries values : ℕ) : Type 0 where
  pub spare : entries ≤ m.spare
  pub room : entries * values ≤ m.room
