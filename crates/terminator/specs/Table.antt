-- How ids are kept: entries in order of issue, of which the first has the id 1, and one flat list of values. Source: this project.
use Rattle.std.specs.Prelude.{◌≡◌, ◌≢◌, ℕ, suc, ◌+◌, ◌≤◌, ◌<◌, ◌⊎◌, false, if◌then◌else◌, List, [], ◌∷◌, length, map, take, drop, slice_set, slice_index_or}
use Rattle.command_tables.specs.declared.types.ObjectType.{ObjectType}
use Rattle.object_model.specs.declared.Routed.{Routed}
use Rattle.object_model.specs.Routes.{is_routed}
use Rattle.object_model.specs.Values.{Value}
use Rattle.handle_map.specs.Pairs.{MapEntry, has_pair}
use Rattle.terminator.specs.declared.entry.IdEntry.{IdEntry}
use Rattle.terminator.specs.declared.value.DriverValue.{DriverValue}

-- the ids with their values, and the driver behind each id that has one of its own; and how many further ids, and how many further values
-- in all, can be held with no further memory
pub record TableState : Type 0 where
  pub entries : List (MapEntry (List Value))
  pub routes : List Routed
  pub spare : ℕ
  pub room : ℕ

-- a driver's value
abbrev pub value_of : DriverValue → Value
value_of v = record { driver = v.driver; value = v.value }

-- the values of an entry
abbrev pub values_at : List DriverValue → IdEntry → List DriverValue
values_at flat e = take e.len (drop e.start flat)

-- entries with their values, the first of which has this id
abbrev pub ids_from : ℕ → List DriverValue → List IdEntry → List (MapEntry (List Value))
ids_from id flat [] = []
ids_from id flat (e ∷ entries) = record { ty = e.ty; id = id; values = map value_of (values_at flat e) } ∷ ids_from (suc id) flat entries

-- the drivers behind those that have one of their own
abbrev pub routes_from : ℕ → List IdEntry → List Routed
routes_from id [] = []
routes_from id (e ∷ entries) = if is_routed e.ty then record { object = record { ty = e.ty; number = id }; driver = e.driver } ∷ routes_from (suc id) entries else routes_from (suc id) entries

-- an entry's values lie within the flat list
abbrev pub IsInside : List DriverValue → IdEntry → Type 0
IsInside flat e = e.start + e.len ≤ length flat

-- the values of two entries have no place in common
abbrev pub AreApart : IdEntry → IdEntry → Type 0
AreApart a b = (a.start + a.len ≤ b.start) ⊎ (b.start + b.len ≤ a.start)

-- the entries and their values fit together, and a place of a value has 32 bits
pub record IsTable (entries : List IdEntry) (flat : List DriverValue) : Type 0 where
  pub short : length flat ≤ 4294967295
  pub inside : (place : ℕ) (other : IdEntry) → place < length entries → IsInside flat (slice_index_or entries place other)
  pub apart : (a b : ℕ) (other : IdEntry) → a < length entries → b < length entries → a ≢ b → AreApart (slice_index_or entries a other) (slice_index_or entries b other)

-- the entry at this place is of the pair
pub record IsPlace (entries : List IdEntry) (t : ObjectType) (id place : ℕ) : Type 0 where
  pub number : id ≡ suc place
  pub within : place < length entries
  pub type : (other : IdEntry) → (slice_index_or entries place other).ty ≡ t

-- values in the place of others, from this place on
abbrev pub written : List DriverValue → ℕ → List DriverValue → List DriverValue
written flat start [] = flat
written flat start (v ∷ more) = written (slice_set flat start v) (suc start) more

-- no entry is of the pair
abbrev pub HasNoPlace : List IdEntry → ObjectType → ℕ → Type 0
HasNoPlace entries t id = (flat : List DriverValue) → has_pair (ids_from 1 flat entries) t id ≡ false
