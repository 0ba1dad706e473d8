-- The value that is kept for an object: where its number leads to, or else beside the rows. Source: this project.
use Rattle.std.specs.Prelude.{◌%◌, ◌/◌, ◌*◌, ◌+◌, ◌-◌, ◌++◌, ℕ, suc, Bool, true, false, List, [], ◌∷◌, length, map, min, take, Option, Some, None, if◌then◌else◌, option_and_then, slice_get, vec_capacity}
use Rattle.std.specs.HashMap.{get, spare}
use Rattle.std.specs.Option.{option_map_or, option_or}
use Rattle.command_tables.specs.declared.types.ObjectType.{ObjectType}
use Rattle.command_tables.specs.Tests.{same_type}
use Rattle.object_model.specs.declared.Object.{Object}
use Rattle.object_model.specs.Objects.{same}
use Rattle.session_tables.specs.declared.object_places.Far.{Far}
use Rattle.session_tables.specs.declared.filed_rows.Filed.{Filed}
use Rattle.session_tables.specs.declared.object_places.ObjectPlaces.{ObjectPlaces}
use Rattle.session_tables.specs.FiledRows.{cells_of, filed_cell}

-- the value that is filed for objects of this type
abbrev pub filed_for : {V : Type 0} → Filed V → ObjectType → Option V
filed_for f ty = option_and_then (λ (t : ObjectType). if same_type t ty then Some f.value else None) f.ty

-- a value may be kept for an object of this type: nothing is filed, or a value for the same type
abbrev pub is_open : {V : Type 0} → Filed V → ObjectType → Bool
is_open f ty = option_map_or (λ (t : ObjectType). same_type t ty) f.ty true

-- what is filed for the type, and else the other
abbrev pub filed : {V : Type 0} → Filed V → ObjectType → Option V → Option V
filed f ty other = option_or (filed_for f ty) other

-- the entry at an index is there and is the object's
abbrev pub is_own : {V : Type 0} → List (Far V) → Object → ℕ → Bool
is_own {V = V} far o i = option_map_or (λ (f : Far V). same f.object o) (slice_get far i) false

-- the index that is known for an object, where it leads to its own entry
abbrev pub own_index : {V : Type 0} → List (Far V) → Object → Option ℕ → Option ℕ
own_index far o at = option_and_then (λ (i : ℕ). if is_own far o i then Some i else None) at

-- the value in the entry at an index, where it is the object's
abbrev pub own_value : {V : Type 0} → List (Far V) → Object → ℕ → Option V
own_value {V = V} far o i = option_and_then (λ (f : Far V). if same f.object o then Some f.value else None) (slice_get far i)

-- the value that an object has beside the rows, by the index that is known for it
abbrev pub far_value : {V : Type 0} → List (Far V) → Object → Option ℕ → Option V
far_value far o at = option_and_then (λ (i : ℕ). own_value far o i) at

-- the value that is kept for an object
abbrev pub kept : {V : Type 0} → ObjectPlaces V → Object → Option V
kept m o = filed (filed_cell m.empty m.rows.items (o.number % 2048) (o.number / 2048)) o.ty (far_value m.far.items o (get same m.others o))

-- how many further objects can have a value beside the rows with no further memory. An index has 32 bits
abbrev pub places_room : {V : Type 0} → ObjectPlaces V → ℕ
places_room m = min (spare m.others) (min (vec_capacity m.far) 4294967295 - length m.far.items)

-- ---- all objects for which a value is kept

-- the objects that are filed in a row, from a place on
abbrev pub row_objects : {V : Type 0} → ℕ → ℕ → List (Filed V) → List Object
row_objects r n [] = []
row_objects r n (f ∷ cells) = option_map_or (λ (t : ObjectType). record { ty = t; number = n * 2048 + r } ∷ row_objects r (suc n) cells) f.ty (row_objects r (suc n) cells)

-- those in all rows, from one on
abbrev pub rows_objects : {V : Type 0} → ℕ → List (List (Filed V)) → List Object
rows_objects r [] = []
rows_objects r (cells ∷ rows) = row_objects r 0 cells ++ rows_objects (suc r) rows

-- those in the rows that a number leads to, and those beside the rows
abbrev pub objects_with_values : {V : Type 0} → ObjectPlaces V → List Object
objects_with_values {V = V} m = rows_objects 0 (take 2048 (map cells_of m.rows.items)) ++ map (λ (f : Far V). f.object) m.far.items
