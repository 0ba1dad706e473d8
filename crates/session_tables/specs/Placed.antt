-- Values of objects in one list without gaps, each found by its object's place. Source: this project.
use Rattle.std.specs.Prelude.{◌≡◌, ◌-◌, ℕ, Option, Some, List, find, length, min, slice_get, vec_capacity}
use Rattle.std.specs.Option.{option_map}
use Rattle.object_model.specs.declared.Object.{Object}
use Rattle.object_model.specs.Objects.{same}
use Rattle.session_tables.specs.declared.placed_table.Placed.{Placed}
use Rattle.session_tables.specs.declared.placed_table.PlacedTable.{PlacedTable}
use Rattle.session_tables.specs.Filing.{kept, places_room}

-- the entry of an object, if it has one
abbrev pub entry_of : {X : Type 0} → List (Placed X) → Object → Option (Placed X)
entry_of entries o = find (λ p. same p.object o) entries

-- what a table has for an object
abbrev pub placed_in : {X : Type 0} → PlacedTable X → Object → Option X
placed_in t o = option_map (λ p. p.value) (entry_of t.entries.items o)

-- these are the places of the entries
abbrev pub AreTheirPlaces : {X : Type 0} → (Object → Option ℕ) → List (Placed X) → Type 0
AreTheirPlaces {X = X} places entries = (i : ℕ) (p : Placed X) → slice_get entries i ≡ Some p → places p.object ≡ Some i

-- each entry of a table is found by its object's place
abbrev pub ArePlaced : {X : Type 0} → PlacedTable X → Type 0
ArePlaced t = AreTheirPlaces (kept t.places) t.entries.items

-- how many further entries can be held with no further memory. A place has 32 bits
abbrev pub table_room : {X : Type 0} → PlacedTable X → ℕ
table_room t = min (min (vec_capacity t.entries) 4294967296 - length t.entries.items) (places_room t.places)
