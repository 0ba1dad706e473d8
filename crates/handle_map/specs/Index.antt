-- How pairs are found by rows of places, and by a small map. Source: this project.
use Rattle.std.specs.Prelude.{◌≡◌, ◌≢◌, ◌⊎◌, ℕ, zero, suc, Bool, false, if◌then◌else◌, Option, Some, List, slice_get, slice_index}
use Rattle.std.specs.Option.{option_and_then, option_map, option_map_or}
use Rattle.command_tables.specs.declared.types.ObjectType.{ObjectType}
use Rattle.handle_map.specs.Bounds.{is_numbered_apart}
use Rattle.handle_map.specs.Pairs.{AreDistinct, MapEntry, Pair, is_pair, place_of, values_of}
use Rattle.handle_map.specs.declared.place_rows.PlaceRows.{PlaceRows}

-- what a row notes for an id: one more than a place, or 0 where nothing is noted
abbrev pub link_in : PlaceRows → ObjectType → ℕ → ℕ
link_in rows t id = if is_numbered_apart t then slice_index rows.apart.items id else slice_index rows.others.items id

-- what was noted in a row stays
abbrev pub LinksStay : List ℕ → List ℕ → Type 0
LinksStay old new = (id : ℕ) → slice_index old id ≢ 0 → slice_index new id ≡ slice_index old id

-- what was noted in any row stays
abbrev pub AllLinksStay : PlaceRows → PlaceRows → Type 0
AllLinksStay old new = (t : ObjectType) (id : ℕ) → link_in old t id ≢ 0 → link_in new t id ≡ link_in old t id

-- the pair stands before this link
abbrev pub stands_before : List Pair → ℕ → ObjectType → ℕ → Bool
stands_before pairs zero t id = false
stands_before pairs (suc place) t id = option_map_or (is_pair t id) (slice_get pairs place) false

-- the place that a map has for a pair: its first value
abbrev pub place_in_map : List (MapEntry (List ℕ)) → ObjectType → ℕ → Option ℕ
place_in_map entries t id = option_and_then (λ places. slice_get places 0) (values_of entries t id)

-- the rows note the place of the pair, or else the map has it; of a pair that isn't there the map knows nothing
abbrev pub IsPlacedBy : PlaceRows → List (MapEntry (List ℕ)) → List Pair → ObjectType → ℕ → Type 0
IsPlacedBy rows sparse pairs t id = (Some (link_in rows t id) ≡ option_map suc (place_of pairs t id)) ⊎ (place_in_map sparse t id ≡ place_of pairs t id)

-- the place of a pair is noted in its row, or else the map has it; the map has the other places as before
pub record IsNoted (rows : PlaceRows) (sparse more : List (MapEntry (List ℕ))) (p : Pair) (place : ℕ) : Type 0 where
  pub own : (link_in rows p.ty p.id ≡ suc place) ⊎ (place_in_map more p.ty p.id ≡ Some place)
  pub others : (t : ObjectType) (id : ℕ) → is_pair t id p ≡ false → place_in_map more t id ≡ place_in_map sparse t id

-- no pair stands twice, and each is found
pub record IsIndex (rows : PlaceRows) (sparse : List (MapEntry (List ℕ))) (pairs : List Pair) : Type 0 where
  pub distinct : AreDistinct pairs
  pub found : (t : ObjectType) (id : ℕ) → IsPlacedBy rows sparse pairs t id
