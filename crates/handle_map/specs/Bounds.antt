-- Ids beyond all those of a map, of which no entry need be looked for. Source: this project.
use Rattle.std.specs.Prelude.{◌≡◌, ℕ, ◌≤◌, ◌<◌, Bool, true, ◌&&◌, ◌||◌, nat_lt, if◌then◌else◌, min, max, List, length, slice_index_or}
use Rattle.command_tables.specs.Facts.{is_dispatchable}
use Rattle.command_tables.specs.Tests.{same_type}
use Rattle.command_tables.specs.declared.types.ObjectType.TheVariants as ty
use Rattle.command_tables.specs.declared.types.ObjectType.{ObjectType}
use Rattle.handle_map.specs.declared.bounds.Bounds.{Bounds}
use Rattle.handle_map.specs.declared.entry.Entry.{Entry}

-- ids of the type are mostly numbered apart from those of others
abbrev pub is_numbered_apart : ObjectType → Bool
is_numbered_apart t = is_dispatchable t || same_type t ty.Surface

-- no entry has an id below the least, and none of a type that is numbered apart has one above theirs
pub record IsBounded (entries : List Entry) (bounds : Bounds) : Type 0 where
  pub least : (place : ℕ) (other : Entry) → place < length entries → bounds.least ≤ (slice_index_or entries place other).id
  pub apart : (place : ℕ) (other : Entry) → place < length entries → is_numbered_apart (slice_index_or entries place other).ty ≡ true → (slice_index_or entries place other).id ≤ bounds.apart

-- the id is below the least, above the greatest of all, or above the greatest of those that are numbered apart with it
abbrev pub is_beyond : Bounds → ObjectType → ℕ → Bool
is_beyond bounds t id = nat_lt id bounds.least || (nat_lt bounds.greatest id || (is_numbered_apart t && nat_lt bounds.apart id))

-- the bounds with an id more
abbrev pub bounds_with : Bounds → ObjectType → ℕ → Bounds
bounds_with bounds t id = record { least = min bounds.least id; greatest = max bounds.greatest id; apart = if is_numbered_apart t then max bounds.apart id else bounds.apart }
