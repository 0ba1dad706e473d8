-- Values below ids that were issued in order. Source: this project.
use Rattle.std.specs.Prelude.{ℕ, suc, List, [], ◌∷◌}
use Rattle.command_tables.specs.declared.types.ObjectType.{ObjectType}
use Rattle.handle_map.specs.Pairs.{MapEntry}

-- the ids with their types and values, in order, and how many further ones can be held with no further memory
pub record ValueState : Type 0 where
  pub entries : List (MapEntry ℕ)
  pub spare : ℕ

-- each type with the value at its place, below ids from this one on
abbrev pub numbered_from : ℕ → List ObjectType → List ℕ → List (MapEntry ℕ)
numbered_from id [] values = []
numbered_from id (t ∷ types) [] = []
numbered_from id (t ∷ types) (v ∷ values) = record { ty = t; id = id; values = v } ∷ numbered_from (suc id) types values
