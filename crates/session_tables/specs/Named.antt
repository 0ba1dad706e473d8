-- Names with their objects, as they are kept. Source: this project.
use Rattle.std.specs.Prelude.{ℕ, suc, Bool, Option, Some, None, List, [], ◌∷◌, ◌++◌}
use Rattle.std.specs.List.{list_any}
use Rattle.std.specs.Option.{option_map_or}
use Rattle.command_tables.specs.declared.types.ObjectType.{ObjectType}
use Rattle.object_model.specs.declared.Object.{Object}
use Rattle.trace_format.specs.declared.event.Name.{Name}
use Rattle.trace_format.specs.Accepting.{same_name}
use Rattle.replay_model.specs.Births.{own_object}
use Rattle.replay_model.specs.declared.Named.{Named}

-- names with their objects, how many were put, and how many further ones can be with no further memory
pub record NamesState : Type 0 where
  pub names : List Named
  pub count : ℕ
  pub spare : ℕ

-- the name of a thread with a number
abbrev pub name_in_row : ℕ → ℕ → Name
name_in_row thread number = record { thread = thread; number = number }

-- a name with the object of this type that is made of it
abbrev pub own_named : ObjectType → Name → Named
own_named ty name = record { name = name; object = own_object ty name }

-- the names of a thread, from a number on, where a type is kept
abbrev pub row_named : ℕ → ℕ → List (Option ObjectType) → List Named
row_named t n [] = []
row_named t n (None ∷ types) = row_named t (suc n) types
row_named t n (Some ty ∷ types) = own_named ty (name_in_row t n) ∷ row_named t (suc n) types

-- those of all threads, from one on
abbrev pub rows_named : ℕ → List (List (Option ObjectType)) → List Named
rows_named t [] = []
rows_named t (types ∷ rows) = row_named t 0 types ++ rows_named (suc t) rows

-- ---- beside the rows

-- names with their objects, and how many further ones can be held with no further memory
pub record BesideState : Type 0 where
  pub named : List Named
  pub spare : ℕ

-- a name is among these
abbrev pub is_name_listed : List Name → Name → Bool
is_name_listed names q = list_any (λ n. same_name n q) names

-- those of these names that stand for an object
abbrev pub beside_named : (Name → Option Object) → List Name → List Named
beside_named f [] = []
beside_named f (n ∷ names) = option_map_or (λ o. record { name = n; object = o } ∷ beside_named f names) (f n) (beside_named f names)
