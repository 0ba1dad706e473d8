-- The environment variables of a run. Source: this project.
use Rattle.std.specs.Prelude.{ℕ, List, [], ◌∷◌, Option, Some, None, if◌then◌else◌}
use Rattle.std.specs.Str.{bytes_eq}

-- a variable with a value
pub record Variable : Type 0 where
  pub name : List ℕ
  pub value : List ℕ

-- the value of a name: variables stand newest first, so the last one that was put counts
abbrev pub value_of : List Variable → List ℕ → Option (List ℕ)
value_of [] name = None
value_of (newest ∷ older) name = if bytes_eq newest.name name then Some newest.value else value_of older name
