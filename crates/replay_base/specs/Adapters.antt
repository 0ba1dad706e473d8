-- What an adapter knows of the reader or writer in it. Source: this project.
use Rattle.std.specs.Prelude.{◌≡◌, ◌||◌, ℕ, Bool, true, not, List, Option, is_some}

-- where an adapter tells bytes, they are known
abbrev pub IsKnownWhere : Bool → Option (List ℕ) → Type 0
IsKnownWhere tells bytes = not tells || is_some bytes ≡ true
