-- The births of what lives, in any order: what is left of them when objects end, and what is added when objects are born. Source: this project.
use Rattle.std.specs.Prelude.{◌≡◌, ℕ, Bool, true, not, ◌&&◌, ◌||◌, List, [], ◌∷◌, ◌++◌}
use Rattle.command_tables.specs.declared.types.Effect.{Effect}
use Rattle.command_tables.specs.declared.types.Effect.TheVariants as eff
use Rattle.object_model.specs.declared.Argument.{Argument}
use Rattle.object_model.specs.declared.Object.{Object}
use Rattle.object_model.specs.History.{Birth, born_in, created_in, owners_given, owners_in}

-- births, and the room for further ones with no further memory: for how many births, for how many entries in the lists of owners, and how
-- many owners what one call makes can have
pub record ObjectsState : Type 0 where
  pub births : List Birth
  pub spare : ℕ
  pub links : ℕ
  pub owners : ℕ

-- the owners of what a call makes, by its effect
abbrev pub owners_made : List Birth → List (List Argument) → Effect → List Object
owners_made before args (eff.Create t owner many) = owners_given before args owner
owners_made before args (eff.Retrieve t owner many) = owners_given before args owner
owners_made before args _ = []

-- these owners stand in a line: the first is among those born, and behind it stand its own owners
abbrev pub IsLine : List Birth → List Object → Type 0
IsLine bs [] = Unit {0}
IsLine bs (w ∷ ws) = (born_in bs w ≡ true) × (ws ≡ owners_in bs w)

-- the owners of every object stand in a line
abbrev pub AreLined : List Birth → Type 0
AreLined bs = (x : Object) → IsLine bs (owners_in bs x)

-- two lists say the same of an object's birth
pub record IsBornAlike (after before : List Birth) (x : Object) : Type 0 where
  pub created : created_in after x ≡ created_in before x
  pub owners : owners_in after x ≡ owners_in before x

-- what is left of births where these objects end
pub record AreLeft (before : List Birth) (ends : Object → Bool) (after : List Birth) : Type 0 where
  pub lives : (x : Object) → born_in after x ≡ (born_in before x && not (ends x))
  pub alike : (x : Object) → born_in after x ≡ true → IsBornAlike after before x

-- births with what is given
pub record AreAdded (before given after : List Birth) : Type 0 where
  pub lives : (x : Object) → born_in after x ≡ (born_in before x || born_in given x)
  pub alike : (x : Object) → born_in after x ≡ true → IsBornAlike after (before ++ given) x
