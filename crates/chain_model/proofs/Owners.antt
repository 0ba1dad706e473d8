-- Whose id comes with what a command retrieves.
use Rattle.std.specs.Prelude.{ℕ, Bool, true, false, Option, List, ◌||◌, slice_get}
use Rattle.std.specs.Option.{option_map, option_map_or}
use Rattle.command_tables.specs.declared.types.ObjectType.{ObjectType}
use Rattle.command_tables.specs.declared.types.OwnerOf.TheVariants as of
use Rattle.command_tables.specs.declared.types.Effect.{Effect}
use Rattle.command_tables.specs.declared.types.Effect.TheVariants as eff
use Rattle.command_tables.specs.Table.{ParamSpec}
use Rattle.layer_model.specs.Ids.{is_wrapped, is_bare}

-- what a command retrieves has the object of one of its parameters as its owner
abbrev pub retrieves_plainly : Effect → Bool
retrieves_plainly (eff.Retrieve t of.Nobody many) = true
retrieves_plainly (eff.Retrieve t (of.Param p) many) = true
retrieves_plainly (eff.Retrieve t (of.OwnerOfParam p) many) = false
retrieves_plainly _ = true

-- what is retrieved with an id of the terminator has an owner with one
abbrev pub type_at : List ParamSpec → ℕ → Option ObjectType
type_at ps p = option_map (λ (x : ParamSpec). x.ty) (slice_get ps p)

abbrev pub is_bare_at : List ParamSpec → ℕ → Bool
is_bare_at ps p = option_map_or is_bare (type_at ps p) false

abbrev pub owner_is_bare : List ParamSpec → Effect → Bool
owner_is_bare ps (eff.Retrieve t (of.Param p) many) = is_wrapped t || is_bare_at ps p
owner_is_bare ps _ = true
