-- A call above a part, read by its handles: pairs of a type and a handle stand in the place of objects. Source: this project.
use Rattle.std.specs.Prelude.{ℕ, Bool, true, false, if◌then◌else◌, ◌==◌, Option, Some, None, List, [], ◌∷◌}
use Rattle.command_tables.specs.declared.types.ObjectType.{ObjectType}
use Rattle.object_model.specs.declared.Object.{Object}
use Rattle.object_model.specs.declared.Argument.{Argument}
use Rattle.object_model.specs.declared.Argument.TheVariants.{Null, Unborn, The}
use Rattle.command_tables.specs.Calls.{CallContent}
use Rattle.command_tables.specs.Table.{ParamSpec, row_of}

-- ---- reading a call

-- what stands in a place, by its type, its handle and its mark
abbrev pub read_handle : ObjectType → ℕ → Bool → Argument
read_handle t h true = Unborn
read_handle t h false = if h == 0 then Null else The (record { ty = t; number = h })

-- the handles of one parameter
abbrev pub read_handles : ObjectType → List ℕ → List Bool → List Argument
read_handles t [] marks = []
read_handles t (h ∷ hs) [] = []
read_handles t (h ∷ hs) (m ∷ marks) = read_handle t h m ∷ read_handles t hs marks

-- the handles of all parameters
abbrev pub read_params : List ParamSpec → List (List ℕ) → List (List Bool) → List (List Argument)
read_params [] lists marks = []
read_params (p ∷ ps) [] marks = []
read_params (p ∷ ps) (hs ∷ lists) [] = []
read_params (p ∷ ps) (hs ∷ lists) (ms ∷ marks) = read_handles p.ty hs ms ∷ read_params ps lists marks

-- what stands in the places of a call: pairs of type and handle in place of objects
abbrev pub read_call : CallContent → List (List Argument)
read_call c = read_params (row_of c.cmd).params c.args c.unborn

-- the results that aren't lost, as such pairs
abbrev pub read_results : ObjectType → List ℕ → List Object
read_results t [] = []
read_results t (h ∷ hs) = if h == 0 then read_results t hs else record { ty = t; number = h } ∷ read_results t hs

-- the results of a command that makes or gives objects
abbrev pub read_made : Option ObjectType → List ℕ → List Object
read_made None hs = []
read_made (Some t) hs = read_results t hs
