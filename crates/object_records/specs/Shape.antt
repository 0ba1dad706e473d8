-- The shape of a call, and the places of its parameters. Source: this project.
use Rattle.std.specs.Prelude.{◌≡◌, ℕ, not, List, length, filter, slice_index_or}
use Rattle.std.specs.List.{IsDistinct}
use Rattle.command_tables.specs.Calls.{call_content}
use Rattle.command_tables.specs.Effects.{type_made}
use Rattle.command_tables.specs.Handles.{list_at}
use Rattle.command_tables.specs.Table.{row_of}
use Rattle.command_tables.specs.declared.call.LayerCall.{LayerCall}
use Rattle.object_model.specs.declared.Object.{Object}
use Rattle.object_model.specs.declared.Argument.{Argument}
use Rattle.object_model.specs.declared.Argument.TheVariants.{Null}
use Rattle.object_model.specs.History.{Birth, born_in}
use Rattle.object_model.specs.Objects.{same}
use Rattle.layer_model.specs.Reading.{read_call, read_made}

-- the call has a list of handles for each parameter of its row
abbrev pub HasParams : LayerCall → Type 0
HasParams c = length c.args.lists ≡ length (row_of c.cmd).params

-- what stands in the places of a call, by its handles
abbrev pub arguments_of : LayerCall → List (List Argument)
arguments_of c = read_call (call_content c)

-- what stands in a place of a parameter; where there is no such place it is null
abbrev pub argument_in : List (List Argument) → ℕ → ℕ → Argument
argument_in args p k = slice_index_or (list_at args p) k Null

-- the results of a call as pairs
abbrev pub made_of : LayerCall → List ℕ → List Object
made_of c results = read_made (type_made (row_of c.cmd).effect) results

-- of these objects no two that aren't born yet are the same
abbrev pub AreNewOnce : List Birth → List Object → Type 0
AreNewOnce births made = IsDistinct same (filter (λ o. not (born_in births o)) made)
