-- A call, a name, and a past in which a device was made. Source: this project.
use Rattle.std.specs.Prelude.{false, Some, None, List, [], ◌∷◌}
use Rattle.command_tables.specs.declared.types.CommandId.{CommandId}
use Rattle.command_tables.specs.declared.types.CommandId.TheVariants as cmd
use Rattle.command_tables.specs.declared.types.Code.TheVariants as code
use Rattle.trace_format.specs.declared.event.Name.{Name}
use Rattle.object_model.specs.declared.Argument.{Argument}
use Rattle.object_model.specs.declared.Argument.TheVariants.{The}
use Rattle.object_model.specs.Samples.{device, physical_device}
use Rattle.replay_model.specs.Past.{Opened, Past, Returned}

-- the name %1.4
abbrev pub name : Name
name = record { thread = 1; number = 4 }

-- a call with this one result that is sent to two drivers and is to answer success
abbrev pub opened : CommandId → List (List Argument) → Opened
opened c args = record { number = 4; thread = 1; cmd = c; args = args; results = name ∷ []; code = Some code.Success; payload = []; stop = None; refused = false; drivers = 0 ∷ 1 ∷ [] }

-- a device was made, and nothing else
abbrev pub device_made : Past
device_made = Returned (opened cmd.CreateDevice ((The physical_device ∷ []) ∷ [])) (record { place = 0; name = name; object = device } ∷ []) ∷ []
