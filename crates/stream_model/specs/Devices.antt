-- The device of a name, by what is written alone: whether a call succeeds, and what it ends, doesn't count.
-- Events stand newest first. Source: this project.
use Rattle.std.specs.Prelude.{ℕ, Bool, false, ◌&&◌, if◌then◌else◌, Option, Some, None, option_and_then, List, [], ◌∷◌, slice_get}
use Rattle.std.specs.List.{list_any}
use Rattle.std.specs.Option.{option_map_or}
use Rattle.command_tables.specs.declared.types.CommandId.{CommandId}
use Rattle.command_tables.specs.declared.types.Effect.{Effect}
use Rattle.command_tables.specs.declared.types.Effect.TheVariants as eff
use Rattle.command_tables.specs.declared.types.ObjectType.TheVariants as ty
use Rattle.command_tables.specs.declared.types.OwnerOf.{OwnerOf}
use Rattle.command_tables.specs.declared.types.OwnerOf.TheVariants as of
use Rattle.command_tables.specs.Effects.{type_made}
use Rattle.command_tables.specs.Table.{row_of}
use Rattle.command_tables.specs.Tests.{same_type}
use Rattle.trace_format.specs.declared.event.Name.{Name}
use Rattle.trace_format.specs.Accepting.{same_name}
use Rattle.trace_format.specs.Content.{Arg, BeginEvent, TraceEvent, Begin, Return}

-- the call has the name as a result
abbrev pub has_result : BeginEvent → Name → Bool
has_result b n = list_any (λ r. same_name r n) b.results

-- the name in an argument's first place; none where null is written
abbrev pub first_name : Arg → Option Name
first_name a = option_and_then (λ place. place) (slice_get a.names 0)

-- the name in the first place of the argument of a parameter, from 0
abbrev pub name_at : List Arg → ℕ → Option Name
name_at args p = option_and_then first_name (slice_get args p)

-- the argument that is the owner; nobody is none, and neither is the owner of an argument
abbrev pub owner_among : List Arg → OwnerOf → Option Name
owner_among args of.Nobody = None
owner_among args (of.Param p) = name_at args p
owner_among args (of.OwnerOfParam p) = None

-- the argument that an effect names as the owner of what it makes or gives
abbrev pub owner_written : List Arg → Effect → Option Name
owner_written args (eff.Create t owner many) = owner_among args owner
owner_written args (eff.Retrieve t owner many) = owner_among args owner
owner_written args _ = None

-- the command makes devices
abbrev pub makes_devices : CommandId → Bool
makes_devices c = option_map_or (λ t. same_type t ty.Device) (type_made (row_of c).effect) false

-- whose device a name has, behind a call: that of the owner, where the call gave the name, else its own as it was before
abbrev pub device_asked : BeginEvent → Name → Option Name
device_asked b n = if has_result b n then owner_written b.args (row_of b.cmd).effect else Some n

-- The written device of a name. That of a device's name is the name itself, that of any other is its owner's. A name without an owner that is written has none,
-- and neither has one whose owner was written null.
abbrev pub written_device : List TraceEvent → Name → Option Name
written_device [] n = None
written_device (Begin b ∷ before) n = if has_result b n && makes_devices b.cmd then Some n else option_and_then (written_device before) (device_asked b n)
written_device (Return thread ∷ before) n = written_device before n
