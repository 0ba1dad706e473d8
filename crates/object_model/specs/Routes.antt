-- Which drivers a call goes to.
-- Source: Khronos Vulkan-Loader interface documents, "Loader and Layer Interface" (calls on an instance go to every driver, calls on other
-- dispatchable objects to their own); for other first arguments this project.
use Rattle.std.specs.Prelude.{ℕ, Bool, not, ◌&&◌, if◌then◌else◌, Option, Some, None, List, [], ◌∷◌, find, slice_get, unwrap_or}
use Rattle.std.specs.List.{range_with_len}
use Rattle.std.specs.Option.{option_map_or}
use Rattle.command_tables.specs.declared.types.CommandId.{CommandId}
use Rattle.command_tables.specs.declared.types.CommandId.TheVariants as cmd
use Rattle.command_tables.specs.declared.types.ObjectType.{ObjectType}
use Rattle.command_tables.specs.declared.types.ObjectType.TheVariants as ty
use Rattle.command_tables.specs.Facts.{is_dispatchable}
use Rattle.command_tables.specs.Tests.{same_command, same_type}
use Rattle.object_model.specs.declared.Object.{Object}
use Rattle.object_model.specs.declared.Routed.{Routed}
use Rattle.object_model.specs.Objects.{same}

-- a call on an object of this type goes to one driver
abbrev pub is_routed : ObjectType → Bool
is_routed t = is_dispatchable t && not (same_type t ty.Instance)

-- the driver behind the result in a place of a call to these drivers: a physical device's place is its driver's number, any other result's
-- driver is the one that received the call
abbrev pub driver_behind : CommandId → List ℕ → ℕ → ℕ
driver_behind c drivers place = if same_command c cmd.EnumeratePhysicalDevices then place else unwrap_or (slice_get drivers 0) 0

-- the driver behind an object
abbrev pub driver_in : List Routed → Object → ℕ
driver_in routes o = option_map_or (λ r. r.driver) (find (λ r. same r.object o) routes) 0

-- A vkCreateInstance, and a call whose first argument is an instance, goes to every driver in order; any other call to the driver behind its first argument.
abbrev pub receivers : ℕ → List Routed → Option Object → List ℕ
receivers drivers routes None = range_with_len 0 drivers
receivers drivers routes (Some o) = if same_type o.ty ty.Instance then range_with_len 0 drivers else driver_in routes o ∷ []
