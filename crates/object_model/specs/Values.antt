-- What each driver of a call answers, and the values that an object has of it.
-- Source: Khronos Vulkan-Loader interface documents, "Driver interface" (each driver answers handles of its own).
use Rattle.std.specs.Prelude.{ℕ, if◌then◌else◌, ◌==◌, List, map, filter, find, slice_get, unwrap_or}
use Rattle.std.specs.Option.{option_map_or}
use Rattle.command_tables.specs.declared.types.CommandId.{CommandId}
use Rattle.command_tables.specs.declared.types.CommandId.TheVariants as cmd
use Rattle.command_tables.specs.Tests.{same_command}

-- a driver with the handles that it answered
pub record Answered : Type 0 where
  pub driver : ℕ
  pub handles : List ℕ

-- a driver's value for an object
pub record Value : Type 0 where
  pub driver : ℕ
  pub value : ℕ

-- the handle in a place, and 0 where none was answered
abbrev pub handle_at : ℕ → Answered → Value
handle_at k a = record { driver = a.driver; value = unwrap_or (slice_get a.handles k) 0 }

-- The values of the result in a place: the handle there of each driver. A physical device's is the one handle of the driver whose number is its place.
abbrev pub values_answered : CommandId → List Answered → ℕ → List Value
values_answered c answers place =
    if same_command c cmd.EnumeratePhysicalDevices then map (handle_at 0) (filter (λ a. a.driver == place) answers) else map (handle_at place) answers

-- the first of these values, and 0 where there is none
abbrev pub first_value : List Value → ℕ
first_value values = option_map_or (λ v. v.value) (slice_get values 0) 0

-- a driver's own value, and where it has none that of the driver that has
abbrev pub value_for : ℕ → List Value → ℕ
value_for driver values = option_map_or (λ v. v.value) (find (λ v. v.driver == driver) values) (first_value values)

-- of each driver one physical device is asked for, else as many handles as the call has results
abbrev pub asked_of_each : CommandId → ℕ → ℕ
asked_of_each c results = if same_command c cmd.EnumeratePhysicalDevices then 1 else results
