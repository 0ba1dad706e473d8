-- Which results of a call are born at its return, and for which objects they stand.
-- Source: Vulkan 1.3 specification, "Fundamentals", sections "Object Lifetime" and "Return Codes", and the chapters "Initialization" (vkEnumeratePhysicalDevices),
-- "Devices and Queues" (vkGetDeviceQueue) and "Window System Integration" (vkGetSwapchainImagesKHR).
use Rattle.std.specs.Prelude.{ℕ, ◌+◌, ◌*◌, Bool, false, not, ◌&&◌, ◌||◌, if◌then◌else◌, ◌==◌, Option, List, [], map, find, take}
use Rattle.std.specs.List.{enumerate_from}
use Rattle.std.specs.Option.{option_map_or}
use Rattle.std.specs.Str.{bytes_eq}
use Rattle.command_tables.specs.declared.types.CommandId.{CommandId}
use Rattle.command_tables.specs.declared.types.CommandId.TheVariants as cmd
use Rattle.command_tables.specs.declared.types.ObjectType.{ObjectType}
use Rattle.command_tables.specs.declared.types.Effect.{Effect}
use Rattle.command_tables.specs.declared.types.Effect.TheVariants as eff
use Rattle.command_tables.specs.Effects.{succeeds, type_made}
use Rattle.command_tables.specs.Table.{row_of}
use Rattle.command_tables.specs.Tests.{same_command, same_type}
use Rattle.trace_format.specs.declared.event.Name.{Name}
use Rattle.object_model.specs.declared.Object.{Object}
use Rattle.object_model.specs.Objects.{are_same}
use Rattle.object_model.specs.History.{Birth}
use Rattle.replay_model.specs.declared.Born.{Born}
use Rattle.replay_model.specs.Past.{Opened, is_skipped, Retrieval, owner_by}
use Rattle.object_model.specs.Keys.{key_payload}

-- the owner lives, or the call makes an instance, which has none
abbrev pub owner_lives : (Object → Bool) → CommandId → Option Object → Bool
owner_lives living c owner = same_command c cmd.CreateInstance || option_map_or living owner false

-- the results of a call are born at its return: it isn't skipped, it succeeds, and their owner is alive there
abbrev pub bears : List Birth → (Object → Bool) → Opened → Bool
bears births living o = not (is_skipped o) && (succeeds o.cmd o.code && owner_lives living o.cmd (owner_by births o.args (row_of o.cmd).effect))

-- the results that can be born: of physical devices as many as there are drivers
abbrev pub bearable : ℕ → Opened → List Name
bearable drivers o = if same_command o.cmd cmd.EnumeratePhysicalDevices then take drivers o.results else o.results

-- an object's number is made of its first name
abbrev pub own_number : Name → ℕ
own_number name = name.number * 2048 + name.thread

-- the object of its own for which a name stands
abbrev pub own_object : ObjectType → Name → Object
own_object t name = record { ty = t; number = own_number name }

-- this type, owner and key was retrieved before
abbrev pub is_kept : ObjectType → Option Object → ℕ → List ℕ → Retrieval → Bool
is_kept t owner place payload r = same_type r.object.ty t && (are_same r.owner owner && (r.place == place && bytes_eq r.payload payload))

-- the object of this type, owner and key that was retrieved before, or one of the name's own
abbrev pub retrieved_object : List Retrieval → Opened → Option Object → ObjectType → ℕ → Name → Object
retrieved_object kept o owner t place name =
    option_map_or (λ r. r.object) (find (is_kept t owner place (key_payload o.cmd o.payload)) kept) (own_object t name)

-- the object for which a result stands: a created one is of its own
abbrev pub result_object : List Birth → List Retrieval → Opened → Effect → ObjectType → ℕ → Name → Object
result_object births kept o (eff.Retrieve r owner many) t place name = retrieved_object kept o (owner_by births o.args (eff.Retrieve r owner many)) t place name
result_object births kept o _ t place name = own_object t name

-- each result with its place and its object
abbrev pub born_with : List Birth → List Retrieval → Opened → List Name → List Born
born_with births kept o results =
    option_map_or (λ t. map (λ (x : ℕ × Name). record { place = x.0; name = x.1; object = result_object births kept o (row_of o.cmd).effect t x.0 x.1 }) (enumerate_from 0 results)) (type_made (row_of o.cmd).effect) []

-- The results that are born at a return, by the number of drivers, the births so far, the test of what lives there and the retrieved objects so far.
-- A lost result never stands for an object.
abbrev pub made_by : ℕ → List Birth → (Object → Bool) → List Retrieval → Opened → List Born
made_by drivers births living kept o = if bears births living o then born_with births kept o (bearable drivers o) else []
