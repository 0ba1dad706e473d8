-- By what a retrieved object is known beside its owner, its type and its place in the answer.
-- Source: Vulkan 1.3 specification, "Devices and Queues" (vkGetDeviceQueue: family and index name a queue).
use Rattle.std.specs.Prelude.{ℕ, if◌then◌else◌, List, []}
use Rattle.command_tables.specs.declared.types.CommandId.{CommandId}
use Rattle.command_tables.specs.declared.types.CommandId.TheVariants as cmd
use Rattle.command_tables.specs.Tests.{same_command}

-- the payload as far as it is part of the key
abbrev pub key_payload : CommandId → List ℕ → List ℕ
key_payload c payload = if same_command c cmd.GetDeviceQueue then payload else []
