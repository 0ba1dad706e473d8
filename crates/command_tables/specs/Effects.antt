-- What a command's effect makes, and when a call succeeds.
-- Source: Vulkan 1.3 specification, "Fundamentals", section "Return Codes",
-- and the chapters "Initialization" (vkEnumeratePhysicalDevices) and "Window System Integration" (vkGetSwapchainImagesKHR).
use Rattle.std.specs.Prelude.{Bool, true, false, ◌&&◌, ◌||◌, Option, Some, None}
use Rattle.command_tables.specs.declared.types.CommandId.{CommandId}
use Rattle.command_tables.specs.declared.types.Code.{Code}
use Rattle.command_tables.specs.declared.types.Code.TheVariants as code
use Rattle.command_tables.specs.declared.types.Effect.{Effect}
use Rattle.command_tables.specs.declared.types.Effect.TheVariants as eff
use Rattle.command_tables.specs.declared.types.ObjectType.{ObjectType}
use Rattle.command_tables.specs.Table.{row_of}
use Rattle.command_tables.specs.Tests.{same_code}

-- the type of what a command makes or gives
abbrev pub type_made : Effect → Option ObjectType
type_made (eff.Create t owner many) = Some t
type_made (eff.Retrieve t owner many) = Some t
type_made _ = None

-- the effect gives any number of objects, so that an incomplete answer is a success
abbrev pub lists_objects : Effect → Bool
lists_objects (eff.Retrieve t owner many) = many
lists_objects _ = false

-- a call succeeds where it answers nothing, or VK_SUCCESS, or VK_INCOMPLETE at a command that lists objects
abbrev pub succeeds : CommandId → Option Code → Bool
succeeds c None = true
succeeds c (Some a) = same_code a code.Success || (same_code a code.Incomplete && lists_objects (row_of c).effect)
