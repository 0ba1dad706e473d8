-- What a call adds to the types of its thread's results. Source: this project.
use Rattle.std.specs.Prelude.{ℕ, Option, Some, None, List, [], replicate}
use Rattle.command_tables.specs.declared.types.ObjectType.{ObjectType}

-- so many results of what a command makes; none where it makes nothing
abbrev pub gained : Option ObjectType → ℕ → List ObjectType
gained None count = []
gained (Some t) count = replicate count t
