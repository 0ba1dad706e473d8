-- Objects, and what stands in the places of a call. An object is a type and a number, and only these tell two objects apart.
-- Source: Vulkan 1.3 specification, "Fundamentals", section "Object Model".
use Rattle.std.specs.Prelude.{ℕ, Bool, false, ◌&&◌, ◌==◌, Option, Some, None, List, [], slice_get, unwrap_or, option_and_then}
use Rattle.std.specs.List.{list_any, filter_map}
use Rattle.command_tables.specs.Tests.{same_type}
use Rattle.object_model.specs.declared.Object.{Object}
use Rattle.object_model.specs.declared.Argument.{Argument}
use Rattle.object_model.specs.declared.Argument.TheVariants.{Null, Unborn, The}

-- two objects are the same where type and number are
abbrev pub same : Object → Object → Bool
same a b = same_type a.ty b.ty && a.number == b.number

-- both are there and are the same
abbrev pub are_same : Option Object → Option Object → Bool
are_same (Some a) (Some b) = same a b
are_same (Some a) None = false
are_same None b = false

-- the object is one of these
abbrev pub is_in : List Object → Object → Bool
is_in xs x = list_any (λ y. same y x) xs

-- the object that an argument stands for: null stands for none, nor does a name that isn't born
abbrev pub object_of : Argument → Option Object
object_of Null = None
object_of Unborn = None
object_of (The o) = Some o

-- the objects for which the arguments of a parameter stand
abbrev pub objects_in : List (List Argument) → ℕ → List Object
objects_in args p = filter_map object_of (unwrap_or (slice_get args p) [])

-- the object for which the first argument of a parameter stands
abbrev pub first_in : List (List Argument) → ℕ → Option Object
first_in args p = option_and_then object_of (slice_get (unwrap_or (slice_get args p) []) 0)
