-- The tables' entries as the definitions have them. Source: this project.
use Rattle.std.specs.Prelude.{Option, None, List, map, Vec}
use Rattle.std.specs.Option.{option_map, option_or}
use Rattle.command_tables.specs.declared.types.ObjectType.{ObjectType}
use Rattle.object_model.specs.declared.Argument.{Argument}
use Rattle.object_model.specs.declared.Object.{Object}
use Rattle.trace_format.specs.declared.event.Name.{Name}
use Rattle.replay_model.specs.Births.{own_object}
use Rattle.session_tables.specs.Dense.{cell}

-- the object of a name: that which is made of it where its type is kept, and else the other
abbrev pub object_at : {A : Type 0} → List (Vec (Option ObjectType) A) → Option Object → Name → Option Object
object_at rows other name = option_or (option_map (λ ty. own_object ty name) (cell None rows name.thread name.number)) other

-- arguments as lists
abbrev pub args_shown : {A : Type 0} → List (Vec Argument A) → List (List Argument)
args_shown args = map (λ a. a.items) args
