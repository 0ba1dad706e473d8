-- The shape of begins of the grammar, and of answers.
use Rattle.std.specs.Prelude.{◌≡◌, ◌<◌, ◌==◌, ℕ, true, false, List, length}
use Rattle.std.specs.List.{AllByRecursion}
use Rattle.command_tables.specs.declared.types.CommandId.{CommandId}
use Rattle.replay_model.specs.declared.Born.{Born}
use Rattle.command_tables.specs.Table.{row_of}
use Rattle.trace_format.specs.Content.{TraceEvent, BeginEvent, Begin, Return}
use Rattle.object_model.specs.Values.{Answered, first_value, value_for, values_answered}
use Rattle.layer_model.specs.Ids.{is_wrapped}

-- a begin of the grammar: the threads of the names that it gives are small, and it has an argument for each parameter
pub record IsShaped (b : BeginEvent) : Type 0 where
  pub names : AllByRecursion (λ n. n.thread < 2048) b.results
  pub args : length b.args ≡ length (row_of b.cmd).params

-- a begin is of the grammar
abbrev pub IsShapedEvent : TraceEvent → Type 0
IsShapedEvent (Begin b) = IsShaped b
IsShapedEvent (Return thread) = Unit {0}

-- all begins are of the grammar
abbrev pub AreShaped : List TraceEvent → Type 0
AreShaped events = AllByRecursion IsShapedEvent events

-- the drivers gave no 0, and one value for each wrapped object
pub record AnsweredWell (c : CommandId) (answers : List Answered) (made : List Born) : Type 0 where
  pub live : AllByRecursion (λ b. is_wrapped b.object.ty ≡ true → (first_value (values_answered c answers b.place) == 0) ≡ false) made
  pub sole : AllByRecursion (λ b. is_wrapped b.object.ty ≡ true → (driver : ℕ) → value_for driver (values_answered c answers b.place) ≡ first_value (values_answered c answers b.place)) made
