-- The contents of calls and replies: what passes down a chain of layers, and what a driver is told and answers.
-- Source: this project.
use Rattle.std.specs.Prelude.{ℕ, ◌≤◌, Bool, List, [], Option, None, length, vec_capacity}
use Rattle.command_tables.specs.declared.types.CommandId.{CommandId}
use Rattle.command_tables.specs.declared.types.CommandId.TheVariants as cmd
use Rattle.command_tables.specs.declared.types.Code.{Code}
use Rattle.command_tables.specs.declared.call.LayerCall.{LayerCall}
use Rattle.command_tables.specs.Handles.{HasRoom, count_in}

-- a call on its way down: its handles by parameter, the marks of the names that are not born yet, how many handles it asks for,
-- the code that it is to be answered, and what is passed on
pub record CallContent : Type 0 where
  pub cmd : CommandId
  pub args : List (List ℕ)
  pub unborn : List (List Bool)
  pub asked : ℕ
  pub code : Option Code
  pub payload : List ℕ

-- a call as a driver is told it, with the driver's number in the chain, from 0; it carries no marks
pub record DriverCallContent : Type 0 where
  pub driver : ℕ
  pub cmd : CommandId
  pub args : List (List ℕ)
  pub asked : ℕ
  pub code : Option Code
  pub payload : List ℕ

-- what a driver answers: a code, and the handles that it made or gave
pub record ReplyContent : Type 0 where
  pub code : Option Code
  pub handles : List ℕ

-- the content of a call
abbrev pub call_content : LayerCall → CallContent
call_content c = record { cmd = c.cmd; args = c.args.lists; unborn = c.args.marks; asked = c.asked; code = c.code; payload = c.payload.items }

-- what a driver with this number is told of a call
abbrev pub driver_call_content : ℕ → LayerCall → DriverCallContent
driver_call_content driver c = record { driver = driver; cmd = c.cmd; args = c.args.lists; asked = c.asked; code = c.code; payload = c.payload.items }

-- a call without arguments, which asks for nothing: what a call that only has room is
abbrev pub no_call : CallContent
no_call = record { cmd = cmd.CreateInstance; args = []; unborn = []; asked = 0; code = None; payload = [] }

-- the call can hold what another has with no further memory
pub record HasRoomFor (call : LayerCall) (other : CallContent) : Type 0 where
  pub handles : HasRoom call.args (length other.args) (count_in other.args)
  pub bytes : length other.payload ≤ vec_capacity call.payload
