-- An event as its content: lists in place of vectors. Source: this project.
use Rattle.std.specs.Prelude.{ℕ, Bool, Option, List, map}
use Rattle.command_tables.specs.declared.types.CommandId.{CommandId}
use Rattle.command_tables.specs.declared.types.Code.{Code}
use Rattle.trace_format.specs.declared.event.Name.{Name}
use Rattle.trace_format.specs.declared.event.TraceArg.{TraceArg}
use Rattle.trace_format.specs.declared.event.Event.{Event}
use Rattle.trace_format.specs.declared.event.Event.TheVariants as rust

-- an argument: whether it is a list, and its names, where none stands for null
pub record Arg : Type 0 where
  pub many : Bool
  pub names : List (Option Name)

-- the begin of a call
pub record BeginEvent : Type 0 where
  pub thread : ℕ
  pub cmd : CommandId
  pub args : List Arg
  pub results : List Name
  pub code : Option Code
  pub payload : List ℕ

-- an event: the begin of a call, or the return of a thread's open call
pub data TraceEvent : Type 0 where
  Begin : BeginEvent → TraceEvent
  Return : (thread : ℕ) → TraceEvent

-- the content of an argument
abbrev pub arg_content : TraceArg → Arg
arg_content a = record { many = a.many; names = a.names.items }

-- the content of an event
abbrev pub content : Event → TraceEvent
content (rust.Begin thread cmd args results code payload) =
    Begin (record { thread = thread; cmd = cmd; args = map arg_content args.items; results = results.items; code = code; payload = payload.items })
content (rust.Return thread) = Return thread
