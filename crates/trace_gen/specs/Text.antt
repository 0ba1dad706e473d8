-- The text of a generated trace: its header, and for each call a line for its begin and one for its return. Source: this project.
use Rattle.std.specs.Prelude.{ℕ, true, false, Option, Some, None, List, [], ◌∷◌, ◌++◌}
use Rattle.std.specs.List.{flat_map}
use Rattle.command_tables.specs.declared.types.CommandId.{CommandId}
use Rattle.command_tables.specs.declared.types.CommandId.TheVariants as cmd
use Rattle.command_tables.specs.declared.types.Code.{Code}
use Rattle.command_tables.specs.declared.types.Code.TheVariants.{Success}
use Rattle.replay_base.specs.Lines.{line_text}
use Rattle.trace_format.specs.declared.event.Name.{Name}
use Rattle.trace_format.specs.Accepting.{header}
use Rattle.trace_format.specs.Content.{Arg, TraceEvent, Begin, Return}
use Rattle.trace_format.specs.Grammar.{spelling}
use Rattle.trace_gen.specs.declared.call.Call.{Call}
use Rattle.trace_gen.specs.declared.call.Call.TheVariants.{CreateInstance, EnumeratePhysicalDevices, CreateDevice, CreateBuffer, GetBufferMemoryRequirements, DestroyBuffer, DestroyDevice, DestroyInstance}
use Rattle.trace_gen.specs.Turns.{calls_of}

-- a name of the one thread
abbrev pub name : ℕ → Name
name number = record { thread = 1; number = number }

-- an argument that is such a name
abbrev pub arg : ℕ → Arg
arg number = record { many = false; names = Some (name number) ∷ [] }

-- the begin of a call of the one thread, without payload
abbrev pub begins : CommandId → List Arg → List Name → Option Code → TraceEvent
begins command args results code = Begin (record { thread = 1; cmd = command; args = args; results = results; code = code; payload = [] })

-- the begin of a call: the instance has name 1, its physical device 2 and the device 3
abbrev pub begin_of : Call → TraceEvent
begin_of CreateInstance = begins cmd.CreateInstance [] (name 1 ∷ []) (Some Success)
begin_of EnumeratePhysicalDevices = begins cmd.EnumeratePhysicalDevices (arg 1 ∷ []) (name 2 ∷ []) (Some Success)
begin_of CreateDevice = begins cmd.CreateDevice (arg 2 ∷ []) (name 3 ∷ []) (Some Success)
begin_of (CreateBuffer buffer) = begins cmd.CreateBuffer (arg 3 ∷ []) (name buffer ∷ []) (Some Success)
begin_of (GetBufferMemoryRequirements buffer) = begins cmd.GetBufferMemoryRequirements (arg 3 ∷ arg buffer ∷ []) [] None
begin_of (DestroyBuffer buffer) = begins cmd.DestroyBuffer (arg 3 ∷ arg buffer ∷ []) [] None
begin_of DestroyDevice = begins cmd.DestroyDevice (arg 3 ∷ []) [] None
begin_of DestroyInstance = begins cmd.DestroyInstance (arg 1 ∷ []) [] None

-- the events of a call: its return comes directly behind its begin
abbrev pub events_of : Call → List TraceEvent
events_of call = begin_of call ∷ Return 1 ∷ []

-- the events of a trace, the oldest first
abbrev pub generated_events : ℕ → ℕ → List TraceEvent
generated_events number count = flat_map events_of (calls_of number count)

-- the line of an event, with its LF
abbrev pub event_line : TraceEvent → List ℕ
event_line e = line_text (spelling e) true

-- the lines of a call
abbrev pub call_text : Call → List ℕ
call_text call = event_line (begin_of call) ++ event_line (Return 1)

-- the lines of calls
abbrev pub calls_text : List Call → List ℕ
calls_text calls = flat_map call_text calls

-- the text of a trace
abbrev pub generated : ℕ → ℕ → List ℕ
generated number count = line_text header true ++ calls_text (calls_of number count)
