-- Events that show each form of the grammar. Source: this project.
use Rattle.std.specs.Prelude.{ℕ, true, false, Option, Some, None, List, [], ◌∷◌, ◌++◌, codes, replicate}
use Rattle.std.specs.List.{join_with_byte}
use Rattle.command_tables.specs.declared.types.CommandId.{CommandId}
use Rattle.command_tables.specs.declared.types.CommandId.TheVariants as cmd
use Rattle.command_tables.specs.declared.types.Code.{Code}
use Rattle.command_tables.specs.declared.types.Code.TheVariants as code
use Rattle.trace_format.specs.declared.event.Name.{Name}
use Rattle.trace_format.specs.Content.{Arg, TraceEvent, Begin, Return}

-- the name of a thread with a number
abbrev pub name : ℕ → ℕ → Name
name thread number = record { thread = thread; number = number }

-- an argument of one place
abbrev pub one : Option Name → Arg
one n = record { many = false; names = n ∷ [] }

-- an argument that is a list
abbrev pub list : List (Option Name) → Arg
list names = record { many = true; names = names }

-- a begin
abbrev pub begins : ℕ → CommandId → List Arg → List Name → Option Code → List ℕ → TraceEvent
begins thread c args results answer payload = Begin (record { thread = thread; cmd = c; args = args; results = results; code = answer; payload = payload })

-- one result, no argument, a payload
abbrev pub instance : TraceEvent
instance = begins 1 cmd.CreateInstance [] (name 1 1 ∷ []) (Some code.Success) (codes "VK_LAYER_A,VK_LAYER_B")

-- no results of a command that may have any number
abbrev pub no_devices : TraceEvent
no_devices = begins 1 cmd.EnumeratePhysicalDevices (one (Some (name 1 1)) ∷ []) [] (Some code.Incomplete) []

-- one result, and an error
abbrev pub device : TraceEvent
device = begins 1 cmd.CreateDevice (one (Some (name 1 2)) ∷ []) (name 1 3 ∷ []) (Some code.ErrorOutOfPoolMemory) []

-- one result of a command that answers nothing
abbrev pub queue : TraceEvent
queue = begins 1 cmd.GetDeviceQueue (one (Some (name 1 3)) ∷ []) (name 1 4 ∷ []) None (codes "0 0")

-- several results, of the last thread
abbrev pub buffers : TraceEvent
buffers = begins 1024 cmd.AllocateCommandBuffers (one (Some (name 1 3)) ∷ one (Some (name 1 5)) ∷ []) (name 1024 1 ∷ name 1024 4194304 ∷ []) (Some code.Success) []

-- empty lists, a list with null inside, null, and a payload with a space
abbrev pub submit : TraceEvent
submit =
    begins 1 cmd.QueueSubmit (one (Some (name 1 4)) ∷ list [] ∷ list (Some (name 1 6) ∷ None ∷ Some (name 2 7) ∷ []) ∷ list [] ∷ one None ∷ []) [] (Some code.Success) (codes "a : b")

-- no results, no code, no payload
abbrev pub draw : TraceEvent
draw = begins 2 cmd.CmdDraw (one (Some (name 1 9)) ∷ []) [] None []

-- a list of so many nulls
abbrev pub waits : ℕ → TraceEvent
waits count = begins 1 cmd.WaitForFences (one (Some (name 1 3)) ∷ list (replicate count None) ∷ []) [] (Some code.Timeout) []

-- the line that would spell it
abbrev pub waits_line : ℕ → List ℕ
waits_line count = codes "b 1 vkWaitForFences %1.3 [" ++ (join_with_byte 44 (replicate count (codes "null")) ++ codes "] VK_TIMEOUT")

-- the begin and the return of an instance, newest first
abbrev pub with_instance : List TraceEvent
with_instance = Return 1 ∷ instance ∷ []

-- one result of a command that may have any number
abbrev pub devices : TraceEvent
devices = begins 1 cmd.EnumeratePhysicalDevices (one (Some (name 1 1)) ∷ []) (name 1 2 ∷ []) (Some code.Success) []

-- then the begin and the return of the enumeration of its physical device
abbrev pub with_device : List TraceEvent
with_device = Return 1 ∷ devices ∷ with_instance

-- one result, which may be used from the next line on
abbrev pub fence : TraceEvent
fence = begins 1 cmd.CreateFence (one (Some (name 1 3)) ∷ []) (name 1 4 ∷ []) (Some code.Success) []

-- then the begin and the return of a device, and the begin of a fence
abbrev pub with_fence : List TraceEvent
with_fence = fence ∷ Return 1 ∷ device ∷ with_device
