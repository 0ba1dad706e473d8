-- Small traces for a session: a setup, events and replies. Source: this project.
use Rattle.std.specs.Prelude.{ℕ, false, Some, None, List, [], ◌∷◌, ◌++◌, codes, decimal}
use Rattle.command_tables.specs.Calls.{DriverCallContent, ReplyContent}
use Rattle.command_tables.specs.declared.types.Code.TheVariants as code
use Rattle.command_tables.specs.declared.types.CommandId.{CommandId}
use Rattle.command_tables.specs.declared.types.CommandId.TheVariants as cmd
use Rattle.trace_format.specs.declared.event.Name.{Name}
use Rattle.trace_format.specs.Content.{Arg, TraceEvent, Begin, Return}
use Rattle.object_model.specs.declared.PartKind.TheVariants as part
use Rattle.replay_model.specs.Setup.{Setup, Chain}

-- ---- a small trace

-- one driver below a threads, a lifetimes and a unique part
abbrev pub three_parts : Setup
three_parts = record { drivers = 1; notes = []; outcome = λ payload. Chain (part.Threads ∷ part.Lifetimes ∷ part.Unique ∷ []) (λ number. codes "chain " ++ decimal number ++ codes " ok\n") }

-- a name of the first thread
abbrev pub name_given : ℕ → Name
name_given n = record { thread = 1; number = n }

-- one name as the only argument
abbrev pub argument_named : ℕ → List Arg
argument_named n = record { many = false; names = Some (name_given n) ∷ [] } ∷ []

-- the begin of a call that succeeds and has this one result
abbrev pub gives_one : CommandId → List Arg → ℕ → TraceEvent
gives_one c args n = Begin (record { thread = 1; cmd = c; args = args; results = name_given n ∷ []; code = Some code.Success; payload = [] })

-- the begin of a destroy
abbrev pub destroys : ℕ → CommandId → ℕ → TraceEvent
destroys thread c n = Begin (record { thread = thread; cmd = c; args = argument_named n; results = []; code = None; payload = [] })

-- Thread 1 makes an instance and enumerates its physical devices; before it returns, thread 2 destroys the instance.
abbrev pub destroyed_while_enumerated : List TraceEvent
destroyed_while_enumerated =
    gives_one cmd.CreateInstance [] 1 ∷ Return 1 ∷ gives_one cmd.EnumeratePhysicalDevices (argument_named 1) 2 ∷ destroys 2 cmd.DestroyInstance 1 ∷ Return 1 ∷ []

-- An instance is destroyed that has a device; then the device is destroyed twice.
abbrev pub destroyed_before_its_device : List TraceEvent
destroyed_before_its_device =
    gives_one cmd.CreateInstance [] 1 ∷ Return 1 ∷ gives_one cmd.EnumeratePhysicalDevices (argument_named 1) 2 ∷ Return 1 ∷ gives_one cmd.CreateDevice (argument_named 2) 3
    ∷ Return 1 ∷ destroys 1 cmd.DestroyInstance 1 ∷ Return 1 ∷ destroys 1 cmd.DestroyDevice 3 ∷ Return 1 ∷ destroys 1 cmd.DestroyDevice 3 ∷ Return 1 ∷ []

-- two drivers, and no layers
abbrev pub pair_of_drivers : Setup
pair_of_drivers = record { drivers = 2; notes = []; outcome = λ payload. Chain [] (λ number. codes "chain " ++ decimal number ++ codes " ok\n") }

-- An instance of two drivers names its two physical devices, and a device is made on the second.
abbrev pub device_of_the_second_driver : List TraceEvent
device_of_the_second_driver =
    gives_one cmd.CreateInstance [] 1 ∷ Return 1
    ∷ Begin (record { thread = 1; cmd = cmd.EnumeratePhysicalDevices; args = argument_named 1; results = name_given 2 ∷ name_given 3 ∷ []; code = Some code.Success; payload = [] }) ∷ Return 1
    ∷ gives_one cmd.CreateDevice (argument_named 3) 4 ∷ Return 1 ∷ []

-- ---- replies

-- one handle
abbrev pub one_handle : ℕ → ReplyContent
one_handle h = record { code = Some code.Success; handles = h ∷ [] }

-- nothing
abbrev pub no_handle : ReplyContent
no_handle = record { code = None; handles = [] }

-- what a driver was asked: its number and how many handles, and then the lists of arguments
abbrev pub asked_handles : DriverCallContent → List (List ℕ)
asked_handles d = (d.driver ∷ d.asked ∷ []) ∷ d.args
