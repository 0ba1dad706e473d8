-- Small plans and logs. Events, entries and replies stand newest first where nothing else is said. Source: this project.
use Rattle.std.specs.Prelude.{ℕ, true, false, Option, Some, None, List, [], ◌∷◌, ◌++◌}
use Rattle.command_tables.specs.Calls.{DriverCallContent, ReplyContent}
use Rattle.command_tables.specs.declared.types.Code.{Code}
use Rattle.command_tables.specs.declared.types.Code.TheVariants as code
use Rattle.command_tables.specs.declared.types.CommandId.{CommandId}
use Rattle.command_tables.specs.declared.types.CommandId.TheVariants as cmd
use Rattle.stream_log.specs.declared.line.Line.{Line}
use Rattle.stream_log.specs.Log.{line}
use Rattle.trace_format.specs.declared.event.Name.{Name}
use Rattle.trace_format.specs.Content.{Arg, BeginEvent, TraceEvent, Begin, Return}
use Rattle.trace_format.specs.Samples.{name, one}
use Rattle.replay_model.specs.Direct.{driver_calls, valued}
use Rattle.replay_model.specs.Judged.{begun_of, judged}
use Rattle.session_model.specs.Samples.{one_handle, three_parts}
use Rattle.stream_model.specs.FileParts.{StreamPart}
use Rattle.shard_model.specs.Followed.{events_of}

-- ---- events

-- a begin that asks for success and has this one result
abbrev pub making : ℕ → CommandId → Name → Name → BeginEvent
making thread c owner made = record { thread = thread; cmd = c; args = one (Some owner) ∷ []; results = made ∷ []; code = Some code.Success; payload = [] }

-- a begin without results, on these names
abbrev pub asking : ℕ → CommandId → List Arg → Option Code → BeginEvent
asking thread c args answer = record { thread = thread; cmd = c; args = args; results = []; code = answer; payload = [] }

-- the instance %1.1
abbrev pub instance : BeginEvent
instance = record { thread = 1; cmd = cmd.CreateInstance; args = []; results = name 1 1 ∷ []; code = Some code.Success; payload = [] }

-- the instance %1.1, its physical device %1.2 and the device %1.3
abbrev pub with_device : List TraceEvent
with_device =
    Return 1 ∷ Begin (making 1 cmd.CreateDevice (name 1 2) (name 1 3)) ∷ Return 1 ∷ Begin (making 1 cmd.EnumeratePhysicalDevices (name 1 1) (name 1 2)) ∷ Return 1 ∷ Begin instance ∷ []

-- what the driver replied to these calls
abbrev pub replied : List ReplyContent
replied = one_handle 9 ∷ one_handle 8 ∷ one_handle 7 ∷ []

-- thread 1 makes a buffer
abbrev pub buffer : BeginEvent
buffer = making 1 cmd.CreateBuffer (name 1 3) (name 1 4)

-- thread 2 makes a fence
abbrev pub fence : BeginEvent
fence = making 2 cmd.CreateFence (name 1 3) (name 2 1)

-- ---- a plan of two threads, and its log

-- a stream of one call
abbrev pub stream_of : BeginEvent → StreamPart
stream_of b = record { thread = b.thread; events = Begin b ∷ Return b.thread ∷ [] }

-- each thread makes one call
abbrev pub two_streams : List StreamPart
two_streams = stream_of buffer ∷ stream_of fence ∷ []

-- both calls begin before they return
abbrev pub begun_twice : List Line
begun_twice = line 2 2 true [] ∷ line 1 1 true [] ∷ []

-- then thread 2 returns with one handle, and thread 1 with another
abbrev pub returned_twice : ℕ → ℕ → List Line
returned_twice first second = line 1 4 false (second ∷ []) ∷ line 2 3 false (first ∷ []) ∷ begun_twice

-- the driver calls of a begin behind the setup and this log, with these replies
abbrev pub told_behind : List StreamPart → List Line → List ReplyContent → BeginEvent → List DriverCallContent
told_behind streams entries replies b =
    let past = judged three_parts (events_of streams entries ++ with_device) in driver_calls (valued past replies) (begun_of three_parts past b).opened

-- ---- a call that is skipped

-- a reply to a call that fails
abbrev pub refusal : ReplyContent
refusal = record { code = Some code.ErrorOutOfHostMemory; handles = [] }

-- the same buffer is destroyed
abbrev pub buffer_destroyed : BeginEvent
buffer_destroyed = asking 1 cmd.DestroyBuffer (one (Some (name 1 3)) ∷ one (Some (name 1 4)) ∷ []) None

-- the buffer isn't made, and is destroyed
abbrev pub lost_buffer : List StreamPart
lost_buffer = record { thread = 1; events = Begin (record buffer { code = Some code.ErrorOutOfHostMemory }) ∷ Return 1 ∷ Begin buffer_destroyed ∷ Return 1 ∷ [] } ∷ []

-- the log of the first call: its return has no result
abbrev pub not_made : List Line
not_made = line 1 2 false [] ∷ line 1 1 true [] ∷ []

-- the log of both: no return has a result
abbrev pub not_destroyed : List Line
not_destroyed = line 1 4 false [] ∷ line 1 3 true [] ∷ not_made
