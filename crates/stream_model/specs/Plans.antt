-- What the threads of a stream file do on one device: of each stream its calls there, and which of their events comes next as the threads take turns. A turn is the
-- number of its thread. Source: this project.
use Rattle.std.specs.Prelude.{ℕ, ◌==◌, ⊤, Bool, true, false, Option, Some, None, IsSome, List, [], ◌∷◌, find, filter, length, map, reverse, slice_get}
use Rattle.std.specs.Option.{option_map_or}
use Rattle.trace_format.specs.declared.event.Name.{Name}
use Rattle.trace_format.specs.Content.{TraceEvent, Begin, Return}
use Rattle.stream_model.specs.Devices.{written_device}
use Rattle.stream_model.specs.FileParts.{FileParts, StreamPart, all_events}
use Rattle.stream_model.specs.Order.{device_named, same_device}

-- ---- the plan of a device

-- a device and, of each thread, its events at this device, the oldest first
pub record DevicePlan : Type 0 where
  pub device : Name
  pub streams : List StreamPart

-- an event in front of others, where it is kept
abbrev pub kept_if : Bool → TraceEvent → List TraceEvent → List TraceEvent
kept_if true e events = e ∷ events
kept_if false e events = events

-- The events of the calls on a device among those of one thread, by what tells the devices of names: a begin is on the device of its first argument, and a return
-- is where its begin is. `on` says whether the call before these events is on the device.
abbrev pub calls_on : (Name → Option Name) → Name → Bool → List TraceEvent → List TraceEvent
calls_on device_of device on [] = []
calls_on device_of device on (Begin b ∷ events) =
    let here = same_device (device_named device_of b.cmd b.args) (Some device) in kept_if here (Begin b) (calls_on device_of device here events)
calls_on device_of device on (Return thread ∷ events) = kept_if on (Return thread) (calls_on device_of device on events)

-- a stream's calls on a device
abbrev pub stream_on : (Name → Option Name) → Name → StreamPart → StreamPart
stream_on device_of device s = record { thread = s.thread; events = calls_on device_of device false s.events }

-- the written device of each name of a file
abbrev pub device_written : FileParts → Name → Option Name
device_written file = written_device (reverse (all_events file))

-- the plan that is cut from a file for a device: of each stream, in the file's order, its calls on the device
abbrev pub plan_cut : FileParts → Name → DevicePlan
plan_cut file device = record { device = device; streams = map (stream_on (device_written file) device) file.streams }

-- ---- turns, of which the newest comes first

-- the events of a thread in these streams: none where it has no stream
abbrev pub events_planned : List StreamPart → ℕ → List TraceEvent
events_planned streams thread = option_map_or (λ (s : StreamPart). s.events) (find (λ (s : StreamPart). s.thread == thread) streams) []

-- how many of these turns are this thread's
abbrev pub turns_of : ℕ → List ℕ → ℕ
turns_of thread threads = length (filter (λ t. t == thread) threads)

-- the event that comes next for a thread behind these turns, in whatever order they came: as many of its events come before it as it had turns
abbrev pub next_turn : List StreamPart → ℕ → List ℕ → Option TraceEvent
next_turn streams thread threads = slice_get (events_planned streams thread) (turns_of thread threads)

-- events with one more, where there is one
abbrev pub with_event : Option TraceEvent → List TraceEvent → List TraceEvent
with_event None events = events
with_event (Some e) events = e ∷ events

-- the events of these turns, the newest first: each is the next of its thread behind the turns before it
abbrev pub events_along : List StreamPart → List ℕ → List TraceEvent
events_along streams [] = []
events_along streams (thread ∷ before) = with_event (next_turn streams thread before) (events_along streams before)

-- each turn has an event
abbrev pub Along : List StreamPart → List ℕ → Type 0
Along streams [] = ⊤
Along streams (thread ∷ before) = IsSome (next_turn streams thread before) × Along streams before
