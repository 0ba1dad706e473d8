-- The calls of a stream, each with the number of its device's plan. Source: this project.
use Rattle.std.specs.Prelude.{◌≡◌, ◌==◌, ◌<◌, ⊤, ℕ, true, Option, Some, None, is_some, List, [], ◌∷◌, filter, filter_map, length, option_map, position, slice_get}
use Rattle.std.specs.List.{AllByRecursion, flat_map}
use Rattle.trace_format.specs.declared.event.Name.{Name}
use Rattle.trace_format.specs.Accepting.{same_name}
use Rattle.trace_format.specs.Content.{BeginEvent, TraceEvent, Begin, Return}
use Rattle.stream_model.specs.FileParts.{FileParts, StreamPart}
use Rattle.stream_model.specs.Order.{device_named}
use Rattle.stream_model.specs.Plans.{device_written, stream_on}

-- a call of a stream by the number of its plan, from 0, and its begin
pub record PlannedCall : Type 0 where
  pub place : ℕ
  pub begin : BeginEvent

-- the events of a thread's calls
abbrev pub events_of_calls : ℕ → List PlannedCall → List TraceEvent
events_of_calls thread calls = flat_map (λ (c : PlannedCall). Begin c.begin ∷ Return thread ∷ []) calls

-- those of the plan with a number
abbrev pub calls_at : ℕ → List PlannedCall → List PlannedCall
calls_at k calls = filter (λ (c : PlannedCall). c.place == k) calls

-- the number of a device among these
abbrev pub number_among : List Name → Option Name → Option ℕ
number_among devices None = None
number_among devices (Some d) = position (λ (x : Name). same_name x d) devices

-- the call that an event begins, with the number of its device among these, by what tells the devices of names
abbrev pub planned_call : (Name → Option Name) → List Name → TraceEvent → Option PlannedCall
planned_call device_of devices (Begin b) = option_map (λ k. record { place = k; begin = b }) (number_among devices (device_named device_of b.cmd b.args))
planned_call device_of devices (Return thread) = None

-- the calls of events
abbrev pub calls_planned : (Name → Option Name) → List Name → List TraceEvent → List PlannedCall
calls_planned device_of devices es = filter_map (planned_call device_of devices) es

-- an event begins a call on one of these devices, or none
abbrev pub IsOnOne : (Name → Option Name) → List Name → TraceEvent → Type 0
IsOnOne device_of devices (Begin b) = is_some (number_among devices (device_named device_of b.cmd b.args)) ≡ true
IsOnOne device_of devices (Return thread) = ⊤

-- each call of the streams of a file is on one of these devices
abbrev pub AreOnThese : FileParts → List Name → Type 0
AreOnThese file devices = AllByRecursion (λ (s : StreamPart). AllByRecursion (IsOnOne (device_written file) devices) s.events) file.streams

-- These are the calls of a stream: their events are the stream's, and those on one of the devices are what the device's plan has of the stream.
pub record AreCallsOf (file : FileParts) (devices : List Name) (s : StreamPart) (calls : List PlannedCall) : Type 0 where
  pub events : events_of_calls s.thread calls ≡ s.events
  pub each : (k : ℕ) (device : Name) → slice_get devices k ≡ Some device → events_of_calls s.thread (calls_at k calls) ≡ (stream_on (device_written file) device s).events
  pub own : AllByRecursion (λ (c : PlannedCall). c.begin.thread ≡ s.thread) calls
  pub within : AllByRecursion (λ (c : PlannedCall). c.place < length devices) calls
