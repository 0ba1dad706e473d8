-- The merges of the streams of a file: what its threads may have done beside each other, as one list of events. Source: this project.
use Rattle.std.specs.Prelude.{◌≡◌, ◌==◌, ℕ, Bool, true, false, if◌then◌else◌, Option, Some, List, [], ◌∷◌, ◌++◌, filter, length}
use Rattle.std.specs.List.{AllByRecursion, list_any}
use Rattle.trace_format.specs.declared.event.Name.{Name}
use Rattle.trace_format.specs.Content.{TraceEvent, Begin, Return}
use Rattle.stream_model.specs.FileParts.{FileParts, StreamPart}
use Rattle.stream_model.specs.Order.{device_named, event_thread, same_device}
use Rattle.stream_model.specs.Plans.{kept_if, turns_of}

-- the events of a thread
abbrev pub events_of_thread : ℕ → List TraceEvent → List TraceEvent
events_of_thread thread es = filter (λ e. event_thread e == thread) es

-- one of these streams is of the event's thread
abbrev pub has_stream : List StreamPart → TraceEvent → Bool
has_stream streams e = list_any (λ (s : StreamPart). s.thread == event_thread e) streams

-- A merge of streams, the oldest event first: the events of a stream's thread are, in order, that stream, and there are no others.
pub record IsMerge (streams : List StreamPart) (merge : List TraceEvent) : Type 0 where
  pub each : AllByRecursion (λ (s : StreamPart). events_of_thread s.thread merge ≡ s.events) streams
  pub others : AllByRecursion (λ e. has_stream streams e ≡ true) merge

-- a file with a merge in place of its streams: setup, the merge and teardown, the oldest event first
abbrev pub merged_events : FileParts → List TraceEvent → List TraceEvent
merged_events file merge = file.setup ++ (merge ++ file.teardown)

-- each stream's thread has had as many of these turns as the stream has events
abbrev pub AreAllTaken : List StreamPart → List ℕ → Type 0
AreAllTaken streams turns = AllByRecursion (λ (s : StreamPart). turns_of s.thread turns ≡ length s.events) streams

-- ---- what a merge has of a device. Events stand newest first

-- whether the last call of a thread is on a device, by what tells the devices of names: not where it has begun none
abbrev pub last_on : (Name → Option Name) → Name → ℕ → List TraceEvent → Bool
last_on device_of device thread [] = false
last_on device_of device thread (Begin b ∷ before) =
    if b.thread == thread then same_device (device_named device_of b.cmd b.args) (Some device) else last_on device_of device thread before
last_on device_of device thread (Return t ∷ before) = last_on device_of device thread before

-- whether an event behind these is on a device: a begin where its first argument is of it, and a return where its begin is
abbrev pub is_on : (Name → Option Name) → Name → List TraceEvent → TraceEvent → Bool
is_on device_of device before (Begin b) = same_device (device_named device_of b.cmd b.args) (Some device)
is_on device_of device before (Return thread) = last_on device_of device thread before

-- those of these events that are on a device
abbrev pub events_on : (Name → Option Name) → Name → List TraceEvent → List TraceEvent
events_on device_of device [] = []
events_on device_of device (e ∷ before) = kept_if (is_on device_of device before e) e (events_on device_of device before)
