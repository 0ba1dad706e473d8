-- The events of a stream dealt out to the plans of its calls, by the numbers of their devices. Source: this project.
use Rattle.std.specs.Prelude.{◌≡◌, ◌==◌, ◌<◌, ℕ, Bool, false, Option, Some, None, List, Vec, [], ◌∷◌, ◌++◌, length, map, slice_get, slice_index_or, slice_set}
use Rattle.std.specs.List.{IsDistinct}
use Rattle.trace_format.specs.declared.event.Event.{Event}
use Rattle.trace_format.specs.declared.event.Name.{Name}
use Rattle.trace_format.specs.Accepting.{same_name}
use Rattle.trace_format.specs.Content.{TraceEvent, Begin, Return, content}
use Rattle.stream_model.specs.FileParts.{StreamPart}
use Rattle.stream_model.specs.Order.{device_named}
use Rattle.stream_model.specs.Plans.{DevicePlan, calls_on}
use Rattle.merge_model.specs.Planned.{number_among}
use Rattle.stream_plans.specs.declared.numbers.NumberedDevices.{NumberedDevices}
use Rattle.stream_plans.specs.Cuts.{places_planned, stays_on}
use Rattle.stream_plans.specs.Tables.{value_in}

-- the devices are distinct, and what is kept of each name is its number among them
pub record AreNumbered (devices : NumberedDevices) : Type 0 where
  pub apart : IsDistinct same_name devices.names.items
  pub numbers : (d : Name) → value_in devices.numbers.rows.items d ≡ number_among devices.names.items (Some d)

-- the number of the plan that has an event: a begin's is that of its device among these, and a return's that of the call before it
abbrev pub number_behind : (Name → Option Name) → List Name → Option ℕ → TraceEvent → Option ℕ
number_behind device_of devices at (Begin b) = number_among devices (device_named device_of b.cmd b.args)
number_behind device_of devices at (Return thread) = at

-- the number of the plan of the call that an event begins
abbrev pub place_begun : Option ℕ → TraceEvent → List ℕ
place_begun at (Return thread) = []
place_begun None (Begin b) = []
place_begun (Some n) (Begin b) = n ∷ []

-- the events of each part
abbrev pub events_in : {A : Type 0} → List (Vec Event A) → List (List TraceEvent)
events_in {A = A} parts = map (λ (p : Vec Event A). map content p.items) parts

-- parts, of which the one with this number has an event more
abbrev pub dealt_to : Option ℕ → TraceEvent → List (List TraceEvent) → List (List TraceEvent)
dealt_to None e parts = parts
dealt_to (Some n) e parts = slice_set parts n (slice_index_or parts n [] ++ e ∷ [])

-- whether the last call of these events is on the device, where `on` says so of the call before them
abbrev pub on_behind : (Name → Option Name) → Name → Bool → List TraceEvent → Bool
on_behind device_of device on [] = on
on_behind device_of device on (e ∷ es) = on_behind device_of device (stays_on device_of device on e) es

-- whether a number, if any, is this one
abbrev pub is_at : Option ℕ → ℕ → Bool
is_at None n = false
is_at (Some k) n = k == n

-- These events of a stream are dealt: each part has those of the calls on its device, `at` is the number of the last call's device, and the numbers are those of the calls.
pub record IsDealt (device_of : Name → Option Name) (devices : List Name) (parts : List (List TraceEvent)) (numbers : List ℕ) (at : Option ℕ) (events : List TraceEvent) : Type 0 where
  pub count : length parts ≡ length devices
  pub within : (n : ℕ) → at ≡ Some n → n < length devices
  pub each : (n : ℕ) (d : Name) → slice_get devices n ≡ Some d → slice_index_or parts n [] ≡ calls_on device_of d false events
  pub last : (n : ℕ) (d : Name) → slice_get devices n ≡ Some d → is_at at n ≡ on_behind device_of d false events
  pub places : numbers ≡ places_planned device_of devices events

-- a plan with a stream more
abbrev pub with_stream : DevicePlan → StreamPart → DevicePlan
with_stream p s = record { device = p.device; streams = p.streams ++ s ∷ [] }

-- plans, each with its part of a further stream
abbrev pub with_parts : ℕ → List DevicePlan → List (List TraceEvent) → List DevicePlan
with_parts thread [] parts = []
with_parts thread (p ∷ plans) [] = p ∷ plans
with_parts thread (p ∷ plans) (es ∷ parts) = with_stream p (record { thread = thread; events = es }) ∷ with_parts thread plans parts
