-- The devices that the streams of a file name, and their plans, by what tells the devices of names. Source: this project.
use Rattle.std.specs.Prelude.{ℕ, Bool, Option, Some, None, List, [], ◌∷◌, map}
use Rattle.std.specs.List.{flat_map}
use Rattle.trace_format.specs.declared.event.Name.{Name}
use Rattle.trace_format.specs.Content.{TraceEvent, Begin, Return}
use Rattle.stream_model.specs.FileParts.{FileParts, StreamPart}
use Rattle.stream_model.specs.Order.{device_named, same_device, with_device}
use Rattle.stream_model.specs.Plans.{DevicePlan, device_written, stream_on}
use Rattle.merge_model.specs.Planned.{PlannedCall, calls_planned}

-- the device that an event names, where it begins a call
abbrev pub event_device : (Name → Option Name) → TraceEvent → Option Name
event_device device_of (Begin b) = device_named device_of b.cmd b.args
event_device device_of (Return thread) = None

-- these devices with those that events name, the oldest event first
abbrev pub devices_with : (Name → Option Name) → List Name → List TraceEvent → List Name
devices_with device_of devices [] = devices
devices_with device_of devices (e ∷ events) = devices_with device_of (with_device (event_device device_of e) devices) events

-- the devices that the streams of a file name, in the order in which they do first
abbrev pub devices_cut : FileParts → List Name
devices_cut file = devices_with (device_written file) [] (flat_map (λ s. s.events) file.streams)

-- whether a call is on the device, behind this event, where `on` says so of the call before it
abbrev pub stays_on : (Name → Option Name) → Name → Bool → TraceEvent → Bool
stays_on device_of device on (Begin b) = same_device (device_named device_of b.cmd b.args) (Some device)
stays_on device_of device on (Return thread) = on

-- the plan of a device
abbrev pub plan_by : (Name → Option Name) → List StreamPart → Name → DevicePlan
plan_by device_of streams device = record { device = device; streams = map (stream_on device_of device) streams }

-- the numbers of the devices of the calls that events begin on one of these
abbrev pub places_planned : (Name → Option Name) → List Name → List TraceEvent → List ℕ
places_planned device_of devices es = map (λ (c : PlannedCall). c.place) (calls_planned device_of devices es)
