-- Which lines may follow others in a stream file. The lines before a line stand newest first. Source: this project.
use Rattle.std.specs.Prelude.{ℕ, Bool, true, false, not, ◌&&◌, ◌||◌, ◌==◌, nat_lt, if◌then◌else◌, Option, Some, None, option_map, option_and_then, List, [], ◌∷◌, ◌++◌, length}
use Rattle.std.specs.List.{list_any}
use Rattle.std.specs.Option.{is_none, option_map_or}
use Rattle.command_tables.specs.declared.types.CommandId.{CommandId}
use Rattle.command_tables.specs.declared.types.CommandId.TheVariants as cmd
use Rattle.command_tables.specs.declared.types.ObjectType.TheVariants as ty
use Rattle.command_tables.specs.Table.{ParamSpec, row_of}
use Rattle.command_tables.specs.Tests.{same_command, same_type}
use Rattle.trace_format.specs.declared.event.Name.{Name}
use Rattle.trace_format.specs.declared.fault.TraceFault.{TraceFault}
use Rattle.trace_format.specs.Accepting.{fault_after, fault_at_end, names_in, same_name}
use Rattle.trace_format.specs.Content.{Arg, TraceEvent, Begin, Return}
use Rattle.stream_model.specs.declared.heading.Heading.{Heading}
use Rattle.stream_model.specs.declared.heading.Heading.TheVariants as heading
use Rattle.stream_model.specs.declared.limits.TheConstants.{MOST_DEVICES, MOST_EVENTS, MOST_NAMES, MOST_STREAMS}
use Rattle.stream_model.specs.declared.refusal.Refusal.{Refusal}
use Rattle.stream_model.specs.declared.refusal.Refusal.TheVariants as refusal
use Rattle.stream_model.specs.Devices.{has_result, name_at, written_device}
use Rattle.stream_model.specs.FileLines.{FileLine, HeadingLine, EventLine}

-- the first refusal of which the test holds
abbrev pub first_refusal : List (Bool × Refusal) → Option Refusal
first_refusal [] = None
first_refusal (x ∷ rest) = if x.0 then Some x.1 else first_refusal rest

-- the first of two refusals
abbrev pub refusal_or : Option Refusal → Option Refusal → Option Refusal
refusal_or None other = other
refusal_or (Some r) other = Some r

-- ---- the lines so far

-- the section: that of the last heading
abbrev pub section : List FileLine → Option Heading
section [] = None
section (HeadingLine h ∷ lines) = Some h
section (EventLine e ∷ lines) = section lines

-- the events, the newest first: setup, the streams in the file's order and teardown, one after the other
abbrev pub events : List FileLine → List TraceEvent
events [] = []
events (HeadingLine h ∷ lines) = events lines
events (EventLine e ∷ lines) = e ∷ events lines

-- the thread of a stream's heading
abbrev pub heading_thread : Heading → Option ℕ
heading_thread heading.Setup = None
heading_thread (heading.Stream thread) = Some thread
heading_thread heading.Teardown = None

-- the thread of the stream, where the section is one
abbrev pub stream : List FileLine → Option ℕ
stream lines = option_and_then heading_thread (section lines)

-- the thread of a stream's heading, or none
abbrev pub heading_threads : Heading → List ℕ
heading_threads heading.Setup = []
heading_threads (heading.Stream thread) = thread ∷ []
heading_threads heading.Teardown = []

-- the threads of the streams, in the file's order
abbrev pub stream_threads : List FileLine → List ℕ
stream_threads [] = []
stream_threads (HeadingLine h ∷ lines) = stream_threads lines ++ heading_threads h
stream_threads (EventLine e ∷ lines) = stream_threads lines

-- ---- a heading

-- setup comes first, then streams, and then teardown
abbrev pub follows : Option Heading → Heading → Bool
follows None heading.Setup = true
follows (Some heading.Setup) (heading.Stream thread) = true
follows (Some heading.Setup) heading.Teardown = true
follows (Some (heading.Stream before)) (heading.Stream thread) = true
follows (Some (heading.Stream before)) heading.Teardown = true
follows _ _ = false

-- there are no more streams than a file may have, and a thread has one
abbrev pub is_new_stream : List ℕ → ℕ → Bool
is_new_stream threads thread = nat_lt (length threads) MOST_STREAMS && not (list_any (λ t. t == thread) threads)

-- the heading is in its order, behind this section and the streams of these threads
abbrev pub is_in_order : Option Heading → List ℕ → Heading → Bool
is_in_order before threads h = follows before h && option_map_or (is_new_stream threads) (heading_thread h) true

-- why a heading may not follow: it is out of its order, or a call of the section before it is open
abbrev pub heading_refusal : List FileLine → Heading → Option Refusal
heading_refusal lines h = if is_in_order (section lines) (stream_threads lines) h then option_map (λ f. refusal.Fault f) (fault_at_end (events lines)) else Some refusal.Section

-- ---- an event

-- the thread of an event
abbrev pub event_thread : TraceEvent → ℕ
event_thread (Begin b) = b.thread
event_thread (Return thread) = thread

-- an event of this thread may stand in the section: in a stream its own thread's alone, and in none before setup
abbrev pub takes_thread : Option Heading → ℕ → Bool
takes_thread None thread = false
takes_thread (Some heading.Setup) thread = true
takes_thread (Some (heading.Stream own)) thread = own == thread
takes_thread (Some heading.Teardown) thread = true

-- ---- a call of a stream

-- the command is on no device: it has no first parameter, or that is an instance or a physical device
abbrev pub is_on_no_device : List ParamSpec → Bool
is_on_no_device [] = true
is_on_no_device (p ∷ ps) = same_type p.ty ty.Instance || same_type p.ty ty.PhysicalDevice

-- the thread of the stream in which a name was given, where it was in one
abbrev pub stream_of_name : List FileLine → Name → Option ℕ
stream_of_name [] n = None
stream_of_name (HeadingLine h ∷ lines) n = stream_of_name lines n
stream_of_name (EventLine (Begin b) ∷ lines) n = if has_result b n then stream lines else stream_of_name lines n
stream_of_name (EventLine (Return thread) ∷ lines) n = stream_of_name lines n

-- the device that a call names, by what tells the devices of names: that of its first argument
abbrev pub device_named : (Name → Option Name) → CommandId → List Arg → Option Name
device_named device_of c args = if is_on_no_device (row_of c).params then None else option_and_then device_of (name_at args 0)

-- a name was given in another stream than that of this thread, by what tells the streams of names
abbrev pub is_of_another_stream : (Name → Option ℕ) → ℕ → Name → Bool
is_of_another_stream stream_of thread n = option_map_or (λ t. not (t == thread)) (stream_of n) false

-- two devices are there, and are one
abbrev pub same_device : Option Name → Option Name → Bool
same_device (Some a) (Some b) = same_name a b
same_device _ _ = false

-- a name is of another device than this, or of none, by what tells the devices of names
abbrev pub is_of_another_device : (Name → Option Name) → Option Name → Name → Bool
is_of_another_device device_of device n = not (same_device (device_of n) device)

-- the test holds of a name in a place of the arguments; null isn't tested
abbrev pub any_name : (Name → Bool) → List Arg → Bool
any_name test args = list_any (λ a. list_any (λ place. option_map_or test place false) a.names) args

-- no stream may use the command: it ends a device, which other streams may use, or takes a surface, which is of no device
abbrev pub is_kept_out : CommandId → Bool
is_kept_out c = same_command c cmd.DestroyDevice || same_command c cmd.CreateSwapchainKHR

-- why a call may not stand in the stream of a thread, by what tells the devices and the streams of names
abbrev pub call_refusal : (Name → Option Name) → (Name → Option ℕ) → CommandId → List Arg → ℕ → Option Refusal
call_refusal device_of stream_of c args thread =
    first_refusal (
    (is_none (device_named device_of c args), refusal.NoDevice) ∷ (is_kept_out c || any_name (is_of_another_stream stream_of thread) args, refusal.NotInStream)
    ∷ (any_name (is_of_another_device device_of (device_named device_of c args)) args, refusal.CrossDevice) ∷ []
    )

-- why an event may not stand behind these lines, where they end in a stream
abbrev pub stream_refusal : List FileLine → TraceEvent → Option Refusal
stream_refusal lines (Begin b) = option_and_then (call_refusal (written_device (events lines)) (stream_of_name lines) b.cmd b.args) (stream lines)
stream_refusal lines (Return thread) = None

-- ---- limits

-- one device more, where it is another than those before it
abbrev pub with_device : Option Name → List Name → List Name
with_device None devices = devices
with_device (Some d) devices = if list_any (same_name d) devices then devices else devices ++ d ∷ []

-- the device that an event names, where it begins a call of a stream
abbrev pub device_in_stream : List FileLine → TraceEvent → Option Name
device_in_stream lines (Begin b) = option_and_then (λ t. device_named (written_device (events lines)) b.cmd b.args) (stream lines)
device_in_stream lines (Return thread) = None

-- the devices that the streams name, in the order in which they do first
abbrev pub devices_named : List FileLine → List Name
devices_named [] = []
devices_named (HeadingLine h ∷ lines) = devices_named lines
devices_named (EventLine e ∷ lines) = with_device (device_in_stream lines e) (devices_named lines)

-- which limit is passed by so many names, events and devices
abbrev pub limit_passed : ℕ → ℕ → ℕ → Option Refusal
limit_passed names events devices =
    first_refusal ((nat_lt MOST_NAMES names, refusal.Names) ∷ (nat_lt MOST_EVENTS events, refusal.Events) ∷ (nat_lt MOST_DEVICES devices, refusal.Devices) ∷ [])

-- which limit an event would pass
abbrev pub limit_refusal : List FileLine → TraceEvent → Option Refusal
limit_refusal lines e = limit_passed (names_in (e ∷ events lines)) (length (e ∷ events lines)) (length (devices_named (EventLine e ∷ lines)))

-- ---- any line

-- why an event may not follow: it stands before setup or in another thread's stream, has a fault of its place, may not stand in a stream, or passes a limit
abbrev pub event_refusal : List FileLine → TraceEvent → Option Refusal
event_refusal lines e =
    if takes_thread (section lines) (event_thread e) then refusal_or (option_map (λ f. refusal.Fault f) (fault_after (events lines) e)) (refusal_or (stream_refusal lines e) (limit_refusal lines e))
    else Some refusal.Section

-- why a line may not follow those before it
abbrev pub refusal_after : List FileLine → FileLine → Option Refusal
refusal_after lines (HeadingLine h) = heading_refusal lines h
refusal_after lines (EventLine e) = event_refusal lines e

-- why the file may not end in this section, by the fault of a trace that ends here: teardown hasn't come, or a call is open
abbrev pub end_refusal : Option Heading → Option TraceFault → Option Refusal
end_refusal (Some heading.Teardown) fault = option_map (λ f. refusal.Fault f) fault
end_refusal _ fault = Some refusal.Section

-- why the file may not end behind these lines
abbrev pub refusal_at_end : List FileLine → Option Refusal
refusal_at_end lines = end_refusal (section lines) (fault_at_end (events lines))
