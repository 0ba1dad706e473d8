-- Small stream files as they are written. Source: this project.
use Rattle.std.specs.Prelude.{ℕ, zero, suc, ◌+◌, Option, Some, None, Result, Ok, Err, List, [], ◌∷◌, ◌++◌, map, replicate, reverse, take, codes, decimal}
use Rattle.std.specs.List.{flat_map}
use Rattle.command_tables.specs.declared.types.CommandId.TheVariants as cmd
use Rattle.trace_format.specs.declared.event.Name.{Name}
use Rattle.trace_format.specs.Content.{TraceEvent, Return}
use Rattle.trace_format.specs.Grammar.{spelling}
use Rattle.trace_format.specs.Samples.{begins, name}
use Rattle.stream_model.specs.declared.refusal.Refusal.{Refusal}
use Rattle.stream_model.specs.FileLines.{FileLine, EventLine}
use Rattle.stream_model.specs.FileParts.{FileParts, StreamPart, parts}
use Rattle.stream_model.specs.Plans.{events_along, plan_cut}
use Rattle.stream_model.specs.Refusals.{Refused, file_lines}

-- lines, each with its LF
abbrev pub said : List (List ℕ) → List ℕ
said lines = flat_map (λ line. line ++ codes "\n") lines

-- a file of these lines behind its header
abbrev pub headed : List (List ℕ) → List ℕ
headed lines = said (codes "vkstreams 1" ∷ lines)

-- a begin line, and the return of thread 1
abbrev pub returned : List ℕ → List (List ℕ)
returned line = line ∷ codes "r 1" ∷ []

-- the setup of an instance, its physical device and a device: lines 2 to 8
abbrev pub started : List (List ℕ)
started =
    codes "setup" ∷ returned (codes "b 1 vkCreateInstance = %1.1 VK_SUCCESS")
    ++ returned (codes "b 1 vkEnumeratePhysicalDevices %1.1 = %1.2 VK_SUCCESS")
    ++ returned (codes "b 1 vkCreateDevice %1.2 = %1.3 VK_SUCCESS")

-- the same and a second device: lines 2 to 10
abbrev pub two_devices : List (List ℕ)
two_devices = started ++ returned (codes "b 1 vkCreateDevice %1.2 = %1.4 VK_SUCCESS")

-- what a file is read as
abbrev pub read : List (List ℕ) → Result (List FileLine) Refused
read lines = file_lines (headed lines)

-- a file that is refused at this line
abbrev pub refused : ℕ → Refusal → Result (List FileLine) Refused
refused n cause = Err (record { line = n; cause = cause })

-- the lines of a part, each as it is spelled
abbrev pub spelled : List TraceEvent → List (List ℕ)
spelled events = map spelling events

-- a stream by its thread and its lines
pub record StreamText : Type 0 where
  pub thread : ℕ
  pub lines : List (List ℕ)

-- a file by its lines
pub record FileText : Type 0 where
  pub setup : List (List ℕ)
  pub streams : List StreamText
  pub teardown : List (List ℕ)

-- a stream as it is spelled
abbrev pub stream_text : StreamPart → StreamText
stream_text s = record { thread = s.thread; lines = spelled s.events }

-- a file as it is spelled
abbrev pub file_text : FileParts → FileText
file_text f = record { setup = spelled f.setup; streams = map stream_text f.streams; teardown = spelled f.teardown }

-- what is read of a file, as it is spelled
abbrev pub text_read : Result (List FileLine) Refused → Result FileText Refused
text_read (Ok lines) = Ok (file_text (parts lines))
text_read (Err r) = Err r

-- a file whose first stream is that of thread 1 and begins with these lines, from line 10 on
abbrev pub in_stream : List (List ℕ) → Result (List FileLine) Refused
in_stream lines = read (started ++ codes "stream 1" ∷ lines)

-- the same with two devices, from line 12 on
abbrev pub beside_a_device : List (List ℕ) → Result (List FileLine) Refused
beside_a_device lines = read (two_devices ++ codes "stream 1" ∷ lines)

-- a file that ends with teardown and these lines
abbrev pub in_teardown : List (List ℕ) → Result (List FileLine) Refused
in_teardown lines = read (started ++ codes "teardown" ∷ lines)

-- two streams of one device: lines 2 to 18
abbrev pub two_streams : List (List ℕ)
two_streams =
    started
    ++ codes "stream 1" ∷ codes "b 1 vkCreateBuffer %1.3 = %1.4 VK_SUCCESS"
    ∷ codes "r 1"
    ∷ codes "stream 2"
    ∷ codes "b 2 vkCreateFence %1.3 = %2.1 VK_SUCCESS"
    ∷ codes "r 2"
    ∷ codes "teardown"
    ∷ returned (codes "b 1 vkDestroyBuffer %1.3 %1.4 void")
    ++ returned (codes "b 1 vkDestroyFence %1.3 %2.1 void")

-- the headings of streams, of the threads from this one down
abbrev pub headings : ℕ → List (List ℕ)
headings zero = []
headings (suc n) = (codes "stream " ++ decimal (suc n)) ∷ headings n

-- a file without events and with so many streams
abbrev pub only_streams : ℕ → List (List ℕ)
only_streams count = codes "setup" ∷ headings count ++ codes "teardown" ∷ []

-- calls that make so many devices further, of thread 1 and of numbers from this one on
abbrev pub more_devices : ℕ → ℕ → List (List ℕ)
more_devices from zero = []
more_devices from (suc n) = returned (codes "b 1 vkCreateDevice %1.2 = %1." ++ decimal from ++ codes " VK_SUCCESS") ++ more_devices (from + 1) n

-- calls that wait for so many devices, of numbers from this one on
abbrev pub waits : ℕ → ℕ → List (List ℕ)
waits from zero = []
waits from (suc n) = returned (codes "b 1 vkDeviceWaitIdle %1." ++ decimal from ++ codes " VK_SUCCESS") ++ waits (from + 1) n

-- the cause and line of a refusal, where there is one
abbrev pub refusal_in : Result (List FileLine) Refused → Option Refused
refusal_in (Ok lines) = None
refusal_in (Err r) = Some r

-- a refusal at this line
abbrev pub at : ℕ → Refusal → Option Refused
at n cause = Some (record { line = n; cause = cause })

-- what is refused in the first so many lines behind the header, for each of these numbers
abbrev pub cuts : List (List ℕ) → List ℕ → List (Option Refused)
cuts lines counts = map (λ n. refusal_in (read (take n lines))) counts

-- a begin of thread 1 with so many results
abbrev pub makes : ℕ → TraceEvent
makes count = begins 1 cmd.CreateBuffer [] (replicate count (name 1 1)) None []

-- so many returns
abbrev pub returns : ℕ → List FileLine
returns count = replicate count (EventLine (Return 1))

-- two streams on two devices: the first is on both by turns, the second on the first device and then on the other
abbrev pub two_by_two : List (List ℕ)
two_by_two =
    two_devices
    ++ codes "stream 1" ∷ returned (codes "b 1 vkCreateFence %1.3 = %1.5 VK_SUCCESS")
    ++ returned (codes "b 1 vkDeviceWaitIdle %1.4 VK_SUCCESS")
    ++ returned (codes "b 1 vkGetFenceStatus %1.3 %1.5 VK_SUCCESS")
    ++ codes "stream 2" ∷ codes "b 2 vkCreateBuffer %1.3 = %2.1 VK_SUCCESS"
    ∷ codes "r 2"
    ∷ codes "b 2 vkDeviceWaitIdle %1.4 VK_SUCCESS"
    ∷ codes "r 2"
    ∷ codes "teardown"
    ∷ []

-- what the threads do on a device in these turns, both the oldest first, as it is spelled
abbrev pub in_turns : Result (List FileLine) Refused → Name → List ℕ → List (List ℕ)
in_turns (Ok lines) device threads = spelled (reverse (events_along (plan_cut (parts lines) device).streams (reverse threads)))
in_turns (Err r) device threads = []
