-- A merge of a small file as it is written. Source: this project.
use Rattle.std.specs.Prelude.{ℕ, Result, Ok, Err, List, [], ◌∷◌, ◌++◌, codes, drop, reverse, take}
use Rattle.std.specs.List.{flat_map}
use Rattle.trace_format.specs.declared.event.Name.{Name}
use Rattle.trace_format.specs.declared.fault.TraceFault.{TraceFault}
use Rattle.trace_format.specs.Content.{TraceEvent}
use Rattle.trace_format.specs.Reading.{read_line}
use Rattle.stream_model.specs.FileLines.{FileLine}
use Rattle.stream_model.specs.FileParts.{StreamPart, parts}
use Rattle.stream_model.specs.Plans.{device_written}
use Rattle.stream_model.specs.Refusals.{Refused}
use Rattle.stream_model.specs.Samples.{read, spelled, two_by_two}
use Rattle.merge_model.specs.Merges.{events_on}

-- the event of a line, where it is one
abbrev pub event_said : Result TraceEvent TraceFault → List TraceEvent
event_said (Ok e) = e ∷ []
event_said (Err f) = []

-- the events of these lines
abbrev pub events_said : List (List ℕ) → List TraceEvent
events_said lines = flat_map (λ line. event_said (read_line line)) lines

-- the streams of a file, as it is read
abbrev pub streams_in : Result (List FileLine) Refused → List StreamPart
streams_in (Ok lines) = (parts lines).streams
streams_in (Err r) = []

-- two streams on two devices: the first is on both by turns, the second on the first device and then on the other
abbrev pub two_threads : List StreamPart
two_threads = streams_in (read two_by_two)

-- what events have of a device of a file, both the oldest first, as it is spelled
abbrev pub said_on : Result (List FileLine) Refused → Name → List TraceEvent → List (List ℕ)
said_on (Ok lines) device merge = spelled (reverse (events_on (device_written (parts lines)) device (reverse merge)))
said_on (Err r) device merge = []

-- the two streams, each call begun before the other thread's last one returns
abbrev pub merged : List (List ℕ)
merged =
    codes "b 2 vkCreateBuffer %1.3 = %2.1 VK_SUCCESS"
    ∷ codes "b 1 vkCreateFence %1.3 = %1.5 VK_SUCCESS"
    ∷ codes "r 2"
    ∷ codes "r 1"
    ∷ codes "b 1 vkDeviceWaitIdle %1.4 VK_SUCCESS"
    ∷ codes "b 2 vkDeviceWaitIdle %1.4 VK_SUCCESS"
    ∷ codes "r 1"
    ∷ codes "b 1 vkGetFenceStatus %1.3 %1.5 VK_SUCCESS"
    ∷ codes "r 2"
    ∷ codes "r 1"
    ∷ []

-- the threads of these events
abbrev pub merged_turns : List ℕ
merged_turns = 2 ∷ 1 ∷ 2 ∷ 1 ∷ 1 ∷ 2 ∷ 1 ∷ 1 ∷ 2 ∷ 1 ∷ []

-- the same without the first return of thread 2
abbrev pub one_dropped : List (List ℕ)
one_dropped = take 2 merged ++ drop 3 merged

-- the same where thread 1 waits before its call has returned
abbrev pub two_swapped : List (List ℕ)
two_swapped = take 3 merged ++ codes "b 1 vkDeviceWaitIdle %1.4 VK_SUCCESS" ∷ codes "r 1" ∷ drop 5 merged

-- the same with a call of a thread without a stream
abbrev pub one_of_another : List (List ℕ)
one_of_another = merged ++ codes "b 3 vkDeviceWaitIdle %1.4 VK_SUCCESS" ∷ []
