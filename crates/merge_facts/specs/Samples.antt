-- Two logs of a small file, and their entries in one order. Source: this project.
use Rattle.std.specs.Prelude.{ℕ, true, false, Result, Ok, Err, List, [], ◌∷◌, ◌++◌, drop, map, reverse, take}
use Rattle.std.specs.List.{slice_index_or}
use Rattle.stream_log.specs.declared.line.Line.{Line}
use Rattle.trace_format.specs.declared.event.Name.{Name}
use Rattle.trace_format.specs.Samples.{name}
use Rattle.stream_model.specs.FileLines.{FileLine}
use Rattle.stream_model.specs.FileParts.{StreamPart, parts}
use Rattle.stream_model.specs.Plans.{device_written, events_along, plan_cut}
use Rattle.stream_model.specs.Refusals.{Refused}
use Rattle.stream_model.specs.Samples.{read, spelled, two_by_two}
use Rattle.merge_model.specs.Planned.{PlannedCall, calls_planned}
use Rattle.log_merge.specs.Halves.{in_log}
use Rattle.log_merge.specs.Merged.{NumberedLine}
use Rattle.merge_facts.specs.Logged.{LoggedCall, turns_behind}

-- ---- the file

-- the lines that were read
abbrev pub lines_of_read : Result (List FileLine) Refused → List FileLine
lines_of_read (Ok lines) = lines
lines_of_read (Err r) = []

-- two streams on two devices: the first is on both by turns, the second on the first device and then on the other
abbrev pub file : List FileLine
file = lines_of_read (read two_by_two)

-- its devices
abbrev pub devices : List Name
devices = name 1 3 ∷ name 1 4 ∷ []

-- the calls of its streams
abbrev pub planned : List (List PlannedCall)
planned = map (λ (s : StreamPart). calls_planned (device_written (parts file)) devices s.events) (parts file).streams

-- ---- its logs

-- a begin and a return, by thread and time
abbrev pub begun : ℕ → ℕ → Line
begun thread time = record { thread = thread; time = time; begins = true; results = [] }

abbrev pub returned : ℕ → ℕ → List ℕ → Line
returned thread time results = record { thread = thread; time = time; begins = false; results = results }

-- what each device's worker logs: two entries of one time are of two devices
abbrev pub logs : List (List Line)
logs =
    (begun 2 1 ∷ begun 1 2 ∷ returned 2 3 (70 ∷ []) ∷ returned 1 4 (71 ∷ []) ∷ begun 1 8 ∷ returned 1 9 [] ∷ [])
    ∷ (begun 1 5 ∷ begun 2 6 ∷ returned 1 7 [] ∷ returned 2 8 [] ∷ []) ∷ []

-- each call with its two entries
abbrev pub with_entries : List PlannedCall → List Line → List LoggedCall
with_entries [] entries = []
with_entries (c ∷ calls) [] = []
with_entries (c ∷ calls) (b ∷ []) = []
with_entries (c ∷ calls) (b ∷ r ∷ entries) = record { planned = c; first = b; last = r } ∷ with_entries calls entries

-- the calls of the streams with what the logs have of them
abbrev pub calls : List (List LoggedCall)
calls =
    with_entries (slice_index_or planned 0 []) (begun 1 2 ∷ returned 1 4 (71 ∷ []) ∷ begun 1 5 ∷ returned 1 7 [] ∷ begun 1 8 ∷ returned 1 9 [] ∷ [])
    ∷ with_entries (slice_index_or planned 1 []) (begun 2 1 ∷ returned 2 3 (70 ∷ []) ∷ begun 2 6 ∷ returned 2 8 [] ∷ []) ∷ []

-- ---- their entries in one order

abbrev pub all_entries : List NumberedLine
all_entries =
    in_log 0 (begun 2 1) ∷ in_log 0 (begun 1 2) ∷ in_log 0 (returned 2 3 (70 ∷ [])) ∷ in_log 0 (returned 1 4 (71 ∷ [])) ∷ in_log 1 (begun 1 5) ∷ in_log 1 (begun 2 6) ∷ in_log 1 (returned 1 7 []) ∷ in_log 0 (begun 1 8)
    ∷ in_log 1 (returned 2 8 []) ∷ in_log 0 (returned 1 9 []) ∷ []

-- the same where the greater thread comes first at one time
abbrev pub tie_turned : List NumberedLine
tie_turned = take 7 all_entries ++ in_log 1 (returned 2 8 []) ∷ in_log 0 (begun 1 8) ∷ drop 9 all_entries

-- the same without its last entry
abbrev pub one_entry_dropped : List NumberedLine
one_entry_dropped = take 9 all_entries

-- the calls of the first stream, of which two stand the other way round
abbrev pub calls_turned : List LoggedCall
calls_turned = drop 1 (slice_index_or calls 0 []) ++ take 1 (slice_index_or calls 0 [])

-- ---- what they say

-- the events of entries, the oldest first, as they are spelled
abbrev pub said_by : List NumberedLine → List (List ℕ)
said_by entries = spelled (reverse (events_along (parts file).streams (turns_behind entries)))

-- what a log says by the plan of its device
abbrev pub said_by_log : ℕ → Name → List (List ℕ)
said_by_log k device = spelled (reverse (events_along (plan_cut (parts file) device).streams (reverse (map (λ (e : Line). e.thread) (slice_index_or logs k [])))))
