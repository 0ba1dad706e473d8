-- What is printed of a stream file that was replayed. Events stand oldest first. Source: this project.
use Rattle.std.specs.Prelude.{ℕ, List, ◌++◌, codes, reverse}
use Rattle.std.specs.List.{flat_map}
use Rattle.trace_format.specs.Content.{TraceEvent}
use Rattle.trace_format.specs.Grammar.{spelling}
use Rattle.replay_model.specs.Setup.{Setup}
use Rattle.replay_core.specs.Traffic.{end_line_of, text_of}

-- the line of an event
abbrev pub event_line : TraceEvent → List ℕ
event_line e = spelling e ++ codes "\n"

-- the lines of events
abbrev pub event_lines : List TraceEvent → List ℕ
event_lines es = flat_map event_line es

-- these events as a trace
abbrev pub trace_text : List TraceEvent → List ℕ
trace_text es = codes "vktrace 1\n" ++ event_lines es

-- the trace of these events, a line between, and the text that a replay of this trace writes
abbrev pub printed : Setup → List TraceEvent → List ℕ
printed s es = trace_text es ++ (codes "text\n" ++ (text_of s (reverse es) ++ end_line_of s (reverse es)))
