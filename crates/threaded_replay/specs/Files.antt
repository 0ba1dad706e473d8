-- A stream file by its parts. Source: this project.
use Rattle.std.specs.Prelude.{◌≡◌, ℕ, List, Vec, map}
use Rattle.trace_format.specs.Content.{content}
use Rattle.trace_format.specs.declared.event.Event.{Event}
use Rattle.stream_model.specs.FileLines.{FileLine}
use Rattle.stream_model.specs.FileParts.{FileParts, StreamPart, closed_parts, open_events}
use Rattle.threaded_replay.specs.declared.draft.Draft.{Draft}
use Rattle.threaded_replay.specs.declared.stream_file.StreamFile.{StreamFile}

-- a stream by its thread and its events
abbrev pub stream_part : {A : Type 0} → ℕ × Vec Event A → StreamPart
stream_part s = record { thread = s.0; events = map content s.1.items }

-- a file by its parts
abbrev pub file_parts : StreamFile → FileParts
file_parts f = record { setup = map content f.setup.items; streams = map stream_part f.streams.items; teardown = map content f.teardown.items }

-- the sections before the last heading are in the file, and the events behind it beside them
pub record IsDraftOf (d : Draft) (lines : List FileLine) : Type 0 where
  pub before : file_parts d.file ≡ closed_parts lines
  pub behind : map content d.events.items ≡ open_events lines
