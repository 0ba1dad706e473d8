-- What closed logs say, and what the entries of their merge say. Source: this project.
use Rattle.std.specs.Prelude.{ℕ, List, map}
use Rattle.std.specs.Borrow.{Bor}
use Rattle.std.specs.Global.{Vec}
use Rattle.stream_log.specs.Log.{line_of}
use Rattle.stream_log.specs.declared.entry.Entry.{Entry}
use Rattle.stream_log.specs.declared.line.Line.{Line}
use Rattle.trace_format.specs.declared.event.Name.{Name}
use Rattle.log_merge.specs.Merged.{NumberedLine}

-- the entries of a closed log, which stands with its device's name
abbrev pub closed_lines : Name × Vec Entry → List Line
closed_lines log = map line_of log.1.items

-- an entry with the number of its log
abbrev pub numbered : ℕ × Bor Entry → NumberedLine
numbered entry = record { log = entry.0; line = line_of entry.1.now }
