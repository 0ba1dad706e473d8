-- How a run that ends early ends, and what is said of it. Source: this project.
use Rattle.std.specs.Prelude.{ℕ, List}
use Rattle.replay_core.specs.declared.status.Status.{Status}
use Rattle.replay_core.specs.declared.status.Status.TheVariants as status
use Rattle.replay_core.specs.declared.error.ReplayError.{ReplayError}
use Rattle.replay_core.specs.declared.error.ReplayError.TheVariants as error
use Rattle.program_words.specs.declared.read.WordsError.{WordsError}
use Rattle.program_words.specs.declared.read.WordsError.TheVariants as words
use Rattle.replay_tool.specs.Said.{fault_line, limit_line, usage_line, read_fault_line, write_fault_line, no_memory_line}

-- the status of an error
abbrev pub status_of : ReplayError → Status
status_of error.Read = status.ReadFault
status_of error.Write = status.WriteFault
status_of (error.Trace line fault) = status.Malformed
status_of (error.Limit which) = status.Limit
status_of error.NoMemory = status.NoMemory

-- the line that is said of an error
abbrev pub line_of : ReplayError → List ℕ
line_of error.Read = read_fault_line
line_of error.Write = write_fault_line
line_of (error.Trace line fault) = fault_line line fault
line_of (error.Limit which) = limit_line which
line_of error.NoMemory = no_memory_line

-- the status of words that can't be read
abbrev pub words_status : WordsError → Status
words_status words.Usage = status.Usage
words_status words.NoMemory = status.NoMemory

-- the line that is said then
abbrev pub words_line : WordsError → List ℕ
words_line words.Usage = usage_line
words_line words.NoMemory = no_memory_line
