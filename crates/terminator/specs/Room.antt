-- For how much the terminator has room. Source: this project.
use Rattle.std.specs.Prelude.{ℕ, ◌*◌, ◌^◌, ◌≤◌, ◌<◌, List, length}
use Rattle.command_tables.specs.Calls.{CallContent}
use Rattle.command_tables.specs.Table.{row_of}
use Rattle.layer_model.specs.Parts.{key_read}
use Rattle.layer_model.specs.Reading.{read_call}
use Rattle.terminator.specs.Calls.{TerminatorState, drivers_for}
use Rattle.terminator.specs.Shown.{bytes_of}

-- so many results can be born with no further memory, each with a value of so many drivers and with so many bytes of payload
pub record HasRoom (s : TerminatorState) (births drivers payload : ℕ) : Type 0 where
  pub ids : births ≤ s.spare
  pub values : births * drivers ≤ s.values
  pub bytes : births * payload ≤ s.bytes
  pub few : births < 2 ^ 32

-- how many bytes of payload are kept with each result of a call
abbrev pub bytes_with : CallContent → ℕ
bytes_with c = bytes_of (key_read c.cmd c.payload (read_call c) (row_of c.cmd).effect)

-- these results of a call can be born with no further memory, each with a value of each of its drivers
abbrev pub HasRoomForResults : TerminatorState → CallContent → List ℕ → Type 0
HasRoomForResults s c results = HasRoom s (length results) (length (drivers_for s c)) (bytes_with c)
