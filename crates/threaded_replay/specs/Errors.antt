-- How it is said that a line is refused. Source: this project.
use Rattle.std.specs.Prelude.{ℕ}
use Rattle.replay_base.specs.declared.limit.Which.TheVariants as which
use Rattle.threaded_replay.specs.declared.error.NotTaken.{NotTaken}
use Rattle.threaded_replay.specs.declared.error.NotTaken.TheVariants as why
use Rattle.threaded_replay.specs.declared.error.StreamError.{StreamError}
use Rattle.threaded_replay.specs.declared.error.StreamError.TheVariants as error
use Rattle.stream_model.specs.declared.refusal.Refusal.{Refusal}
use Rattle.stream_model.specs.declared.refusal.Refusal.TheVariants as refusal

-- the error that says that the line with this number is refused
abbrev pub error_at : ℕ → Refusal → StreamError
error_at line refusal.Lines = error.Limit which.Lines
error_at line refusal.LineBytes = error.Limit which.LineBytes
error_at line (refusal.Fault fault) = error.Trace line fault
error_at line refusal.Section = error.Section line
error_at line refusal.NoDevice = error.NoDevice line
error_at line refusal.NotInStream = error.NotInStream line
error_at line refusal.CrossDevice = error.CrossDevice line
error_at line refusal.Names = error.Limit which.Names
error_at line refusal.Events = error.Limit which.Events
error_at line refusal.Devices = error.Limit which.Devices

-- the error that says that the line with this number isn't taken
abbrev pub error_of : ℕ → NotTaken → StreamError
error_of line (why.Refused r) = error_at line r
error_of line why.NoMemory = error.NoMemory
