-- The exit statuses. Source: this project.
use Rattle.std.specs.Prelude.{ℕ}
use Rattle.replay_core.specs.declared.status.Status.{Status}
use Rattle.replay_core.specs.declared.status.Status.TheVariants as status

-- the number of a status
abbrev pub status_code : Status → ℕ
status_code status.Clean = 0
status_code status.Reported = 1
status_code status.Usage = 2
status_code status.Malformed = 3
status_code status.ReadFault = 4
status_code status.WriteFault = 5
status_code status.Limit = 6
status_code status.NoMemory = 7
