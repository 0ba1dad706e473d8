-- The seats of a driver that many threads call: what a seat has room for, and what is known of a new one. Source: this project.
use Rattle.std.specs.Prelude.{◌≡◌, ℕ, ◌≤◌, ◌+◌, [], Option, Some, None, length, min}
use Rattle.command_tables.specs.Calls.{DriverCallContent, ReplyContent}
use Rattle.command_tables.specs.Handles.{count_in}
use Rattle.model_driver.specs.declared.driver.Policy.{Policy}
use Rattle.model_driver.specs.Driver.{handles_due}
use Rattle.model_driver.specs.Logs.{Log, Untold, Replies, Calls}

-- so many calls, so many handles of arguments and replies together, and so many payload bytes
pub record SeatRoom : Type 0 where
  pub calls : ℕ
  pub handles : ℕ
  pub bytes : ℕ

-- no more of each
pub record FitsIn (small large : SeatRoom) : Type 0 where
  pub calls : small.calls ≤ large.calls
  pub handles : small.handles ≤ large.handles
  pub bytes : small.bytes ≤ large.bytes

-- both together
abbrev pub joined_room : SeatRoom → SeatRoom → SeatRoom
joined_room a b = record { calls = a.calls + b.calls; handles = a.handles + b.handles; bytes = a.bytes + b.bytes }

-- what fits in both
abbrev pub shared_room : SeatRoom → SeatRoom → SeatRoom
shared_room a b = record { calls = min a.calls b.calls; handles = min a.handles b.handles; bytes = min a.bytes b.bytes }

-- what a call takes of a seat's room, with its reply
abbrev pub room_for : DriverCallContent → SeatRoom
room_for c = record { calls = 1; handles = count_in c.args + handles_due c; bytes = length c.payload }

-- there was no call yet, where the calls or their replies are told
abbrev pub IsEmptyLog : Log → Type 0
IsEmptyLog Untold = Unit {0}
IsEmptyLog (Replies replies) = replies ≡ []
IsEmptyLog (Calls calls) = calls ≡ []

-- this is the policy, where one is told
abbrev pub IsPolicy : Option Policy → Policy → Type 0
IsPolicy None policy = Unit {0}
IsPolicy (Some told) policy = told ≡ policy

-- a call at a seat once there is room for it: what the room makes of the seat, and then the call
pub record Seated {S : Type 0} (extend_gives : S → S → Type 0) (call_gives : S → DriverCallContent → ReplyContent → S → Type 0) (before : S) (call : DriverCallContent) (reply : ReplyContent) (behind : S) : Type 0 where
  pub between : S
  pub extends : extend_gives before between
  pub calls : call_gives between call reply behind
