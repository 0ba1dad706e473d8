-- What a driver tells of the calls so far. Source: this project.
use Rattle.std.specs.Prelude.{List, ◌++◌, map}
use Rattle.command_tables.specs.Calls.{DriverCallContent, ReplyContent}
use Rattle.model_driver.specs.declared.driver.DriverCall.{DriverCall}
use Rattle.model_driver.specs.declared.driver.DriverReply.{DriverReply}
use Rattle.model_driver.specs.Driver.{call_shown, reply_shown}

-- nothing, the replies alone, or each call with its reply: the oldest first
pub data Log : Type 0 where
  Untold : Log
  Replies : (replies : List ReplyContent) → Log
  Calls : (calls : List (DriverCallContent × ReplyContent)) → Log

-- the replies to calls
abbrev pub replies_in : List (DriverCallContent × ReplyContent) → List ReplyContent
replies_in calls = map (λ (x : DriverCallContent × ReplyContent). x.1) calls

-- the log, and then more
abbrev pub logged : Log → List (DriverCallContent × ReplyContent) → Log
logged Untold more = Untold
logged (Replies replies) more = Replies (replies ++ replies_in more)
logged (Calls calls) more = Calls (calls ++ more)

-- calls and replies as their contents
abbrev pub exchanges_shown : List (DriverCall × DriverReply) → List (DriverCallContent × ReplyContent)
exchanges_shown calls = map (λ (x : DriverCall × DriverReply). (call_shown x.0, reply_shown x.1)) calls

-- a driver with the list of its calls, each with its reply
pub record Recorded (D : Type 0) : Type 0 where
  pub inner : D
  pub calls : List (DriverCallContent × ReplyContent)
