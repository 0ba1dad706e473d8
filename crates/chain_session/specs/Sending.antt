-- A call that goes to its drivers. Source: this project.
use Rattle.std.specs.Prelude.{◌≡◌, ℕ, if◌then◌else◌, List, [], map}
use Rattle.command_tables.specs.Calls.{DriverCallContent, call_content}
use Rattle.model_driver.specs.Driver.{reply_shown}
use Rattle.model_driver.specs.Logs.{Log}
use Rattle.replay_model.specs.Past.{is_skipped}
use Rattle.terminator.specs.Calls.{TerminatorState, drivers_for, targets_of}
use Rattle.chain_session.specs.declared.call.OpenCall.{OpenCall}
use Rattle.chain_session.specs.Opened.{opened_of}
use Rattle.chain_session.specs.Telling.{AreAsked}

-- the drivers of calls
abbrev pub drivers_told : List DriverCallContent → List ℕ
drivers_told calls = map (λ c. c.driver) calls

-- what the drivers are told of a call: nothing where it is skipped
abbrev pub calls_due : TerminatorState → OpenCall → List DriverCallContent
calls_due t c = if is_skipped (opened_of c) then [] else targets_of t (call_content c.bottom)

-- the drivers that a call goes to
abbrev pub drivers_due : TerminatorState → OpenCall → List ℕ
drivers_due t c = if is_skipped (opened_of c) then [] else drivers_for t (call_content c.bottom)

-- the drivers were told the call, and their replies are kept with it
pub record IsSentTo (t : TerminatorState) (old new : OpenCall) (before after : Log) : Type 0 where
  pub opened : opened_of new ≡ record (opened_of old) { drivers = drivers_due t old }
  pub asked : AreAsked (calls_due t old) (map reply_shown new.replies.items) before after
  pub held : new.held ≡ old.held
  pub bottom : new.bottom ≡ old.bottom
  pub refusal : new.refusal ≡ old.refusal
  pub chain : new.chain ≡ old.chain
