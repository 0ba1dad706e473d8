-- The exit status of the process. Source: this project.
use Rattle.std.specs.Prelude.{◌≡◌, ℕ, Option, None, Result, Ok, Err}
use Rattle.chain_session.specs.declared.kept.Kept.{Kept}
use Rattle.model_driver.specs.declared.driver.Policy.{Policy}
use Rattle.program_words.specs.Asked.{Asked, words_ask}
use Rattle.program_words.specs.Content.{words_of}
use Rattle.program_words.specs.declared.read.WordsError.{WordsError}
use Rattle.replay_base.specs.Changes.{Change}
use Rattle.replay_core.specs.Replayed.{Run}
use Rattle.replay_core.specs.Statuses.{status_code}
use Rattle.replay_core.specs.declared.status.Status.{Status}
use Rattle.replay_tool.specs.declared.process.Invocation.{Invocation}
use Rattle.replay_tool.specs.Outcome.{IsPrepared, Keeps, Process, SaidOnly}
use Rattle.replay_tool.specs.Showing.{TreeSeen}
use Rattle.replay_tool.specs.Statuses.{words_line, words_status}

-- what went through the process, and by which policy the driver answers before and after
pub record Outside : Type 0 where
  pub tree : TreeSeen
  pub run : Run
  pub errs : Change
  pub policy_before : Option Policy
  pub policy : Option Policy

-- what the program was given with these words and variables
abbrev pub process_of : Invocation → Outside → Process
process_of given o = record { words = words_of given.words.items; env = given.env; tree = o.tree; run = o.run; errs = o.errs }

-- the exit status is the number of a status that keeps the promises of the program, and the driver is prepared by the words alone
pub record ExitsWith (given : Invocation) (o : Outside) (code : ℕ) : Type 0 where
  pub status : Status
  pub session : Option (Option Kept)
  pub keeps : Keeps (process_of given o) status session
  pub prepared : IsPrepared (words_ask (words_of given.words.items)) status o.policy_before o.policy
  pub is : code ≡ status_code status

-- the words or the variables couldn't be had: nothing is done but that the status's line is said, and the driver answers as before
pub record ExitsAtOnce (why : WordsError) (o : Outside) (code : ℕ) : Type 0 where
  pub only : SaidOnly (words_line why) o.run o.errs
  pub prepared : o.policy ≡ o.policy_before
  pub is : code ≡ status_code (words_status why)

-- the exit status, by what the process was started with or why that can't be had
abbrev pub Exits : Result Invocation WordsError → Outside → ℕ → Type 0
Exits (Ok given) o code = ExitsWith given o code
Exits (Err why) o code = ExitsAtOnce why o code

-- what the process was asked for; nothing where its words or variables couldn't be had
abbrev pub asked_by : Result Invocation WordsError → Option Asked
asked_by (Ok given) = words_ask (words_of given.words.items)
asked_by (Err why) = None
