-- The exit status of the process. Source: this project.
use Rattle.std.specs.Prelude.{◌≡◌, ℕ, Option, None, List, Result, Ok, Err}
use Rattle.chain_session.specs.declared.kept.Kept.{Kept}
use Rattle.model_driver.specs.Logs.{Log}
use Rattle.program_words.specs.Asked.{Asked}
use Rattle.program_words.specs.Content.{words_of}
use Rattle.program_words.specs.declared.read.WordsError.{WordsError}
use Rattle.replay_base.specs.Changes.{Change}
use Rattle.replay_core.specs.Statuses.{status_code}
use Rattle.replay_core.specs.declared.status.Status.{Status}
use Rattle.replay_tool.specs.Said.{Said}
use Rattle.replay_tool.specs.Showing.{TreeSeen}
use Rattle.replay_tool.specs.Statuses.{words_line, words_status}
use Rattle.replay_tool.specs.declared.process.Invocation.{Invocation}
use Rattle.threads_tool.specs.Outcome.{Ends, ThreadsRun, threads_ask}
use Rattle.threads_tool.specs.Stops.{IsUntouched}

-- what went through the process
pub record Outside : Type 0 where
  pub tree : TreeSeen
  pub streams : Change
  pub sink : Change
  pub errs : Change

-- what the program was given with these words and variables
abbrev pub run_with : Invocation → Outside → ThreadsRun
run_with given o = record { words = words_of given.words.items; env = given.env; tree = o.tree; streams = o.streams; sink = o.sink; errs = o.errs }

-- the exit status is the number of a status that keeps the promises of the program
pub record ExitsWith {S : Type 0} (log : S → Log) (given : Invocation) (o : Outside) (code : ℕ) : Type 0 where
  pub status : Status
  pub session : Option (Option Kept)
  pub seats : List S
  pub ends : Ends log (run_with given o) status session seats
  pub is : code ≡ status_code status

-- the words or the variables couldn't be had: nothing is done but that the status's line is said
pub record ExitsAtOnce (why : WordsError) (o : Outside) (code : ℕ) : Type 0 where
  pub untouched : IsUntouched o.streams o.sink
  pub said : Said (words_line why) o.errs
  pub is : code ≡ status_code (words_status why)

-- the exit status, by what the process was started with or why that can't be had
abbrev pub Exits : {S : Type 0} → (S → Log) → Result Invocation WordsError → Outside → ℕ → Type 0
Exits log (Ok given) o code = ExitsWith log given o code
Exits log (Err why) o code = ExitsAtOnce why o code

-- what the process was asked for; nothing where its words or variables couldn't be had
abbrev pub asked_by : Result Invocation WordsError → Option Asked
asked_by (Ok given) = threads_ask (words_of given.words.items)
asked_by (Err why) = None
