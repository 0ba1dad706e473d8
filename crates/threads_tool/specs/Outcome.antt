-- How a run of the program for threads ends, and what then was read, written and said. Source: this project.
use Rattle.std.specs.Prelude.{◌≡◌, ◌≢◌, ◌⊎◌, Option, Some, None, List, [], ◌∷◌, codes, ℕ}
use Rattle.std.specs.List.{AllByRecursion}
use Rattle.env_filters.specs.Variables.{Variable}
use Rattle.model_driver.specs.Logs.{Log}
use Rattle.model_driver.specs.Seats.{IsPolicy}
use Rattle.model_driver.specs.declared.driver.Policy.{Policy}
use Rattle.program_words.specs.Asked.{Asked, AsksRun, RunAsked, words_ask}
use Rattle.program_words.specs.Words.{Word}
use Rattle.replay_base.specs.Changes.{Change}
use Rattle.replay_base.specs.declared.limit.Which.TheVariants as which
use Rattle.replay_model.specs.Setup.{Setup}
use Rattle.chain_session.specs.declared.kept.Kept.{Kept}
use Rattle.threaded_replay.specs.declared.error.StreamError.{StreamError}
use Rattle.threaded_replay.specs.Reading.{BreaksIn, IsRefused}
use Rattle.replay_core.specs.declared.status.Status.{Status}
use Rattle.replay_core.specs.declared.status.Status.TheVariants as status
use Rattle.replay_tool.specs.Outcome.{reports_kept}
use Rattle.replay_tool.specs.Said.{IsSilent, Said, limit_line, no_memory_line, read_fault_line, usage_line, write_fault_line}
use Rattle.replay_tool.specs.Showing.{MetTooMany, Search, TreeFailed, TreeSeen, UnderSetup, WroteNothing, search_of}
use Rattle.threads_tool.specs.Stops.{IsTooLong, IsUntouched, WroteAll, WroteFront, refused_line, refused_status}

-- what the program was given and what went through it: its words and variables, the tree of manifests, the source of the stream file, and the two sinks
pub record ThreadsRun : Type 0 where
  pub words : List Word
  pub env : List Variable
  pub tree : TreeSeen
  pub streams : Change
  pub sink : Change
  pub errs : Change

-- what the words ask for: they are those of a replay, without its command
abbrev pub threads_ask : List Word → Option Asked
threads_ask words = words_ask (codes "run" ∷ words)

-- no replay is asked for
abbrev pub IsNoReplay : Option Asked → Type 0
IsNoReplay o = (asked : RunAsked) → o ≢ Some (AsksRun asked)

-- ---- the ends

-- nothing was written, and this line was said
pub record SaidOnly (line : List ℕ) (run : ThreadsRun) : Type 0 where
  pub nothing : WroteNothing run.sink
  pub said : Said line run.errs

-- nothing was read, written or said but this line
pub record DidNothing (line : List ℕ) (run : ThreadsRun) : Type 0 where
  pub untouched : IsUntouched run.streams run.sink
  pub said : Said line run.errs

-- the file was replayed with a merge of its streams, its trace and its text were written, and nothing was said
pub record Completed {S : Type 0} (log : S → Log) (s : Setup) (run : ThreadsRun) (session : Option Kept) (seats : List S) : Type 0 where
  pub wrote : WroteAll log s run.streams run.sink session seats
  pub silent : IsSilent run.errs

-- a front of them was written before the sink failed, which was said
pub record Broke {S : Type 0} (log : S → Log) (s : Setup) (run : ThreadsRun) : Type 0 where
  pub front : WroteFront log s run.streams run.sink
  pub said : Said write_fault_line run.errs

-- a line of the file is refused for a cause of this status, which was said
pub record Refused (st : Status) (run : ThreadsRun) : Type 0 where
  pub error : StreamError
  pub refused : IsRefused run.streams error
  pub status : refused_status error ≡ st
  pub only : SaidOnly (refused_line error) run

-- the source failed
pub record SourceFailed (run : ThreadsRun) : Type 0 where
  pub breaks : BreaksIn run.streams
  pub only : SaidOnly read_fault_line run

-- the file was read, and one of its calls would make a chain of more than 64 layers
pub record Barred (s : Setup) (run : ThreadsRun) : Type 0 where
  pub long : IsTooLong s run.streams
  pub only : SaidOnly (limit_line which.Chain) run

-- How a run under a setup ends. A session and seats come back exactly where the file was replayed and all was written.
abbrev pub EndsUnder : {S : Type 0} → (S → Log) → Setup → ThreadsRun → Status → Option (Option Kept) → List S → Type 0
EndsUnder log s run status.Clean (Some session) seats = Completed log s run session seats × (reports_kept session ≡ 0)
EndsUnder log s run status.Reported (Some session) seats = Completed log s run session seats × (reports_kept session ≢ 0)
EndsUnder log s run status.Malformed None [] = Refused status.Malformed run
EndsUnder log s run status.ReadFault None [] = SourceFailed run
EndsUnder log s run status.WriteFault None [] = Broke log s run
EndsUnder log s run status.Limit None [] = Refused status.Limit run ⊎ Barred s run
EndsUnder log s run status.NoMemory None [] = SaidOnly no_memory_line run
EndsUnder log s run other session seats = ⊥

-- no manifests were read for this cause: nothing was read of the stream file or written, and this line was said
pub record Unset (Cause : Type 0) (line : List ℕ) (run : ThreadsRun) : Type 0 where
  pub cause : Cause
  pub only : DidNothing line run

-- how a run ends whose manifests aren't read: the tree failed, a search met too many, or memory ran out
abbrev pub EndsBefore : {S : Type 0} → Search → ThreadsRun → Status → Option (Option Kept) → List S → Type 0
EndsBefore search run status.ReadFault None [] = Unset (TreeFailed search.tree run.sink) read_fault_line run
EndsBefore search run status.Limit None [] = Unset (MetTooMany search run.sink) (limit_line which.Manifests) run
EndsBefore search run status.NoMemory None [] = Unset (search.tree.faults ≡ search.tree.faults_before) no_memory_line run
EndsBefore search run other session seats = ⊥

-- how a run ends, by what its words ask for
abbrev pub EndsAs : {S : Type 0} → (S → Log) → Option Asked → ThreadsRun → Status → Option (Option Kept) → List S → Type 0
EndsAs log (Some (AsksRun asked)) run st session seats =
    let search = search_of asked.root asked.exe run.env run.tree in
    EndsBefore search run st session seats ⊎ UnderSetup search (λ s. EndsUnder log s run st session seats)
EndsAs log other run status.Usage None [] = DidNothing usage_line run
EndsAs log other run st session seats = ⊥

-- memory ran out before anything was read
abbrev pub EndsAtOnce : {S : Type 0} → ThreadsRun → Status → Option (Option Kept) → List S → Type 0
EndsAtOnce run status.NoMemory None [] = DidNothing no_memory_line run
EndsAtOnce run other session seats = ⊥

-- The promises of the program, by the words that it was given: each status has its cause, and where the file was replayed, what was written is the trace of a merge of its
-- streams and the text of this trace, and each seat was told its part of the trace's driver calls.
abbrev pub Ends : {S : Type 0} → (S → Log) → ThreadsRun → Status → Option (Option Kept) → List S → Type 0
Ends log run st session seats = EndsAs log (threads_ask run.words) run st session seats ⊎ EndsAtOnce run st session seats

-- each of these seats answers by the policy that the words choose for a replay, where it tells one
abbrev pub AnswerBy : {S : Type 0} → (S → Option Policy) → Option Asked → List S → Type 0
AnswerBy answers_by o seats = (asked : RunAsked) → o ≡ Some (AsksRun asked) → AllByRecursion (λ seat. IsPolicy (answers_by seat) asked.policy) seats
