-- A session stands for the events of a trace and the replies of its drivers, and what one event more does. Events and replies stand newest first.
-- Source: this project.
use Rattle.std.specs.Prelude.{◌≡◌, ◌+◌, ◌∷◌, ◌++◌, ℕ, List, Option, Some, None, length}
use Rattle.command_tables.specs.Calls.{ReplyContent}
use Rattle.command_tables.specs.Tests.{same_command}
use Rattle.command_tables.specs.declared.types.CommandId.TheVariants as cmd
use Rattle.model_driver.specs.Logs.{Log, logged}
use Rattle.trace_format.specs.Content.{BeginEvent, TraceEvent, Begin, Return}
use Rattle.replay_model.specs.Setup.{Setup}
use Rattle.replay_model.specs.Judged.{begun_of, judged}
use Rattle.replay_model.specs.Direct.{driver_calls, exchanges_at, sends_at, valued}
use Rattle.replay_model.specs.Text.{lines_at}
use Rattle.chain_model.specs.Gaps.{IsGapped}
use Rattle.chain_model.specs.Traces.{GivesGuarded}
use Rattle.session_tables.specs.Births.{AreApart}
use Rattle.session_model.specs.Session.{SessionKept, nothing_kept}
use Rattle.session_model.specs.Stands.{Stands}
use Rattle.chain_session.specs.declared.kept.Kept.{Kept}
use Rattle.chain_session.specs.declared.error.SessionError.{SessionError}
use Rattle.chain_session.specs.Creation.{IsFault}
use Rattle.chain_session.specs.Shown.{Shows}
use Rattle.chain_session.specs.Telling.{FrontAsked}

-- what a session keeps is this, under a setup: nothing before the first begin
abbrev pub ShowsOnce : Setup → Option Kept → SessionKept → Type 0
ShowsOnce s None k = k ≡ nothing_kept
ShowsOnce s (Some x) k = Shows s x k

-- a session stands for these events and replies, under a setup
pub record StandsFor (s : Setup) (x : Option Kept) (events : List TraceEvent) (replies : List ReplyContent) : Type 0 where
  pub kept : SessionKept
  pub shows : ShowsOnce s x kept
  pub stands : Stands s kept events replies

-- one event more of a trace can come, the names of which may have gaps in their numbers
pub record CanCome (s : Setup) (x : Option Kept) (e : TraceEvent) : Type 0 where
  pub events : List TraceEvent
  pub replies : List ReplyContent
  pub stands : StandsFor s x events replies
  pub trace : IsGapped (e ∷ events)

-- One event more, with the drivers' replies to it, for each list of events and replies for which the session stood and which the event may follow: it stands for
-- them with this one, the drivers' log has gained the event's calls, each with its reply, and the lines are the event's.
pub record Advances (s : Setup) (old new : Option Kept) (e : TraceEvent) (old_log log : Log) (old_lines lines : List ℕ) : Type 0 where
  pub replies : List ReplyContent
  pub stands : (events : List TraceEvent) (before : List ReplyContent) → StandsFor s old events before → IsGapped (e ∷ events) → StandsFor s new (e ∷ events) (replies ++ before)
  pub each : (events : List TraceEvent) (before : List ReplyContent) → StandsFor s old events before → IsGapped (e ∷ events) → length replies ≡ sends_at s (judged s events) e
  pub told : (events : List TraceEvent) (before : List ReplyContent) → StandsFor s old events before → IsGapped (e ∷ events)
      → log ≡ logged old_log (exchanges_at s (judged s events) e (replies ++ before))
  pub wrote : (events : List TraceEvent) (before : List ReplyContent) → StandsFor s old events before → IsGapped (e ∷ events)
      → lines ≡ old_lines ++ lines_at s (judged s events) e

-- the open call of a thread can return, under a setup whose chains are guarded
pub record CanReturn (x : Option Kept) (thread : ℕ) : Type 0 where
  pub setup : Setup
  pub guarded : GivesGuarded setup
  pub can : CanCome setup x (Return thread)

-- the return is one event more, of which no driver is told, under any such setup
abbrev pub ReturnsAs : Option Kept → Option Kept → ℕ → List ℕ → List ℕ → Type 0
ReturnsAs old new thread old_lines lines = (s : Setup) → GivesGuarded s → (log : Log) → Advances s old new (Return thread) log log old_lines lines

-- the numbers of calls, skipped calls and reports are those of what is kept
abbrev pub Counts : Option Kept → ℕ → ℕ → ℕ → Type 0
Counts x calls skipped reports = (s : Setup) (k : SessionKept) → ShowsOnce s x k → (calls ≡ k.calls) × ((skipped ≡ k.skipped) × (reports ≡ k.reports))

-- so many names came to stand for objects, so many objects live and so many calls are open, in one sum, and no object that lives has two births
abbrev pub Holds : Option Kept → ℕ → Type 0
Holds x held = (s : Setup) (k : SessionKept) → ShowsOnce s x k → (held ≡ k.count + length k.births + length k.sent) × AreApart k.births

-- a begin that memory cut short: the first so many of its calls were told
abbrev pub CutBefore : Setup → Option Kept → BeginEvent → Log → Log → Type 0
CutBefore s old e old_log log = (events : List TraceEvent) (before : List ReplyContent) → StandsFor s old events before → IsGapped (Begin e ∷ events)
    → FrontAsked (driver_calls (valued (judged s events) before) (begun_of s (judged s events) e).opened) old_log log

-- how many calls there were
abbrev pub calls_before : Option Kept → ℕ
calls_before None = 0
calls_before (Some x) = x.calls

-- ---- an event as the program has it

-- the event is a begin
abbrev pub BeginsCall : TraceEvent → Type 0
BeginsCall (Begin e) = Unit {0}
BeginsCall (Return thread) = ⊥

-- the begin, which memory cut short
abbrev pub CutAt : Setup → Option Kept → TraceEvent → Log → Log → Type 0
CutAt s old (Begin e) old_log log = CutBefore s old e old_log log
CutAt s old (Return thread) old_log log = Unit {0}

-- an error of a begin says that its chain has too many layers, with their number, or that there was no memory
abbrev pub IsFaultAt : Setup → TraceEvent → SessionError → Type 0
IsFaultAt s (Begin e) error = IsFault (same_command e.cmd cmd.CreateInstance) (s.outcome e.payload) error
IsFaultAt s (Return thread) error = Unit {0}
