-- Whether a session can take an event, and what an error of it leaves. Source: this project.
use Rattle.std.specs.Prelude.{◌≡◌, ℕ, ◌+◌, ◌∷◌, true, List, Option, Some, ⊤}
use Rattle.command_tables.specs.Calls.{ReplyContent}
use Rattle.model_driver.specs.Logs.{Log}
use Rattle.trace_format.specs.Content.{TraceEvent, Begin, Return}
use Rattle.replay_model.specs.Setup.{Setup}
use Rattle.replay_model.specs.Stop.{exceeds_layers}
use Rattle.chain_model.specs.Traces.{IsTrace}
use Rattle.chain_session.specs.declared.error.SessionError.{SessionError}
use Rattle.chain_session.specs.declared.error.SessionError.TheVariants as error
use Rattle.chain_session.specs.declared.kept.Kept.{Kept}
use Rattle.chain_session.specs.Standing.{CanCome, StandsFor, calls_before}
use Rattle.chain_session.specs.Telling.{FrontAsked}
use Rattle.replay_core.specs.Traffic.{next_calls}

-- the session can take the event, of the call with this number
abbrev pub CanTake : Setup → Option Kept → TraceEvent → ℕ → Type 0
CanTake s x (Begin e) number = CanCome s x (Begin e) × (number ≡ calls_before x + 1)
CanTake s x (Return thread) number = CanCome s x (Return thread)

-- an event that an error cut short: the first so many of its calls were told, and none where its chain would have too many layers
pub record MayTell (s : Setup) (old : Option Kept) (e : TraceEvent) (old_log log : Log) : Type 0 where
  pub front : (events : List TraceEvent) (before : List ReplyContent) → StandsFor s old events before → IsTrace (e ∷ events) → FrontAsked (next_calls s events (Some e) before) old_log log
  pub long : exceeds_layers s e ≡ true → log ≡ old_log

-- an error that says that the chain has too many layers says so of the event's
abbrev pub IsLong : Setup → TraceEvent → SessionError → Type 0
IsLong s e (error.Chain count) = exceeds_layers s e ≡ true
IsLong s e error.NoMemory = ⊤
