-- What the events of a list do to a session, one after the other. Events that were replayed and replies stand newest first; those of a list that is to be replayed stand
-- oldest first. Source: this project.
use Rattle.std.specs.Prelude.{◌≡◌, ◌+◌, ◌<◌, ◌^◌, ⊤, ℕ, true, Option, List, [], ◌∷◌, ◌++◌, length, reverse}
use Rattle.std.specs.List.{list_any}
use Rattle.command_tables.specs.Calls.{DriverCallContent, ReplyContent}
use Rattle.trace_format.specs.Content.{TraceEvent}
use Rattle.model_driver.specs.Logs.{Log, logged}
use Rattle.chain_model.specs.Gaps.{IsGapped}
use Rattle.replay_model.specs.Direct.{exchanges}
use Rattle.replay_model.specs.Judged.{judged}
use Rattle.replay_model.specs.Setup.{Setup}
use Rattle.replay_model.specs.Text.{lines_at}
use Rattle.replay_model.specs.Stop.{exceeds_layers}
use Rattle.chain_session.specs.declared.error.SessionError.{SessionError}
use Rattle.chain_session.specs.declared.error.SessionError.TheVariants as error
use Rattle.chain_session.specs.declared.kept.Kept.{Kept}
use Rattle.chain_session.specs.Standing.{StandsFor}

-- the lines of such events behind these
abbrev pub lines_through : Setup → List TraceEvent → List TraceEvent → List ℕ
lines_through s before [] = []
lines_through s before (e ∷ es) = lines_at s (judged s before) e ++ lines_through s (e ∷ before) es

-- a session stands for events behind which these may come; of these there are less than 2^63 with all that were before
pub record CanGoOn (s : Setup) (x : Option Kept) (es : List TraceEvent) : Type 0 where
  pub before : List TraceEvent
  pub replies : List ReplyContent
  pub stands : StandsFor s x before replies
  pub trace : IsGapped (reverse es ++ before)
  pub few : length es + length before < 2 ^ 63

-- what went to the drivers and to the lines: their log and the lines before and behind it
pub record Passage : Type 0 where
  pub old_log : Log
  pub log : Log
  pub old_lines : List ℕ
  pub lines : List ℕ

-- All these events more, with the drivers' replies to them, for each list of events and replies for which the session stood and which they may follow: it stands for those
-- with these, the drivers' log has gained just the exchanges of these, and their lines were written.
pub record GoesThrough (s : Setup) (old new : Option Kept) (es : List TraceEvent) (p : Passage) : Type 0 where
  pub replies : List ReplyContent
  pub gained : List (DriverCallContent × ReplyContent)
  pub log : p.log ≡ logged p.old_log gained
  pub stands : (before : List TraceEvent) (first : List ReplyContent) → StandsFor s old before first → IsGapped (reverse es ++ before) → StandsFor s new (reverse es ++ before) (replies ++ first)
  pub told : (before : List TraceEvent) (first : List ReplyContent) → StandsFor s old before first → IsGapped (reverse es ++ before)
      → exchanges (judged s (reverse es ++ before)) (replies ++ first) ≡ exchanges (judged s before) first ++ gained
  pub wrote : (before : List TraceEvent) (first : List ReplyContent) → StandsFor s old before first → IsGapped (reverse es ++ before) → p.lines ≡ p.old_lines ++ lines_through s before es

-- an error that says that a chain has too many layers says so of one of these events
abbrev pub IsLongAmong : Setup → List TraceEvent → SessionError → Type 0
IsLongAmong s es (error.Chain count) = list_any (exceeds_layers s) es ≡ true
IsLongAmong s es error.NoMemory = ⊤
