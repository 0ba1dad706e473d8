-- What written events with written replies make of a session. Events that were replayed and the replies to them stand newest first; those that are written stand oldest first.
-- Source: this project.
use Rattle.std.specs.Prelude.{◌≡◌, ℕ, Option, List, ◌++◌, reverse}
use Rattle.command_tables.specs.Calls.{ReplyContent}
use Rattle.trace_format.specs.Content.{TraceEvent}
use Rattle.chain_model.specs.Gaps.{IsGapped}
use Rattle.replay_model.specs.Setup.{Setup}
use Rattle.chain_session.specs.declared.kept.Kept.{Kept}
use Rattle.chain_session.specs.Standing.{StandsFor}
use Rattle.event_replay.specs.Through.{lines_through}

-- the replies that a driver with written ones has given, and those that are left
pub record Played : Type 0 where
  pub given : List ReplyContent
  pub left : List ReplyContent

-- For each list of events and replies for which the session stood and which these may follow, it stands for those with these and with just these replies,
-- and their lines were written.
pub record Follows (s : Setup) (old new : Option Kept) (es : List TraceEvent) (replies : List ReplyContent) (old_lines lines : List ℕ) : Type 0 where
  pub stands : (before : List TraceEvent) (first : List ReplyContent) → StandsFor s old before first → IsGapped (reverse es ++ before) → StandsFor s new (reverse es ++ before) (reverse replies ++ first)
  pub wrote : (before : List TraceEvent) (first : List ReplyContent) → StandsFor s old before first → IsGapped (reverse es ++ before) → lines ≡ old_lines ++ lines_through s before es
