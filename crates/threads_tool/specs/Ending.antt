-- What is answered and said of a run, by what came of it. Source: this project.
use Rattle.std.specs.Prelude.{◌≡◌, Option, Some, None, List, []}
use Rattle.replay_base.specs.Changes.{Change}
use Rattle.chain_session.specs.declared.kept.Kept.{Kept}
use Rattle.replay_core.specs.declared.status.Status.{Status}
use Rattle.replay_tool.specs.Ends.{CountsTo}
use Rattle.replay_tool.specs.Said.{IsSilent, Said}
use Rattle.threads_tool.specs.declared.reading.Stop.{Stop}
use Rattle.threads_tool.specs.Stops.{stop_line, stop_status}

-- the status, the session and the seats that are answered, and the error sink
pub record Answer (S : Type 0) : Type 0 where
  pub status : Status
  pub session : Option (Option Kept)
  pub seats : List S
  pub errs : Change

-- a run that came to its end with a session that keeps this and these seats
pub record AnswersWith {S : Type 0} (a : Answer S) (kept : Option Kept) (made : List S) : Type 0 where
  pub counts : CountsTo kept a.status
  pub session : a.session ≡ Some kept
  pub seats : a.seats ≡ made
  pub silent : IsSilent a.errs

-- a run that stopped
pub record AnswersStop {S : Type 0} (a : Answer S) (e : Stop) : Type 0 where
  pub status : a.status ≡ stop_status e
  pub session : a.session ≡ None
  pub seats : a.seats ≡ []
  pub said : Said (stop_line e) a.errs
