-- How an error of a session is passed on. Source: this project.
use Rattle.replay_base.specs.declared.limit.Which.TheVariants as which
use Rattle.chain_session.specs.declared.error.SessionError.{SessionError}
use Rattle.chain_session.specs.declared.error.SessionError.TheVariants as session
use Rattle.replay_core.specs.declared.error.ReplayError.{ReplayError}
use Rattle.replay_core.specs.declared.error.ReplayError.TheVariants as replay

-- the error of a replay that an error of its session becomes
abbrev pub replay_error : SessionError → ReplayError
replay_error (session.Chain count) = replay.Limit which.Chain
replay_error session.NoMemory = replay.NoMemory
