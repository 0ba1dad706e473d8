use Rattle.replay_model.proofs.Stops.{trace-accepted}
use Rattle.replay_model.proofs.traces_are_accepted.Goals as goal

pub returns : goal.returns
returns c = trace-accepted
