use Rattle.session_model.proofs.Running.{replays}
use Rattle.session_model.proofs.a_session_replays_its_trace.Goals as goal

pub returns : goal.returns
returns c = replays
