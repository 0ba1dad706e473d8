use Rattle.session_model.proofs.Running.{new_stands}
use Rattle.session_model.proofs.a_new_session_stands.Goals as goal

pub returns : goal.returns
returns c = new_stands
