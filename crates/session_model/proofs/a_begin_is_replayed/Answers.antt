use Rattle.session_model.proofs.Began.{begins_well}
use Rattle.session_model.proofs.a_begin_is_replayed.Goals as goal

pub returns : goal.returns
returns c = begins_well
