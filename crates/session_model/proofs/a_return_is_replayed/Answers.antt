use Rattle.session_model.proofs.Returned.{returns_well}
use Rattle.session_model.proofs.a_return_is_replayed.Goals as goal

pub returns : goal.returns
returns c = returns_well
