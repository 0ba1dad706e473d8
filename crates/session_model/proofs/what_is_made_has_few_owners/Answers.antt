use Rattle.session_model.proofs.Depth.{three_made}
use Rattle.session_model.proofs.what_is_made_has_few_owners.Goals as goal

pub returns : goal.returns
returns c = three_made
