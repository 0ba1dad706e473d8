use Rattle.session_model.proofs.Listed.{past_listed, since_listed}
use Rattle.session_model.proofs.what_lives_can_be_listed.Goals as goal

pub returns : goal.returns
returns c = record { begins = past_listed; returns = since_listed }
