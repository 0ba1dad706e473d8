use Rattle.chain_model.proofs.Tracing.{goes_down}
use Rattle.chain_model.proofs.a_begin_goes_down.Goals as goal

pub returns : goal.returns
returns c = goes_down
