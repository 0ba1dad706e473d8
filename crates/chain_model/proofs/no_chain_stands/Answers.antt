use Rattle.chain_model.proofs.Tracing.{nothing_simulates}
use Rattle.chain_model.proofs.no_chain_stands.Goals as goal

pub returns : goal.returns
returns c = nothing_simulates
