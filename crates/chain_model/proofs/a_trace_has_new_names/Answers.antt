use Rattle.chain_model.proofs.Gapped.{gapped}
use Rattle.chain_model.proofs.a_trace_has_new_names.Goals as goal

pub returns : goal.returns
returns c = gapped
