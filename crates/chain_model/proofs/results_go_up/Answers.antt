use Rattle.chain_model.proofs.Tracing.{sent_up, skipped_up}
use Rattle.chain_model.proofs.results_go_up.Goals as goal

pub returns : goal.returns
returns c = record {
  sent = λ s k events thread o h lost replies trace st is held. sent_up s k events thread o h lost replies trace st is held;
  skipped = λ s k events thread o h lost replies trace st is held. skipped_up s k events thread o h lost replies trace st is held;
}
