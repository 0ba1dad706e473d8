use Rattle.replay_model.proofs.Accepted.{begins-idle}
use Rattle.replay_model.proofs.LessLemmas.{less-alike}
use Rattle.replay_model.proofs.skipped_calls_are_not_sent.Goals as goal

pub returns : goal.returns
returns c = record {
  calls = λ s events replies accepted. (less-alike s events (begins-idle s events accepted)).calls replies;
  exchanges = λ s events replies accepted. (less-alike s events (begins-idle s events accepted)).told replies;
  skipped = λ s events accepted. (less-alike s events (begins-idle s events accepted)).skipped;
}
