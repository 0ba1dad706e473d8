use Rattle.replay_model.proofs.Exchanges.{exchanges-paired}
use Rattle.replay_model.proofs.one_reply_for_each_driver_call.Goals as goal

pub returns : goal.returns
returns c = exchanges-paired
