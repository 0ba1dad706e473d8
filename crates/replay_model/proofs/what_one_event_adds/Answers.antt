use Rattle.replay_model.proofs.Exchanges.{lines-judge, exchanges-judge}
use Rattle.replay_model.proofs.what_one_event_adds.Goals as goal

pub returns : goal.returns
returns c = record { lines = lines-judge; exchanges = exchanges-judge }
