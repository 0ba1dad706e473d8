use Rattle.replay_model.proofs.Accepted.{open-threads, calls-judged}
use Rattle.replay_model.proofs.calls_are_those_of_the_events.Goals as goal

pub returns : goal.returns
returns c = record { begun = calls-judged; open_calls = open-threads }
