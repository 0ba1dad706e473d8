use Rattle.replay_model.specs.Stop.{events_of}
use Rattle.replay_model.proofs.Accepted.{begins-idle}
use Rattle.replay_model.proofs.LessLemmas.{less-alike}
use Rattle.replay_model.proofs.Stops.{trace-accepted}
use Rattle.replay_model.proofs.skipped_calls_of_a_trace_are_not_sent.Goals as goal

pub returns : goal.returns
returns c = record {
  calls = λ s bytes replies. (less-alike s (events_of s bytes) (begins-idle s (events_of s bytes) (trace-accepted s bytes))).calls replies;
  exchanges = λ s bytes replies. (less-alike s (events_of s bytes) (begins-idle s (events_of s bytes) (trace-accepted s bytes))).told replies;
}
