use Rattle.replay_model.proofs.Stops.{trace-spelled}
use Rattle.replay_model.proofs.a_trace_without_a_stop_spells_its_events.Goals as goal

pub returns : goal.returns
returns c = trace-spelled
