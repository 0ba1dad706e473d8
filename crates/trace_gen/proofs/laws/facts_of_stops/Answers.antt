use Rattle.trace_gen.proofs.StopLemmas.{all_events, only_layers}
use Rattle.trace_gen.proofs.laws.facts_of_stops.Goals as goal

pub returns : goal.returns
returns c = record { stops = only_layers; events = all_events }
