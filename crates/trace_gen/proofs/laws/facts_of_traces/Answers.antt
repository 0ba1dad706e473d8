use Rattle.trace_gen.proofs.AcceptedLemmas.{faultless}
use Rattle.trace_gen.proofs.laws.facts_of_traces.Goals as goal

pub returns : goal.returns
returns c = faultless
