use Rattle.stream_plans.proofs.NamedLemmas.{devices_first}
use Rattle.stream_plans.proofs.laws.each_device_is_planned.Goals as goal

pub returns : goal.returns
returns c = devices_first
