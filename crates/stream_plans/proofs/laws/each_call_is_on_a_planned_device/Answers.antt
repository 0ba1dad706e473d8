use Rattle.stream_model.specs.FileParts.{parts}
use Rattle.stream_plans.proofs.OnThese.{all_on_these, few_devices, names_apart}
use Rattle.stream_plans.proofs.laws.each_call_is_on_a_planned_device.Goals as goal

pub returns-clause-on : goal.returns-clause-on
returns-clause-on c = all_on_these

pub returns-clause-distinct : goal.returns-clause-distinct
returns-clause-distinct c = λ lines order grammar. names_apart (parts lines)

pub returns-clause-few : goal.returns-clause-few
returns-clause-few c = few_devices
