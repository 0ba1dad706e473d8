use Rattle.device_facts.proofs.ByItself.{same_args, same_calls, same_drivers, same_skipped}
use Rattle.device_facts.proofs.laws.a_device_is_by_itself.Goals as goal

pub returns-clause-args : goal.returns-clause-args
returns-clause-args c = same_args

pub returns-clause-skipped : goal.returns-clause-skipped
returns-clause-skipped c = same_skipped

pub returns-clause-drivers : goal.returns-clause-drivers
returns-clause-drivers c = same_drivers

pub returns-clause-calls : goal.returns-clause-calls
returns-clause-calls c = λ s lines device turns b replies comes. same_calls s lines device turns b comes replies
