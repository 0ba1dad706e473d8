use Rattle.shard_start.proofs.OneDriver.{one_so}
use Rattle.shard_start.proofs.Passed.{passed_so}
use Rattle.shard_start.proofs.Reopened.{drivers_so, owners_so}
use Rattle.shard_start.proofs.calls.a_call_on_a_device_is_small.Goals as goal

pub returns-clause-one : goal.returns-clause-one
returns-clause-one c = one_so c.a_begin_goes_on.ensures.tells

pub returns-clause-passed : goal.returns-clause-passed
returns-clause-passed c = passed_so c.a_begin_goes_on.ensures.may

pub returns-clause-owners : goal.returns-clause-owners
returns-clause-owners c = owners_so c.what_is_made_has_few_owners.ensures

pub returns-clause-drivers : goal.returns-clause-drivers
returns-clause-drivers c = drivers_so c.the_steps_may_rely_on_it.ensures.returns
