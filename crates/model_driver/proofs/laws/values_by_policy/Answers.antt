use Rattle.model_driver.proofs.Outs.{back_is_not_out, fresh_is_new, given_is_out, reused_is_least}
use Rattle.model_driver.proofs.laws.values_by_policy.Goals as goal

pub returns-clause-fresh : goal.returns-clause-fresh
returns-clause-fresh c = fresh_is_new

pub returns-clause-reused : goal.returns-clause-reused
returns-clause-reused c = reused_is_least

pub returns-clause-out : goal.returns-clause-out
returns-clause-out c = given_is_out

pub returns-clause-back : goal.returns-clause-back
returns-clause-back c = back_is_not_out
