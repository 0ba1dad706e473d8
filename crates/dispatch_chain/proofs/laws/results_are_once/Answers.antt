use Rattle.dispatch_chain.proofs.Lost.{lost_once, one_is_once, wrapped_are_once}
use Rattle.dispatch_chain.proofs.laws.results_are_once.Goals as goal

pub returns-clause-lost : goal.returns-clause-lost
returns-clause-lost c = lost_once

pub returns-clause-one : goal.returns-clause-one
returns-clause-one c = one_is_once

pub returns-clause-wrapped : goal.returns-clause-wrapped
returns-clause-wrapped c = wrapped_are_once
