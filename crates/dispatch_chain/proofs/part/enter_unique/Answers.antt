use Rattle.dispatch_chain.proofs.Shapes.{as_large_below, params_below, few_places_below}
use Rattle.dispatch_chain.proofs.part.enter_unique.Goals as goal

pub returns-clause-shape : goal.returns-clause-shape
returns-clause-shape g c = params_below c.args.unique.now.ids c.args.call.now c.enter_unique.new.call c.enter_unique.ensures.call c.requires.shape

pub returns-clause-few : goal.returns-clause-few
returns-clause-few g c = few_places_below c.args.unique.now.ids c.args.call.now c.enter_unique.new.call c.enter_unique.ensures.call c.requires.few

pub returns-clause-size : goal.returns-clause-size
returns-clause-size g c = as_large_below c.args.unique.now.ids c.args.call.now c.enter_unique.new.call c.enter_unique.ensures.call c.requires.shape
