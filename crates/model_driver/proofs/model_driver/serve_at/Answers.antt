use Rattle.model_driver.specs.Driver.{call_shown}
use Rattle.model_driver.proofs.GivenPlaces.{handles_at, given_at}
use Rattle.model_driver.proofs.model_driver.serve_at.Goals as goal

pub returns-clause-handles : goal.returns-clause-handles
returns-clause-handles c =
    handles_at c.serve.result c.args.policy c.args.given.now.items (call_shown c.args.call.now) c.args.place c.handles_due.result c.index_mut-values.result.now c.ended.result.now c.serve.new.handles.items c.requires c.index_mut-values.ensures.value
    c.ended.ensures c.handles_due.ensures c.serve.ensures.handles

pub returns-clause-ok : goal.returns-clause-ok
returns-clause-ok c =
    given_at c.serve.result c.args.policy c.args.given.now.items (call_shown c.args.call.now) c.args.place c.handles_due.result c.index_mut-values.result.now c.serve.new.self c.ended.result.now c.requires c.index_mut-values.ensures.value c.ended.ensures
    c.handles_due.ensures c.serve.ensures.ok
