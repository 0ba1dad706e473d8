use Rattle.model_driver.specs.Driver.{call_shown}
use Rattle.model_driver.proofs.GivenPlaces.{handles_first, given_first}
use Rattle.model_driver.proofs.model_driver.serve_first.Goals as goal

pub returns-clause-handles : goal.returns-clause-handles
returns-clause-handles c =
    handles_first c.args.policy c.args.given.now.items (call_shown c.args.call.now) c.handles_due.result c.ended.result.now c.serve.new.handles.items c.requires c.ended.ensures c.handles_due.ensures (rw c.new-values.ensures at c.in_ok-serve.ensures.handles)

pub returns-clause-ok : goal.returns-clause-ok
returns-clause-ok c =
    given_first c.args.policy c.args.given.now.items c.push.new.self.items c.serve.new.self (call_shown c.args.call.now) c.handles_due.result c.ended.result.now c.requires c.ended.ensures c.handles_due.ensures (rw c.new-values.ensures at c.in_ok-serve.ensures.ok) c.in_ok-push.ensures.items
