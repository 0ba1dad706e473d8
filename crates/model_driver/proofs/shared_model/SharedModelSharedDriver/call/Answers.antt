use Rattle.model_driver.specs.Driver.{call_shown}
use Rattle.model_driver.proofs.Handles.{answers_due}
use Rattle.model_driver.proofs.shared_model.SharedModelSharedDriver.call.Goals as goal

pub returns-clause-answers : goal.returns-clause-answers
returns-clause-answers c = answers_due _ _ _ (call_shown c.args.call.now) _ _ c.clear.ensures.items c.give.ensures.handles c.handles_due-due.ensures
