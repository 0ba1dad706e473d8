use Rattle.std.proofs.Common.{refl}
use Rattle.model_driver.specs.Driver.{call_shown}
use Rattle.model_driver.proofs.Handles.{answers_so}
use Rattle.model_driver.proofs.model_driver.ModelDriverDriver.call.Goals as goal

pub returns-clause-answers : goal.returns-clause-answers
returns-clause-answers c =
    answers_so record { policy = c.self.inside.policy; given = c.self.inside.given.items } (call_shown c.args.call.now) record { code = c.args.call.now.body.code; handles = c.serve.new.handles.items } refl c.in_ok-serve.ensures.handles
