use Rattle.lifetime_layer.specs.Shape.{call_read}
use Rattle.lifetime_layer.proofs.Histories.{enters_too, finds_too}
use Rattle.lifetime_layer.proofs.state.LifeState.enter.Goals as goal

pub returns-clause-finds : goal.returns-clause-finds
returns-clause-finds c = λ h number thread stands. finds_too h c.args.self.now.kept (call_read number thread c.args.call.now) _ _ _ stands c.in_ok-verdict.ensures.found

pub returns-clause-stands : goal.returns-clause-stands
returns-clause-stands c = λ h number thread stands. enters_too h c.args.self.now.kept _ (call_read number thread c.args.call.now) _ stands c.pass.ensures.kept
