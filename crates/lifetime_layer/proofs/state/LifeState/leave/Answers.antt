use Rattle.std.proofs.Common.{ap, sym}
use Rattle.object_records.specs.Shape.{made_of}
use Rattle.lifetime_layer.specs.Shape.{call_read}
use Rattle.lifetime_layer.proofs.Histories.{leaves_too}
use Rattle.lifetime_layer.proofs.state.LifeState.leave.Goals as goal

pub returns-clause-stands : goal.returns-clause-stands
returns-clause-stands c = λ h number thread stands. leaves_too h c.args.self.now.kept c.self.inside.records.kept _ (call_read number thread c.args.call.now) (made_of c.args.call.now c.args.results.now) stands (ap (λ p. p.kept) (sym c.self.view_is)) c.in_ok-bear.ensures.ok
