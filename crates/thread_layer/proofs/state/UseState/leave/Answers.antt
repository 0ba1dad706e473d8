use Rattle.object_records.specs.Shape.{made_of}
use Rattle.thread_layer.proofs.Standing.{left}
use Rattle.thread_layer.proofs.state.UseState.leave.Goals as goal

pub returns-clause-stands : goal.returns-clause-stands
returns-clause-stands c = left c.args.thread c.args.call.now (made_of c.args.call.now c.args.results.now) c.args.self.now.kept _ c.in_ok-take_back.ensures.kept
