use Rattle.thread_layer.proofs.Standing.{entered, found}
use Rattle.thread_layer.proofs.state.UseState.enter.Goals as goal

pub returns-clause-overlaps : goal.returns-clause-overlaps
returns-clause-overlaps c = found c.args.self.now.place c.args.thread c.args.number c.args.call.now c.args.self.now.kept _ _ c.in_ok-take_in.ensures.findings

pub returns-clause-stands : goal.returns-clause-stands
returns-clause-stands c = entered c.args.thread c.args.number c.args.call.now c.args.self.now.kept _ c.in_ok-take_in.ensures.kept
