use Rattle.std.proofs.Common.{◌∙◌, arith}
use Rattle.terminator.proofs.Places.{entered_rows, entered_step, kept_on}
use Rattle.terminator.proofs.telling.tell_params.Goals as goal

pub loop-p-preserved : goal.loop-p-preserved
loop-p-preserved c = (entered_step c.args.issued.now.ids c.args.driver c.args.params.now c.args.args.now.lists c.loop-p.args.lists c.tell_param.new.args.lists c.loop-p.p _ c.loop-p-test.true c.loop-p.invariant.0 c.tell_param.ensures.lists, kept_on c.tell_param.ensures.room c.loop-p.invariant.1)

pub returns-clause-lists : goal.returns-clause-lists
returns-clause-lists c = c.loop-p.invariant.0 ∙ entered_rows c.args.issued.now.ids c.args.driver c.args.params.now c.args.args.now.lists c.loop-p.p (omega arith)
