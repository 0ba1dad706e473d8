use Rattle.std.proofs.Common.{◌∙◌, arith}
use Rattle.unique_layer.proofs.Places.{entered_rows, entered_step, room_on}
use Rattle.unique_layer.proofs.state.UniqueState.enter_params.Goals as goal

pub loop-p-preserved : goal.loop-p-preserved
loop-p-preserved c =
    record {
      lists = entered_step c.args.self.now.ids c.args.params.now c.args.args.now.lists c.loop-p.args.lists c.enter_param.new.args.lists c.loop-p.p _ c.loop-p-test.true c.loop-p.invariant.lists c.enter_param.ensures.lists;
      marks = c.enter_param.ensures.marks ∙ c.loop-p.invariant.marks;
      room = room_on c.args.args.now c.loop-p.args c.enter_param.new.args c.loop-p.invariant.room c.enter_param.ensures.room;
    }

pub returns-clause-lists : goal.returns-clause-lists
returns-clause-lists c = c.loop-p.invariant.lists ∙ entered_rows c.args.self.now.ids c.args.params.now c.args.args.now.lists c.loop-p.p (omega arith)
