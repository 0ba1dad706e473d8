use Rattle.model_driver.proofs.Handles.{handles_given}
use Rattle.model_driver.proofs.adverse_driver.give.Goals as goal

pub returns-clause-handles : goal.returns-clause-handles
returns-clause-handles c = handles_given c.fill.new.handles.items c.args.values.now c.args.at c.args.count c.requires.values c.in_ok-fill.ensures
