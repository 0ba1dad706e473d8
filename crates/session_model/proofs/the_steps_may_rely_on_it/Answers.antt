use Rattle.session_model.proofs.Shapes.{begin_steps}
use Rattle.session_model.proofs.Steps.{return_steps}
use Rattle.session_model.proofs.the_steps_may_rely_on_it.Goals as goal

pub returns : goal.returns
returns c = record { begins = begin_steps; returns = return_steps }
