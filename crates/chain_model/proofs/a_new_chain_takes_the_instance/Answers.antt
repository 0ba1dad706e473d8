use Rattle.chain_model.proofs.Starting.{params_none}
use Rattle.chain_model.proofs.Newly.{new_walk}
use Rattle.chain_model.proofs.a_new_chain_takes_the_instance.Goals as goal

pub returns : goal.returns
returns c = λ o kinds place creates. new_walk o (params_none o.cmd creates) kinds place
