use Rattle.layer_model.proofs.LeftOut.{enters_as_it_is, leaves_as_they_are}
use Rattle.layer_model.proofs.a_part_may_be_left_out.Goals as goal

pub returns : goal.returns
returns c = record { enters = enters_as_it_is; leaves = leaves_as_they_are }
