use Rattle.layer_model.proofs.Steps.{use_finds, use_enters, use_leaves}
use Rattle.layer_model.proofs.a_threads_part_stands_for_its_history.Goals as goal

pub returns : goal.returns
returns c = record { finds = use_finds; passes = use_enters; leaves = use_leaves }
