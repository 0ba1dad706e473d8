use Rattle.layer_model.proofs.Steps.{life_finds, life_enters, life_skips, life_leaves}
use Rattle.layer_model.proofs.a_lifetimes_part_stands_for_its_history.Goals as goal

pub returns : goal.returns
returns c = record { finds = life_finds; passes = life_enters; skips = life_skips; leaves = life_leaves }
