-- By computation.
use Rattle.std.proofs.Common.{refl}
use Rattle.layer_search.specs.Folders.{config_folders, data_folders, suffix_of, folders_of}
use Rattle.layer_search.proofs.rows.the_folders_without_variables.Goals as goal

pub returns : goal.returns
unfolding config_folders data_folders suffix_of folders_of
returns c = refl
