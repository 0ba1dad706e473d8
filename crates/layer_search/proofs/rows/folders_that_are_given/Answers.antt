-- By computation.
use Rattle.std.proofs.Common.{refl}
use Rattle.layer_search.specs.Folders.{config_folders, data_folders, suffix_of, folders_of}
use Rattle.layer_search.specs.Found.{layer_paths}
use Rattle.layer_search.specs.Places.{replacing, adding}
use Rattle.layer_search.proofs.rows.folders_that_are_given.Goals as goal

pub returns : goal.returns
unfolding config_folders data_folders suffix_of folders_of replacing adding layer_paths
returns c = refl
