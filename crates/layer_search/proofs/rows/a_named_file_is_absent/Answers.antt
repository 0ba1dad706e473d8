-- By computation.
use Rattle.std.proofs.Common.{refl}
use Rattle.layer_search.specs.Folders.{config_folders, data_folders, suffix_of, folders_of}
use Rattle.layer_search.specs.Found.{driver_paths, selecting, is_kept, driver_at, drivers_of}
use Rattle.layer_search.specs.Places.{replacing, adding}
use Rattle.layer_search.proofs.rows.a_named_file_is_absent.Goals as goal

pub returns : goal.returns
unfolding config_folders data_folders suffix_of folders_of replacing adding driver_paths selecting is_kept driver_at drivers_of
returns c = refl
