use Rattle.std.proofs.Common.{◌∙◌, ap}
use Rattle.env_filters.specs.Entries.{paths_of}
use Rattle.layer_search.specs.Folders.{data_folders}
use Rattle.layer_search.proofs.Joins.{added_twice}
use Rattle.layer_search.proofs.folder_list.add_data.Goals as goal

pub returns : goal.returns
unfolding data_folders
returns c = added_twice _ _ _ _ _ _ _ c.in_ok-add_paths.ensures c.in_ok-add_paths-2.ensures (ap paths_of (c.as_str.ensures.value ∙ c.in_ok-home.ensures)) (ap paths_of c.value_or-system.ensures)
