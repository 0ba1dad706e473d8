use Rattle.std.proofs.Common.{◌≡◌, ◌≤◌, List, Some, map, take, string_bytes, vec_len}
use Rattle.std.specs.List.{flat_map}
use Rattle.replay_base.specs.Files.{File}
use Rattle.layer_search.specs.Contents.{AllOfFiles, found_driver, note_content}
use Rattle.layer_search.specs.Found.{path_drivers, driver_notes, driver_at}
use Rattle.layer_search.proofs.drivers.drivers_at.Given as goal

-- what each path so far gives
abbrev pub invariant-loop-path : goal.invariant-loop-path
invariant-loop-path g l = record {
  list : (files : List File) → g.T.Tree.files l.initial.tree ≡ Some files → map found_driver l.drivers.list.items ≡ flat_map (λ path. path_drivers path (driver_at files l.root path)) (map string_bytes (take l.path-index l.paths));
  notes : (files : List File) → g.T.Tree.files l.initial.tree ≡ Some files → map note_content l.drivers.notes.items ≡ flat_map (λ path. driver_notes path (driver_at files l.root path)) (map string_bytes (take l.path-index l.paths));
  reasons : AllOfFiles l.drivers.notes.items;
  few : vec_len l.drivers.list ≤ l.path-index;
  same : g.T.Tree.files l.tree ≡ g.T.Tree.files l.initial.tree;
  stood : g.T.Tree.faults l.tree ≡ g.T.Tree.faults l.initial.tree;
}
