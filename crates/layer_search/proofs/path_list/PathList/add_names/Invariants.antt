use Rattle.std.proofs.Common.{List, ℕ, ◌++◌, map, take, string_bytes}
use Rattle.replay_base.specs.Files.{path_in}
use Rattle.layer_search.specs.Collecting.{Collects}
use Rattle.layer_search.proofs.path_list.PathList.add_names.Given as goal

-- one path for each name so far
abbrev pub invariant-loop-name : goal.invariant-loop-name
invariant-loop-name l = (met : List (List ℕ)) → Collects l.initial.self met → Collects l.self (met ++ map (path_in l.folder) (map string_bytes (take l.name-index l.names)))
