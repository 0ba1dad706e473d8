use Rattle.std.proofs.Common.{◌≡◌, List, Some, map, take}
use Rattle.std.specs.List.{flat_map}
use Rattle.replay_base.specs.Files.{File}
use Rattle.layer_search.specs.Collecting.{Collects}
use Rattle.layer_search.specs.Paths.{paths_at}
use Rattle.layer_search.specs.Places.{place_content}
use Rattle.layer_search.proofs.paths.paths_of.Given as goal

-- the paths at each place so far
abbrev pub invariant-loop-place : goal.invariant-loop-place
invariant-loop-place g l = record {
  told : (files : List File) → g.T.Tree.files l.initial.tree ≡ Some files → Collects l.paths (flat_map (paths_at files l.root) (map place_content (take l.place-index l.places)));
  same : g.T.Tree.files l.tree ≡ g.T.Tree.files l.initial.tree;
  stood : g.T.Tree.faults l.tree ≡ g.T.Tree.faults l.initial.tree;
}
