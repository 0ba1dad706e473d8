use Rattle.std.proofs.Common.{◌≡◌, List, Some, map, take, string_bytes}
use Rattle.std.specs.List.{flat_map}
use Rattle.replay_base.specs.Files.{File}
use Rattle.layer_search.specs.Collecting.{Gathers}
use Rattle.layer_search.specs.Found.{path_layers, layer_notes, layers_at}
use Rattle.layer_search.proofs.layers.found_layers.Given as goal

-- what each path so far gives
abbrev pub invariant-loop-path : goal.invariant-loop-path
invariant-loop-path g l = record {
  told : (files : List File) → g.T.Tree.files l.initial.tree ≡ Some files → Gathers l.gathered
      (flat_map (λ path. path_layers path (layers_at l.kind files l.root path)) (map string_bytes (take l.path-index l.paths)))
      (flat_map (λ path. layer_notes path (layers_at l.kind files l.root path)) (map string_bytes (take l.path-index l.paths)));
  same : g.T.Tree.files l.tree ≡ g.T.Tree.files l.initial.tree;
  stood : g.T.Tree.faults l.tree ≡ g.T.Tree.faults l.initial.tree;
}
