use Rattle.std.proofs.Common.{◌≡◌, ◌+◌, ◌++◌, map, drop}
use Rattle.layer_search.specs.Contents.{found_layer}
use Rattle.chain_build.specs.Parts.{placed_parts}
use Rattle.chain_build.proofs.parts.placed_parts.Given as goal

abbrev pub invariant-loop-layer : goal.invariant-loop-layer
invariant-loop-layer l = record {
  at : l.place ≡ l.layer-index + 1;
  parts : placed_parts 1 (map found_layer l.layers) ≡ l.placed.items ++ placed_parts l.place (map found_layer (drop l.layer-index l.layers));
}
