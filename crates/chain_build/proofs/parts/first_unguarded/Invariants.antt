use Rattle.std.proofs.Common.{◌≡◌, map, drop}
use Rattle.layer_search.specs.Contents.{found_layer}
use Rattle.chain_build.specs.Parts.{first_unguarded}
use Rattle.chain_build.proofs.parts.first_unguarded.Given as goal

abbrev pub invariant-loop-place : goal.invariant-loop-place
invariant-loop-place l = first_unguarded (map found_layer l.layers) ≡ first_unguarded (map found_layer (drop l.place l.layers))
