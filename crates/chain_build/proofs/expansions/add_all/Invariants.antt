use Rattle.std.proofs.Common.{◌≡◌, ◌++◌, map, take, List}
use Rattle.layer_search.specs.Contents.{found_layer}
use Rattle.layer_search.specs.Order.{firsts}
use Rattle.chain_build.specs.Expanding.{ListedLayer, listed, name_of}
use Rattle.chain_build.specs.Holding.{listed_layer}
use Rattle.chain_build.proofs.expansions.add_all.Given as goal

-- the layers so far are added
abbrev pub invariant-loop-layer : goal.invariant-loop-layer
invariant-loop-layer l = (met : List ListedLayer) → map listed_layer l.initial.known.layers.items ≡ firsts name_of met
    → map listed_layer l.known.layers.items ≡ firsts name_of (met ++ map (listed l.kind) (map found_layer (take l.layer-index l.layers)))
