use Rattle.std.proofs.Common.{◌≡◌, map, take}
use Rattle.layer_search.specs.Contents.{found_layer}
use Rattle.chain_build.specs.Holding.{listed_layer}
use Rattle.chain_build.proofs.chains.copy_layers.Given as goal

abbrev pub invariant-loop-listed : goal.invariant-loop-listed
invariant-loop-listed l = map found_layer l.copies.items ≡ map (λ k. k.layer) (map listed_layer (take l.listed-index l.layers))
