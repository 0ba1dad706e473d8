use Rattle.std.proofs.Common.{◌≡◌, map, drop}
use Rattle.layer_search.specs.Contents.{found_layer}
use Rattle.chain_build.specs.Holding.{filter_set}
use Rattle.chain_build.specs.Override.{active_override}
use Rattle.chain_build.proofs.override_layer.active_override.Given as goal

abbrev pub invariant-loop-layer : goal.invariant-loop-layer
invariant-loop-layer l = active_override (filter_set l.filters) l.env l.exe (map found_layer l.layers) ≡ active_override (filter_set l.filters) l.env l.exe (map found_layer (drop l.layer-index l.layers))
