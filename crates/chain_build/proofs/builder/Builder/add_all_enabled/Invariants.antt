use Rattle.std.proofs.Common.{◌≡◌, ◌++◌, map, take, List}
use Rattle.std.specs.List.{flat_map}
use Rattle.layer_search.specs.Contents.{found_layer}
use Rattle.chain_build.specs.Chain.{kept_layers, enabled_layers}
use Rattle.chain_build.specs.Expanding.{ListedLayer}
use Rattle.chain_build.specs.Holding.{listed_layer}
use Rattle.chain_build.specs.Setup.{setup_content}
use Rattle.chain_build.proofs.builder.Builder.add_all_enabled.Given as goal

abbrev pub invariant-loop-layer : goal.invariant-loop-layer
invariant-loop-layer l = (met : List ListedLayer) → map listed_layer l.initial.chain.layers.items ≡ kept_layers (setup_content l.self.setup.now) met
    → map listed_layer l.chain.layers.items ≡ kept_layers (setup_content l.self.setup.now) (met ++ flat_map (enabled_layers (setup_content l.self.setup.now)) (map found_layer (take l.layer-index l.layer-items)))
