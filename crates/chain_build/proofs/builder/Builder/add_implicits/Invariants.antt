use Rattle.std.proofs.Common.{◌≡◌, ◌++◌, map, filter, take, List, string_bytes}
use Rattle.std.specs.List.{flat_map}
use Rattle.layer_search.specs.Contents.{found_layer}
use Rattle.chain_build.specs.Chain.{kept_layers, layers_of, named_layers, implicit_as, takes_turn}
use Rattle.chain_build.specs.Expanding.{ListedLayer}
use Rattle.chain_build.specs.Holding.{listed_layer, texts_of}
use Rattle.chain_build.specs.Setup.{setup_content}
use Rattle.chain_build.proofs.builder.Builder.add_implicits.Given as goal

abbrev pub invariant-loop-layer : goal.invariant-loop-layer
invariant-loop-layer l = (met : List ListedLayer) → map listed_layer l.initial.chain.layers.items ≡ kept_layers (setup_content l.self.setup.now) met
    → map listed_layer l.chain.layers.items ≡ kept_layers (setup_content l.self.setup.now) (met ++ flat_map (implicit_as (setup_content l.self.setup.now)) (filter (takes_turn (setup_content l.self.setup.now) l.last) (map found_layer (take l.layer-index l.layer-items))))
