use Rattle.std.proofs.Common.{◌≡◌, ◌++◌, map, filter, take, List, string_bytes}
use Rattle.std.specs.List.{flat_map}
use Rattle.layer_search.specs.Contents.{found_layer}
use Rattle.chain_build.specs.Chain.{kept_layers, layers_of, named_layers, implicit_as, takes_turn}
use Rattle.chain_build.specs.Expanding.{ListedLayer}
use Rattle.chain_build.specs.Holding.{listed_layer, texts_of}
use Rattle.chain_build.specs.Setup.{setup_content}
use Rattle.chain_build.proofs.builder.Builder.add_names.Given as goal

abbrev pub invariant-loop-name : goal.invariant-loop-name
invariant-loop-name l = (met : List ListedLayer) → map listed_layer l.initial.chain.layers.items ≡ kept_layers (setup_content l.self.setup.now) met
    → map listed_layer l.chain.layers.items ≡ kept_layers (setup_content l.self.setup.now) (met ++ layers_of (setup_content l.self.setup.now) (texts_of (take l.name-index l.names)))
