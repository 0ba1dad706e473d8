-- What a builder of chains knows. Source: this project.
use Rattle.std.specs.Prelude.{◌≡◌, ℕ, ◌-◌, List, map}
use Rattle.chain_build.specs.Expanding.{ListedLayer}
use Rattle.chain_build.specs.Holding.{listed_layer, IsRow}
use Rattle.chain_build.specs.Expanding.{known_layers}
use Rattle.chain_build.specs.Holding.{filter_set}
use Rattle.chain_build.specs.Setup.{setup_content}
use Rattle.chain_build.specs.Switches.{filters_of}
use Rattle.chain_build.specs.declared.builder.Builder.{Builder}
use Rattle.chain_build.specs.declared.expanded.Expanded.{Expanded}
use Rattle.chain_build.specs.declared.listed.TheConstants.{MOST_LEVELS}

-- the layers by name are these, and the row below the last one is theirs
pub record Knows (names : Expanded) (layers : List ListedLayer) : Type 0 where
  pub known : map listed_layer names.known.layers.items ≡ layers
  pub row : IsRow (MOST_LEVELS - 1) layers names.row.items

-- a builder has read the filters and the layers of its setup
pub record IsReady (builder : Builder) : Type 0 where
  pub filters : filter_set builder.filters ≡ filters_of builder.setup.now.env
  pub names : Knows builder.names (known_layers (setup_content builder.setup.now))
