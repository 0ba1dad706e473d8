-- What a chain is built of, as a record of lists. Source: this project.
use Rattle.std.specs.Prelude.{ℕ, List, string_bytes, Option, option_map}
use Rattle.env_filters.specs.Variables.{Variable}
use Rattle.layer_search.specs.Contents.{DriversContent, LayersFound, LayerFound, drivers_content, layers_content, found_layer}
use Rattle.chain_build.specs.declared.setup.Setup.{Setup}

-- the drivers, the explicit and the implicit layers, each with their notes; the override that is active, if one is; the variables, and the executable's path
pub record SetupContent : Type 0 where
  pub drivers : DriversContent
  pub explicit : LayersFound
  pub implicit : LayersFound
  pub over : Option LayerFound
  pub env : List Variable
  pub exe : List ℕ

-- what a `Setup` holds
abbrev pub setup_content : Setup → SetupContent
setup_content setup = record {
  drivers = drivers_content setup.drivers;
  explicit = layers_content setup.explicit;
  implicit = layers_content setup.implicit;
  over = option_map found_layer setup.over;
  env = setup.env;
  exe = string_bytes setup.exe;
}
