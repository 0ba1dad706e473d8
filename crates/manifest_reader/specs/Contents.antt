-- What was read, as records of lists, which contracts compare.
use Rattle.std.specs.Prelude.{ℕ, List, map, Bool, Option, option_map, string_bytes}
use Rattle.manifest_reader.specs.declared.entries.EnvPair.{EnvPair}
use Rattle.manifest_reader.specs.declared.entries.DriverEntry.{DriverEntry}
use Rattle.manifest_reader.specs.declared.entries.LayerEntry.{LayerEntry}
use Rattle.manifest_reader.specs.declared.entries.Layers.{Layers}

-- a variable of the environment and a value
pub record VariableContent : Type 0 where
  pub name : List ℕ
  pub value : List ℕ

-- a driver
pub record DriverContent : Type 0 where
  pub library : List ℕ
  pub portability : Bool

-- a layer
pub record LayerContent : Type 0 where
  pub name : List ℕ
  pub library : Option (List ℕ)
  pub components : List (List ℕ)
  pub disable : Option VariableContent
  pub enable : Option VariableContent
  pub blacklist : List (List ℕ)
  pub app_keys : List (List ℕ)
  pub override_paths : List (List ℕ)

-- the layers of a manifest, and how many entries of type `DEVICE` were skipped
pub record LayersContent : Type 0 where
  pub entries : List LayerContent
  pub device_type : ℕ

-- what an `EnvPair` holds
abbrev pub variable_content : EnvPair → VariableContent
variable_content pair = record { name = string_bytes pair.name; value = string_bytes pair.value }

-- what a `DriverEntry` holds
abbrev pub driver_content : DriverEntry → DriverContent
driver_content entry = record { library = string_bytes entry.library; portability = entry.portability }

-- what a `LayerEntry` holds
abbrev pub layer_content : LayerEntry → LayerContent
layer_content entry = record {
  name = string_bytes entry.name;
  library = option_map string_bytes entry.library;
  components = map string_bytes entry.components.items;
  disable = option_map variable_content entry.disable;
  enable = option_map variable_content entry.enable;
  blacklist = map string_bytes entry.blacklist.items;
  app_keys = map string_bytes entry.app_keys.items;
  override_paths = map string_bytes entry.override_paths.items;
}

-- what a `Layers` holds
abbrev pub layers_content : Layers → LayersContent
layers_content layers = record { entries = map layer_content layers.entries.items; device_type = layers.device_type }
