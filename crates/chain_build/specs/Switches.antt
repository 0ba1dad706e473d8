-- Which layers are off, and which implicit ones are on. Source: Khronos Vulkan-Loader, LoaderLayerInterface.md, implicit layers,
-- layer filtering; the order in which the filters decide is this project's choice.
use Rattle.std.specs.Prelude.{ℕ, ◌≡◌, Bool, true, false, not, ◌&&◌, ◌||◌, List, [], codes, Option, Some, None, is_some, option_map, unwrap_or}
use Rattle.std.specs.Str.{bytes_eq}
use Rattle.env_filters.specs.Filters.{filter_of, hits, hits_disable}
use Rattle.env_filters.specs.declared.filters.LayerKindBit.{LayerKindBit}
use Rattle.env_filters.specs.Globs.{Pattern}
use Rattle.env_filters.specs.Variables.{Variable, value_of}
use Rattle.env_filters.specs.declared.filters.LayerKindBit.TheVariants.{Implicit}
use Rattle.manifest_reader.specs.Contents.{LayerContent, VariableContent}

-- the globs that disable, enable and allow layers
pub record FilterSet : Type 0 where
  pub disable : List Pattern
  pub enable : List Pattern
  pub allow : List Pattern

-- the globs of a variable, and none where it isn't set
abbrev pub globs_in : List Variable → List ℕ → List Pattern
globs_in env name = filter_of (unwrap_or (value_of env name) [])

-- the globs of the variables
unfoldable pub filters_of : List Variable → FilterSet
filters_of env = record {
  disable = globs_in env (codes "VK_LOADER_LAYERS_DISABLE");
  enable = globs_in env (codes "VK_LOADER_LAYERS_ENABLE");
  allow = globs_in env (codes "VK_LOADER_LAYERS_ALLOW");
}

-- a layer is disabled: the disable list hits it, and neither the enable list nor the allow list does
abbrev pub is_disabled : FilterSet → LayerKindBit → List ℕ → Bool
is_disabled filters kind name = hits_disable filters.disable name kind && not (hits filters.enable name || hits filters.allow name)

-- a variable is set, to whatever value
abbrev pub is_set : List Variable → VariableContent → Bool
is_set env variable = is_some (value_of env variable.name)

-- a variable is set to just the given value
abbrev pub has_value : List Variable → VariableContent → Bool
has_value env variable = unwrap_or (option_map (λ value. bytes_eq value variable.value) (value_of env variable.name)) false

-- the variable that turns a layer off is set
abbrev pub is_switched_off : List Variable → Option VariableContent → Bool
is_switched_off env None = false
is_switched_off env (Some variable) = is_set env variable

-- the variable that turns a layer on has its value; a layer without one needs none
abbrev pub is_switched_on : List Variable → Option VariableContent → Bool
is_switched_on env None = true
is_switched_on env (Some variable) = has_value env variable

-- an implicit layer is on: it isn't disabled, its disabling variable isn't set, and its enabling variable has its value or the enable list hits its name
abbrev pub is_on : FilterSet → List Variable → LayerContent → Bool
is_on filters env layer =
    not (is_disabled filters Implicit layer.name) && (not (is_switched_off env layer.disable) && (is_switched_on env layer.enable || hits filters.enable layer.name))
