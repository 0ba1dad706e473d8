-- Layers by name, and the plain layers that a name stands for. Source: Khronos Vulkan-Loader, LoaderLayerInterface.md, meta-layers;
-- that a name is looked up among explicit layers first, and that meta-layers nest 8 deep at most, are this project's choices.
use Rattle.std.specs.Prelude.{ℕ, suc, zero, Bool, List, [], ◌∷◌, ◌++◌, map, find, Option, Some, None, is_some, option_map, option_and_then, if◌then◌else◌}
use Rattle.std.specs.Str.{bytes_eq}
use Rattle.env_filters.specs.declared.filters.LayerKindBit.{LayerKindBit}
use Rattle.env_filters.specs.declared.filters.LayerKindBit.TheVariants.{Explicit, Implicit}
use Rattle.layer_search.specs.Contents.{LayerFound}
use Rattle.layer_search.specs.Order.{firsts}
use Rattle.chain_build.specs.Setup.{SetupContent}
use Rattle.chain_build.specs.declared.listed.TheConstants.{MOST_LEVELS}

-- a layer that was found, and whether it is an explicit or an implicit one
pub record ListedLayer : Type 0 where
  pub kind : LayerKindBit
  pub layer : LayerFound

-- a layer of a kind
abbrev pub listed : LayerKindBit → LayerFound → ListedLayer
listed kind layer = record { kind = kind; layer = layer }

-- a layer's name
abbrev pub name_of : ListedLayer → List ℕ
name_of l = l.layer.entry.name

-- the layers that names are looked up among: the explicit ones and then the implicit ones, of each name the first
unfoldable pub known_layers : SetupContent → List ListedLayer
known_layers setup = firsts name_of (map (listed Explicit) setup.explicit.list ++ map (listed Implicit) setup.implicit.list)

-- the layer of a name
abbrev pub found : List ListedLayer → List ℕ → Option ListedLayer
found layers name = find (λ l. bytes_eq name (name_of l)) layers

-- a layer is a plain one, with a library, and else a meta-layer
abbrev pub is_plain : LayerFound → Bool
is_plain layer = is_some layer.entry.library

-- one list of several, where all of them are there
abbrev pub joined : List (Option (List (List ℕ))) → Option (List (List ℕ))
joined [] = Some []
joined (None ∷ others) = None
joined (Some names ∷ others) = option_map (λ rest. names ++ rest) (joined others)

-- the names of the plain layers that a layer stands for, each once, where it has so many levels of meta-layers at most: a plain layer's own name; and of a
-- meta-layer those of its components in order, where each component is there and has a level less. A meta-layer that holds itself has no number of levels.
abbrev pub expansion : List ListedLayer → ℕ → LayerFound → Option (List (List ℕ))
expansion layers zero layer = if is_plain layer then Some (layer.entry.name ∷ []) else None
expansion layers (suc levels) layer =
    if is_plain layer then Some (layer.entry.name ∷ [])
    else option_map (firsts (λ name. name)) (joined (map (λ name. option_and_then (λ l. expansion layers levels l.layer) (found layers name)) layer.entry.components))

-- the names of the plain layers that a name stands for with so many levels of meta-layers at most
abbrev pub expand_to : List ListedLayer → ℕ → List ℕ → Option (List (List ℕ))
expand_to layers levels name = option_and_then (λ l. expansion layers levels l.layer) (found layers name)

-- the names of the plain layers that a name stands for, each once; none where no layer has the name, or its layer can't be used
abbrev pub expand : List ListedLayer → List ℕ → Option (List (List ℕ))
expand layers name = expand_to layers MOST_LEVELS name
