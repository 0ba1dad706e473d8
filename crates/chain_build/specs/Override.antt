-- The setup that the files and variables come to, with the override layer. Source: Khronos Vulkan-Loader, LoaderLayerInterface.md,
-- the override meta-layer and its keys; that its folders replace the first search of explicit layers, and which notes then stay, are this project's choices.
use Rattle.std.specs.Prelude.{ℕ, ◌==◌, Bool, true, false, not, ◌&&◌, ◌||◌, max, List, [], ◌∷◌, length, filter, find, codes, Option, Some, None, is_none, option_map, if◌then◌else◌}
use Rattle.std.specs.List.{list_any}
use Rattle.std.specs.Str.{bytes_eq}
use Rattle.replay_base.specs.Files.{File}
use Rattle.env_filters.specs.Variables.{Variable}
use Rattle.manifest_reader.specs.Contents.{LayerContent}
use Rattle.manifest_reader.specs.declared.entries.LayerKind.TheVariants.{Explicit, Implicit}
use Rattle.layer_search.specs.Contents.{LayerFound, LayersFound}
use Rattle.layer_search.specs.Found.{drivers_of, driver_paths, layers_found, layer_paths}
use Rattle.chain_build.specs.Setup.{SetupContent}
use Rattle.chain_build.specs.Switches.{FilterSet, filters_of, is_on}

-- an implicit layer is the override: a meta-layer of its name
abbrev pub is_override : LayerFound → Bool
is_override layer = bytes_eq layer.entry.name (codes "VK_LAYER_LUNARG_override") && is_none layer.entry.library

-- the override is for an executable: it names none, or has just its path
abbrev pub is_for : LayerContent → List ℕ → Bool
is_for layer exe = length layer.app_keys == 0 || list_any (λ key. bytes_eq key exe) layer.app_keys

-- an override is active: it is on, and for the executable
abbrev pub is_active : FilterSet → List Variable → List ℕ → LayerFound → Bool
is_active filters env exe layer = is_on filters env layer.entry && is_for layer.entry exe

-- the override that is active
abbrev pub active_override : FilterSet → List Variable → List ℕ → List LayerFound → Option LayerFound
active_override filters env exe implicit = find (λ layer. is_override layer && is_active filters env exe layer) implicit

-- an implicit layer stays: it is no override, or an active one
abbrev pub remains : FilterSet → List Variable → List ℕ → LayerFound → Bool
remains filters env exe layer = not (is_override layer) || is_active filters env exe layer

-- a layer has another name than the override
abbrev pub is_other : LayerFound → Bool
is_other layer = not (bytes_eq layer.entry.name (codes "VK_LAYER_LUNARG_override"))

-- the layers without those of the override's name
abbrev pub without_override : LayersFound → LayersFound
without_override layers = record { list = filter is_other layers.list; notes = layers.notes }

-- the folders of an override in which explicit layers are searched again; none where there are none
abbrev pub folders_again : Option LayerFound → List (List ℕ)
folders_again None = []
folders_again (Some layer) = layer.entry.override_paths

-- the explicit layers: those of the override's folders, where it has some, and else those of the variables' folders
abbrev pub explicit_layers : List File → List Variable → List ℕ → List (List ℕ) → LayersFound
explicit_layers files env root [] = layers_found files env root Explicit None
explicit_layers files env root (folder ∷ folders) = without_override (layers_found files env root Explicit (Some (folder ∷ folders)))

-- the setup of files, variables, a root and an executable
unfoldable pub setup_of : List File → List Variable → List ℕ → List ℕ → SetupContent
setup_of files env root exe =
    let implicit = layers_found files env root Implicit None in
    let over = active_override (filters_of env) env exe implicit.list in
    record {
      drivers = drivers_of files env root;
      explicit = explicit_layers files env root (folders_again over);
      implicit = record { list = filter (remains (filters_of env) env exe) implicit.list; notes = implicit.notes };
      over = over;
      env = env;
      exe = exe;
    }

-- the paths of the search in an override's folders
abbrev pub paths_again : List File → List Variable → List ℕ → List (List ℕ) → List (List ℕ)
paths_again files env root [] = []
paths_again files env root (folder ∷ folders) = layer_paths files env root Explicit (Some (folder ∷ folders))

-- the most manifest files that one of the searches meets
unfoldable pub most_met : List File → List Variable → List ℕ → List ℕ → ℕ
most_met files env root exe =
    let over = active_override (filters_of env) env exe (layers_found files env root Implicit None).list in
    max (max (length (driver_paths files env root)) (length (layer_paths files env root Explicit None)))
    (max (length (layer_paths files env root Implicit None)) (length (paths_again files env root (folders_again over))))
