-- The paths of a search's manifest files. Source: Khronos Vulkan-Loader, LoaderDriverInterface.md and LoaderLayerInterface.md,
-- discovery on Linux; the byte order of a folder's names and the limit are this project's choices.
use Rattle.std.specs.Prelude.{ℕ, ◌==◌, if◌then◌else◌, List, [], ◌∷◌, ◌++◌, map, filter, slice_index}
use Rattle.std.specs.List.{flat_map}
use Rattle.replay_base.specs.Files.{File, path_in, names_in}
use Rattle.layer_search.specs.Order.{in_order, firsts}
use Rattle.layer_search.specs.declared.path_list.TheConstants.{MOST_PATHS}
use Rattle.layer_search.specs.Places.{PlaceContent, AllIn, Named, is_json}

-- what the tree is asked for: a path that begins with `/` stands below the root, and any other is taken as written
abbrev pub rooted : List ℕ → List ℕ → List ℕ
rooted root path = if slice_index path 0 == 47 then root ++ path else path

-- a folder's names that end in `.json`, in byte order
abbrev pub json_names : List File → List ℕ → List ℕ → List (List ℕ)
json_names files root folder = filter is_json (in_order (names_in files (rooted root folder)))

-- the paths at a place: those of the folder's manifests, or the file's own
abbrev pub paths_at : List File → List ℕ → PlaceContent → List (List ℕ)
paths_at files root (AllIn folder) = map (path_in folder) (json_names files root folder)
paths_at files root (Named path) = path ∷ []

-- the paths of a search: those at each place in order, of which only the first occurrence of a path stays
abbrev pub paths_of : List File → List ℕ → List PlaceContent → List (List ℕ)
paths_of files root places = firsts (λ path. path) (flat_map (paths_at files root) places)

-- how many manifest files a search may meet
abbrev pub most_paths : ℕ
most_paths = MOST_PATHS
