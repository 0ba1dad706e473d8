-- The places that a search goes through. Source: Khronos Vulkan-Loader, LoaderDriverInterface.md and LoaderLayerInterface.md, the
-- variables that replace the folders or stand in front of them; that an entry which ends in `.json` is a file, and any other a
-- folder, is this project's choice.
use Rattle.std.specs.Prelude.{ℕ, Bool, nat_eq, if◌then◌else◌, List, [], ◌++◌, map, codes, string_bytes, Option, Some, None}
use Rattle.std.specs.List.{ends_with}
use Rattle.std.specs.Option.{option_or}
use Rattle.env_filters.specs.Entries.{paths_of}
use Rattle.env_filters.specs.Variables.{Variable}
use Rattle.layer_search.specs.Folders.{set_value, value_or, folders_of}
use Rattle.layer_search.specs.declared.kinds.SearchKind.{SearchKind}
use Rattle.layer_search.specs.declared.kinds.SearchKind.TheVariants.{Driver, Explicit, Implicit}
use Rattle.layer_search.specs.declared.places.Place.{Place}
use Rattle.layer_search.specs.declared.places.Place.TheVariants.{Folder, File}

-- a place: a folder with its manifests, or one manifest file
pub data PlaceContent : Type 0 where
  AllIn : (folder : List ℕ) → PlaceContent
  Named : (path : List ℕ) → PlaceContent

-- what a `Place` holds
abbrev pub place_content : Place → PlaceContent
place_content (Folder folder) = AllIn (string_bytes folder)
place_content (File path) = Named (string_bytes path)

-- a name is that of a manifest file
abbrev pub is_json : List ℕ → Bool
is_json name = ends_with nat_eq name (codes ".json")

-- an entry of a variable names a file where it ends in `.json`, and else a folder
abbrev pub place_of : List ℕ → PlaceContent
place_of entry = if is_json entry then Named entry else AllIn entry

-- the places that a value names
abbrev pub named_in : List ℕ → List PlaceContent
named_in value = map place_of (paths_of value)

-- the value that replaces the folders
unfoldable pub replacing : SearchKind → List Variable → Option (List ℕ)
replacing Driver env = option_or (set_value env (codes "VK_DRIVER_FILES")) (set_value env (codes "VK_ICD_FILENAMES"))
replacing Explicit env = set_value env (codes "VK_LAYER_PATH")
replacing Implicit env = None

-- the value whose places stand in front of the folders, and the empty text where there is none
unfoldable pub adding : SearchKind → List Variable → List ℕ
adding Driver env = value_or env (codes "VK_ADD_DRIVER_FILES") []
adding Explicit env = value_or env (codes "VK_ADD_LAYER_PATH") []
adding Implicit env = []

-- the places of a search that no value, or one, replaces
abbrev pub places_by : Option (List ℕ) → SearchKind → List Variable → List PlaceContent
places_by (Some value) kind env = named_in value
places_by None kind env = named_in (adding kind env) ++ map AllIn (folders_of kind env)

-- the places of a search: the folders alone where they are given, and else as the variables say
abbrev pub places_of : Option (List (List ℕ)) → SearchKind → List Variable → List PlaceContent
places_of (Some folders) kind env = map AllIn folders
places_of None kind env = places_by (replacing kind env) kind env
