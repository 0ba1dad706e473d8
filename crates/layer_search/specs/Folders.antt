-- The folders in which manifests are searched. Source: the XDG Base Directory Specification, its variables and their defaults;
-- Khronos Vulkan-Loader, LoaderDriverInterface.md and LoaderLayerInterface.md, discovery on Linux.
use Rattle.std.specs.Prelude.{ℕ, ◌==◌, if◌then◌else◌, List, [], ◌∷◌, ◌++◌, length, map, codes, Option, Some, None, option_map, option_and_then, unwrap_or}
use Rattle.std.specs.Option.{option_or}
use Rattle.env_filters.specs.Entries.{paths_of}
use Rattle.env_filters.specs.Variables.{Variable, value_of}
use Rattle.layer_search.specs.declared.kinds.SearchKind.{SearchKind}
use Rattle.layer_search.specs.declared.kinds.SearchKind.TheVariants.{Driver, Explicit, Implicit}

-- a text, where it isn't empty
abbrev pub unless_empty : List ℕ → Option (List ℕ)
unless_empty text = if length text == 0 then None else Some text

-- the value of a variable; an empty one counts as not set
abbrev pub set_value : List Variable → List ℕ → Option (List ℕ)
set_value env name = option_and_then unless_empty (value_of env name)

-- the value of a variable, or else a default
abbrev pub value_or : List Variable → List ℕ → List ℕ → List ℕ
value_or env name default = unwrap_or (set_value env name) default

-- the value of a variable, or else that of `HOME` with a folder behind it; where neither is set, an empty text, which names no folder
abbrev pub home_value : List Variable → List ℕ → List ℕ → List ℕ
home_value env name folder = unwrap_or (option_or (set_value env name) (option_map (λ home. home ++ folder) (set_value env (codes "HOME")))) []

-- the folders of configuration: the user's, the system's, and `/etc`
unfoldable pub config_folders : List Variable → List (List ℕ)
config_folders env =
    paths_of (home_value env (codes "XDG_CONFIG_HOME") (codes "/.config"))
    ++ (paths_of (value_or env (codes "XDG_CONFIG_DIRS") (codes "/etc/xdg")) ++ codes "/etc" ∷ [])

-- the folders of data: the user's and the system's
unfoldable pub data_folders : List Variable → List (List ℕ)
data_folders env =
    paths_of (home_value env (codes "XDG_DATA_HOME") (codes "/.local/share"))
    ++ paths_of (value_or env (codes "XDG_DATA_DIRS") (codes "/usr/local/share:/usr/share"))

-- where below each of them the manifests of a kind are
unfoldable pub suffix_of : SearchKind → List ℕ
suffix_of Driver = codes "/vulkan/icd.d"
suffix_of Explicit = codes "/vulkan/explicit_layer.d"
suffix_of Implicit = codes "/vulkan/implicit_layer.d"

-- the folders in which manifests of a kind are searched, in order
unfoldable pub folders_of : SearchKind → List Variable → List (List ℕ)
folders_of kind env = map (λ folder. folder ++ suffix_of kind) (config_folders env ++ data_folders env)
