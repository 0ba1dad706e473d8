-- A small tree and environments, on which the definitions are tried by computation. Source: this project.
use Rattle.std.specs.Prelude.{ℕ, false, List, [], ◌∷◌, codes}
use Rattle.env_filters.specs.Variables.{Variable}
use Rattle.replay_base.specs.Files.{File}
use Rattle.layer_search.specs.Contents.{DriverFound}

-- a variable
abbrev pub variable : List ℕ → List ℕ → Variable
variable name value = record { name = name; value = value }

-- a file without bytes
abbrev pub file : List ℕ → File
file path = record { path = path; bytes = [] }

-- a driver of a library without a name
abbrev pub driver : List ℕ → DriverFound
driver path = record { path = path; entry = record { library = []; portability = false } }

-- three manifests in two folders
abbrev pub three_files : List File
three_files = file (codes "/b/vulkan/icd.d/x.json") ∷ file (codes "/a/vulkan/icd.d/z.json") ∷ file (codes "/a/vulkan/icd.d/y.json") ∷ []

-- the folders of both
abbrev pub two_folders : List Variable
two_folders = variable (codes "XDG_DATA_DIRS") (codes "/a:/b") ∷ variable (codes "HOME") (codes "/h") ∷ []
