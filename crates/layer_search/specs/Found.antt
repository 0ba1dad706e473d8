-- What a search finds. Source: Khronos Vulkan-Loader, LoaderDriverInterface.md and LoaderLayerInterface.md, discovery on Linux
-- and the filters of drivers; the notes and the limit on a file's bytes are this project's choices.
use Rattle.std.specs.Prelude.{ℕ, ◌==◌, nat_le, Bool, true, not, ◌&&◌, if◌then◌else◌, List, [], ◌∷◌, length, map, filter, codes, replicate, Option, Some, None, Result, Ok, Err}
use Rattle.std.specs.List.{flat_map, after_last}
use Rattle.replay_base.specs.Files.{File, bytes_at}
use Rattle.env_filters.specs.Filters.{filter_of, hits}
use Rattle.env_filters.specs.Globs.{Pattern}
use Rattle.env_filters.specs.Variables.{Variable}
use Rattle.manifest_reader.specs.Contents.{DriverContent, LayerContent, LayersContent}
use Rattle.manifest_reader.specs.Reading.{driver_of, layers_of}
use Rattle.manifest_reader.specs.declared.entries.LayerKind.{LayerKind}
use Rattle.manifest_reader.specs.declared.faults.ManifestFault.{ManifestFault}
use Rattle.layer_search.specs.Contents.{NoteContent, DriverFound, LayerFound, DriversContent, LayersFound}
use Rattle.layer_search.specs.Folders.{value_or}
use Rattle.layer_search.specs.Kinds.{search_of}
use Rattle.layer_search.specs.Order.{firsts}
use Rattle.layer_search.specs.Paths.{rooted, paths_of}
use Rattle.layer_search.specs.Places.{places_of}
use Rattle.layer_search.specs.declared.files.TheConstants.{MOST_BYTES}
use Rattle.layer_search.specs.declared.found.NoteKind.{NoteKind}
use Rattle.layer_search.specs.declared.found.NoteKind.TheVariants.{Manifest, Absent, TooLarge, DeviceType}
use Rattle.layer_search.specs.declared.kinds.SearchKind.TheVariants.{Driver}

-- how many bytes a manifest file may have
abbrev pub most_bytes : ℕ
most_bytes = MOST_BYTES

-- a file's bytes, or why it isn't read
abbrev pub file_bytes : Option (List ℕ) → Result (List ℕ) NoteKind
file_bytes None = Err Absent
file_bytes (Some bytes) = if nat_le (length bytes) most_bytes then Ok bytes else Err TooLarge

-- the bytes at a manifest's path, or why they aren't read
abbrev pub bytes_of : List File → List ℕ → List ℕ → Result (List ℕ) NoteKind
bytes_of files root path = file_bytes (bytes_at files (rooted root path))

-- what was read, with a fault of the manifest as the reason of a note
abbrev pub noted : {C : Type 0} → Result C ManifestFault → Result C NoteKind
noted (Ok content) = Ok content
noted (Err fault) = Err (Manifest fault)

-- what a Rust value holds, where there is one
abbrev pub content_by : {X C : Type 0} → (X → C) → Result X NoteKind → Result C NoteKind
content_by content (Ok x) = Ok (content x)
content_by content (Err kind) = Err kind

-- what is read of the bytes, where there are bytes
abbrev pub read_by : {C : Type 0} → (List ℕ → Result C ManifestFault) → Result (List ℕ) NoteKind → Result C NoteKind
read_by reading (Ok bytes) = noted (reading bytes)
read_by reading (Err kind) = Err kind

-- ---- drivers

-- the driver that a path gives, or the reason of its note
unfoldable pub driver_at : List File → List ℕ → List ℕ → Result DriverContent NoteKind
driver_at files root path = read_by driver_of (bytes_of files root path)

-- the drivers of a path: one, or none
abbrev pub path_drivers : List ℕ → Result DriverContent NoteKind → List DriverFound
path_drivers path (Ok entry) = record { path = path; entry = entry } ∷ []
path_drivers path (Err kind) = []

-- the notes of a path that has no driver
abbrev pub driver_notes : List ℕ → Result DriverContent NoteKind → List NoteContent
driver_notes path (Ok entry) = []
driver_notes path (Err kind) = record { kind = kind; path = path } ∷ []

-- the drivers and notes of the paths, in their order
abbrev pub drivers_at : List File → List ℕ → List (List ℕ) → DriversContent
drivers_at files root paths = record {
  list = flat_map (λ path. path_drivers path (driver_at files root path)) paths;
  notes = flat_map (λ path. driver_notes path (driver_at files root path)) paths;
}

-- the name of a file: what stands behind the last slash of its path
abbrev pub file_name : List ℕ → List ℕ
file_name path = after_last (λ b. b == 47) path

-- the globs of a variable
abbrev pub globs_of : List Variable → List ℕ → List Pattern
globs_of env name = filter_of (value_or env name [])

-- a list of globs, where it has one
abbrev pub unless_none : List Pattern → Option (List Pattern)
unless_none globs = if length globs == 0 then None else Some globs

-- the globs that select drivers, where there are any
unfoldable pub selecting : List Variable → Option (List Pattern)
selecting env = unless_none (globs_of env (codes "VK_LOADER_DRIVERS_SELECT"))

-- a name is selected by a glob, and each is where there are none
abbrev pub is_selected : Option (List Pattern) → List ℕ → Bool
is_selected None name = true
is_selected (Some globs) name = hits globs name

-- a driver stays where its file's name is selected and isn't disabled
abbrev pub stays : Option (List Pattern) → List Pattern → DriverFound → Bool
stays selected disabled driver = is_selected selected (file_name driver.path) && not (hits disabled (file_name driver.path))

-- a driver stays by the variables that select and disable drivers
unfoldable pub is_kept : List Variable → DriverFound → Bool
is_kept env driver = stays (selecting env) (globs_of env (codes "VK_LOADER_DRIVERS_DISABLE")) driver

-- the paths of the search for drivers
unfoldable pub driver_paths : List File → List Variable → List ℕ → List (List ℕ)
driver_paths files env root = paths_of files root (places_of None Driver env)

-- the search for drivers: those of all paths, of which the filters keep some, and all notes
unfoldable pub drivers_of : List File → List Variable → List ℕ → DriversContent
drivers_of files env root =
    let found = drivers_at files root (driver_paths files env root) in
    record { list = filter (is_kept env) found.list; notes = found.notes }

-- ---- layers

-- the layers that a path gives, or the reason of its note
unfoldable pub layers_at : LayerKind → List File → List ℕ → List ℕ → Result LayersContent NoteKind
layers_at kind files root path = read_by (layers_of kind) (bytes_of files root path)

-- a layer that was found at a path
abbrev pub layer_at : List ℕ → LayerContent → LayerFound
layer_at path entry = record { path = path; entry = entry }

-- the layers of a path
abbrev pub path_layers : List ℕ → Result LayersContent NoteKind → List LayerFound
path_layers path (Ok layers) = map (layer_at path) layers.entries
path_layers path (Err kind) = []

-- the notes of a path: one for each entry of type `DEVICE`, or the one of a path that has no layers
abbrev pub layer_notes : List ℕ → Result LayersContent NoteKind → List NoteContent
layer_notes path (Ok layers) = replicate layers.device_type (record { kind = DeviceType; path = path })
layer_notes path (Err kind) = record { kind = kind; path = path } ∷ []

-- the layers and notes of the paths, in their order; of layers with one name the first stays
abbrev pub found_layers : LayerKind → List File → List ℕ → List (List ℕ) → LayersFound
found_layers kind files root paths = record {
  list = firsts (λ layer. layer.entry.name) (flat_map (λ path. path_layers path (layers_at kind files root path)) paths);
  notes = flat_map (λ path. layer_notes path (layers_at kind files root path)) paths;
}

-- the paths of the search for layers of a kind: in the given folders alone, or as the variables say
unfoldable pub layer_paths : List File → List Variable → List ℕ → LayerKind → Option (List (List ℕ)) → List (List ℕ)
layer_paths files env root kind only = paths_of files root (places_of only (search_of kind) env)

-- the search for layers of a kind
unfoldable pub layers_found : List File → List Variable → List ℕ → LayerKind → Option (List (List ℕ)) → LayersFound
layers_found files env root kind only = found_layers kind files root (layer_paths files env root kind only)
