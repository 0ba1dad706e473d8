-- What was found, as records of lists, which contracts compare. Source: this project.
use Rattle.std.specs.Prelude.{ℕ, ◌≢◌, All, List, map, string_bytes}
use Rattle.manifest_reader.specs.Contents.{DriverContent, LayerContent, driver_content, layer_content}
use Rattle.manifest_reader.specs.declared.faults.ManifestFault.TheVariants.{NoMemory}
use Rattle.layer_search.specs.declared.found.NoteKind.{NoteKind}
use Rattle.layer_search.specs.declared.found.NoteKind.TheVariants.{Manifest}
use Rattle.layer_search.specs.declared.found.Note.{Note}
use Rattle.layer_search.specs.declared.found.FoundDriver.{FoundDriver}
use Rattle.layer_search.specs.declared.found.FoundLayer.{FoundLayer}
use Rattle.layer_search.specs.declared.found.Drivers.{Drivers}
use Rattle.layer_search.specs.declared.found.LayerList.{LayerList}

-- why something was left out, and in which file
pub record NoteContent : Type 0 where
  pub kind : NoteKind
  pub path : List ℕ

-- a note's reason lies in its file: it is never want of memory
abbrev pub IsOfFile : NoteKind → Type 0
IsOfFile kind = kind ≢ Manifest NoMemory

-- a driver and its manifest's path
pub record DriverFound : Type 0 where
  pub path : List ℕ
  pub entry : DriverContent

-- a layer and its manifest's path
pub record LayerFound : Type 0 where
  pub path : List ℕ
  pub entry : LayerContent

-- the drivers of a search, and its notes
pub record DriversContent : Type 0 where
  pub list : List DriverFound
  pub notes : List NoteContent

-- the layers of a search, and its notes
pub record LayersFound : Type 0 where
  pub list : List LayerFound
  pub notes : List NoteContent

-- what a `Note` holds
abbrev pub note_content : Note → NoteContent
note_content note = record { kind = note.kind; path = string_bytes note.path }

-- no note holds want of memory
abbrev pub AllOfFiles : List Note → Type 0
AllOfFiles notes = All (λ note. IsOfFile note.kind) notes

-- what a `FoundDriver` holds
abbrev pub found_driver : FoundDriver → DriverFound
found_driver found = record { path = string_bytes found.path; entry = driver_content found.entry }

-- what a `FoundLayer` holds
abbrev pub found_layer : FoundLayer → LayerFound
found_layer found = record { path = string_bytes found.path; entry = layer_content found.entry }

-- what a `Drivers` holds
abbrev pub drivers_content : Drivers → DriversContent
drivers_content drivers = record { list = map found_driver drivers.list.items; notes = map note_content drivers.notes.items }

-- what a `LayerList` holds
abbrev pub layers_content : LayerList → LayersFound
layers_content layers = record { list = map found_layer layers.list.items; notes = map note_content layers.notes.items }
