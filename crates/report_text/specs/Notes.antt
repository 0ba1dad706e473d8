-- The lines of notes: what a search for manifests left out. Source: this project.
use Rattle.std.specs.Prelude.{ℕ, List, [], ◌++◌, codes}
use Rattle.std.specs.List.{flat_map}
use Rattle.manifest_reader.specs.Keys.{spelled}
use Rattle.manifest_reader.specs.declared.faults.ManifestFault.{ManifestFault}
use Rattle.manifest_reader.specs.declared.faults.ManifestFault.TheVariants as fault
use Rattle.layer_search.specs.Contents.{NoteContent}
use Rattle.layer_search.specs.declared.found.NoteKind.{NoteKind}
use Rattle.layer_search.specs.declared.found.NoteKind.TheVariants as kind
use Rattle.chain_build.specs.Setup.{SetupContent}

-- a manifest's fault, with its key as manifests spell it; want of memory is no note's reason, and has no text
abbrev pub manifest_text : ManifestFault → List ℕ
manifest_text fault.NotJson = codes "NotJson"
manifest_text fault.NoVersion = codes "NoVersion"
manifest_text fault.BadVersion = codes "BadVersion"
manifest_text (fault.Missing key) = codes "Missing:" ++ spelled key
manifest_text (fault.WrongKind key) = codes "WrongKind:" ++ spelled key
manifest_text fault.OtherArch = codes "OtherArch"
manifest_text fault.NoMemory = []

-- why something was left out
abbrev pub reason_text : NoteKind → List ℕ
reason_text (kind.Manifest f) = manifest_text f
reason_text kind.Absent = codes "Absent"
reason_text kind.TooLarge = codes "TooLarge"
reason_text kind.DeviceType = codes "DeviceType"

-- the line of a note: why something was left out, and the path of the file
unfoldable pub note_text : NoteContent → List ℕ
note_text note = codes "note " ++ reason_text note.kind ++ codes " " ++ note.path ++ codes "\n"

-- the lines of notes, in their order
abbrev pub notes_text : List NoteContent → List ℕ
notes_text notes = flat_map note_text notes

-- the lines of all notes of a setup: those of the drivers, of the explicit layers, and of the implicit layers
unfoldable pub setup_notes : SetupContent → List ℕ
setup_notes setup = notes_text setup.drivers.notes ++ notes_text setup.explicit.notes ++ notes_text setup.implicit.notes
