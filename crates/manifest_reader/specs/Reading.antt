-- What the bytes of a manifest say: the entry, or the first fault.
-- Source: RFC 8259, as `serde_json` reads it; Khronos Vulkan-Loader, LoaderDriverInterface.md and LoaderLayerInterface.md.
use Rattle.std.specs.Prelude.{ℕ, Bool, false, not, List, [], ◌∷◌, map, filter, count_by, codes, if◌then◌else◌, Option, Some, None, is_some, option_map, option_and_then, unwrap_or, Result, Ok, Err}
use Rattle.std.specs.Option.{option_or, option_to_list}
use Rattle.std.specs.Str.{is_utf8}
use Rattle.serde_json.specs.Data.{Data}
use Rattle.serde_json.specs.Find.{get, as_str, as_bool, as_object}
use Rattle.serde_json.specs.Read as json
use Rattle.manifest_reader.specs.Contents.{VariableContent, DriverContent, LayerContent, LayersContent}
use Rattle.manifest_reader.specs.Faults.{holds, is_device, is_text, first_fault}
use Rattle.manifest_reader.specs.Rows.{driver_file_rows, driver_rows, layer_file_rows, layer_rows}
use Rattle.manifest_reader.specs.Values.{at, text_at, says, elements, first_member}
use Rattle.manifest_reader.specs.declared.entries.LayerKind.{LayerKind}
use Rattle.manifest_reader.specs.declared.faults.ManifestFault.{ManifestFault}
use Rattle.manifest_reader.specs.declared.faults.ManifestFault.TheVariants.{NotJson, NoVersion, BadVersion, OtherArch}
use Rattle.manifest_reader.specs.declared.keys.Key.{Key}
use Rattle.manifest_reader.specs.declared.keys.Key.TheVariants as key
use Rattle.manifest_reader.specs.declared.rows.Manifest.TheVariants.{Driver, Layer}
use Rattle.manifest_reader.specs.declared.rows.When.{When}
use Rattle.manifest_reader.specs.declared.rows.When.TheVariants as when
use Rattle.manifest_reader.specs.declared.rows.Form.TheVariants as form

-- ---- the file

-- an object, and no other value
abbrev pub only_object : Data → Option Data
only_object value = if is_some (as_object value) then Some value else None

-- the object that the bytes are; bytes that aren't UTF-8 are no JSON
unfoldable pub file_of : List ℕ → Option Data
file_of bytes = if is_utf8 bytes then option_and_then only_object (json.read bytes) else None

-- the fault of what stands at `file_format_version`
unfoldable pub format_fault : Option Data → Option ManifestFault
format_fault None = Some NoVersion
format_fault (Some version) = if is_text form.Version version then None else Some BadVersion

-- the fault of a file's format version
unfoldable pub version_fault : Data → Option ManifestFault
version_fault file = format_fault (get (codes "file_format_version") file)

-- the fault, or else what was read
abbrev pub unless : {C : Type 0} → Option ManifestFault → C → Result C ManifestFault
unless (Some fault) content = Err fault
unless None content = Ok content

-- ---- drivers

-- a driver for 32 bits is of another architecture
unfoldable pub arch_fault : Data → Option ManifestFault
arch_fault icd = if says key.LibraryArch (codes "32") icd then Some OtherArch else None

-- the first fault of what stands at `ICD`
unfoldable pub icd_fault : Option Data → Option ManifestFault
icd_fault None = None
icd_fault (Some icd) = option_or (first_fault Driver icd driver_rows) (arch_fault icd)

-- the first fault of a driver's file
unfoldable pub driver_fault : Data → Option ManifestFault
driver_fault file = option_or (option_or (version_fault file) (first_fault Driver file driver_file_rows)) (icd_fault (at key.Icd file))

-- the driver that stands at `ICD`
unfoldable pub driver_at : Option Data → DriverContent
driver_at icd = record {
  library = unwrap_or (option_and_then (text_at key.LibraryPath) icd) [];
  portability = unwrap_or (option_and_then as_bool (option_and_then (at key.IsPortabilityDriver) icd)) false;
}

-- what a file says of a driver
unfoldable pub driver_in : Option Data → Result DriverContent ManifestFault
driver_in None = Err NotJson
driver_in (Some file) = unless (driver_fault file) (driver_at (at key.Icd file))

-- what the bytes say of a driver
unfoldable pub driver_of : List ℕ → Result DriverContent ManifestFault
driver_of bytes = driver_in (file_of bytes)

-- ---- layers

-- the entries of a file: those of `layers`, else that of `layer`
unfoldable pub entries_of : Data → List Data
entries_of file = unwrap_or (option_map elements (at key.Layers file)) (option_to_list (at key.Layer file))

-- the first fault of some entries, in their order
abbrev pub entries_fault : LayerKind → List Data → Option ManifestFault
entries_fault kind [] = None
entries_fault kind (entry ∷ others) = option_or (first_fault (Layer kind) entry layer_rows) (entries_fault kind others)

-- the first fault of a file of layers
unfoldable pub layers_fault : LayerKind → Data → Option ManifestFault
layers_fault kind file = option_or (option_or (version_fault file) (first_fault (Layer kind) file layer_file_rows)) (entries_fault kind (entries_of file))

-- the value at a key that is read under a condition
unfoldable pub at_when : LayerKind → When → Key → Data → Option Data
at_when kind when key entry = if holds (Layer kind) entry when then at key entry else None

-- a text; the empty one where there is none
unfoldable pub text_of : Data → List ℕ
text_of value = unwrap_or (as_str value) []

-- the texts of an array, and none where there is no array
unfoldable pub texts_of : Option Data → List (List ℕ)
texts_of value = map text_of (unwrap_or (option_map elements value) [])

-- a member as a variable and its value
abbrev pub variable_from : (List ℕ × Data) → VariableContent
variable_from found = record { name = found.0; value = text_of found.1 }

-- the first member of an object as a variable and its value
unfoldable pub variable_of : Option Data → Option VariableContent
variable_of value = option_map variable_from (option_and_then first_member value)

-- the layer of an entry
unfoldable pub layer_at : LayerKind → Data → LayerContent
layer_at kind entry = record {
  name = unwrap_or (text_at key.Name entry) [];
  library = text_at key.LibraryPath entry;
  components = texts_of (at key.ComponentLayers entry);
  disable = variable_of (at key.DisableEnvironment entry);
  enable = variable_of (at_when kind when.Implicit key.EnableEnvironment entry);
  blacklist = texts_of (at_when kind when.Override key.BlacklistedLayers entry);
  app_keys = texts_of (at_when kind when.Override key.AppKeys entry);
  override_paths = texts_of (at_when kind when.Override key.OverridePaths entry);
}

-- the entry is of another type than `DEVICE`
abbrev pub is_instance : Data → Bool
is_instance entry = not (is_device entry)

-- the layers of some entries, and how many were skipped
unfoldable pub layers_at : LayerKind → List Data → LayersContent
layers_at kind entries = record {
  entries = map (layer_at kind) (filter is_instance entries);
  device_type = count_by is_device entries;
}

-- what a file says of layers
unfoldable pub layers_in : LayerKind → Option Data → Result LayersContent ManifestFault
layers_in kind None = Err NotJson
layers_in kind (Some file) = unless (layers_fault kind file) (layers_at kind (entries_of file))

-- what the bytes say of layers
unfoldable pub layers_of : LayerKind → List ℕ → Result LayersContent ManifestFault
layers_of kind bytes = layers_in kind (file_of bytes)
