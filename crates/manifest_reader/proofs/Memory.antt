-- No bytes say that memory ran out.
use Rattle.std.proofs.Common.{◌≢◌, ℕ, Bool, true, false, if◌then◌else◌, List, [], ◌∷◌, Option, Some, None, Err}
use Rattle.std.specs.Option.{option_or}
use Rattle.serde_json.specs.Data.{Data}
use Rattle.manifest_reader.specs.Faults.{holds, fits, value_fault, row_fault, first_fault}
use Rattle.manifest_reader.specs.Reading.{file_of, format_fault, version_fault, unless, arch_fault, icd_fault, driver_fault, driver_in, driver_of, entries_of, entries_fault, layers_fault, layers_in, layers_of}
use Rattle.manifest_reader.specs.Rows.{driver_file_rows, driver_rows, layer_file_rows, layer_rows}
use Rattle.manifest_reader.specs.Values.{at}
use Rattle.manifest_reader.specs.declared.entries.LayerKind.{LayerKind}
use Rattle.manifest_reader.specs.declared.faults.ManifestFault.{ManifestFault}
use Rattle.manifest_reader.specs.declared.faults.ManifestFault.TheVariants.{BadVersion, OtherArch, NoMemory}
use Rattle.manifest_reader.specs.declared.rows.Manifest.{Manifest}
use Rattle.manifest_reader.specs.declared.rows.Row.{Row}

-- the fault, if there is one, is another than want of memory
abbrev pub IsOfBytes : Option ManifestFault → Type 0
IsOfBytes fault = fault ≢ Some NoMemory

chosen : (b : Bool) (f g : Option ManifestFault) → IsOfBytes f → IsOfBytes g → IsOfBytes (if b then f else g)
chosen true f g left right = left
chosen false f g left right = right

either : (f g : Option ManifestFault) → IsOfBytes f → IsOfBytes g → IsOfBytes (option_or f g)
either None g left right = right
either (Some f) g left right = left

value_fault-of_bytes : (manifest : Manifest) (holder : Data) (row : Row) (value : Option Data) → IsOfBytes (value_fault manifest holder row value)
unfolding value_fault
value_fault-of_bytes manifest holder row None = chosen (holds manifest holder row.needed) _ _ (λ e. cc) (λ e. cc)
value_fault-of_bytes manifest holder row (Some value) = chosen (fits row.kind holder value) _ _ (λ e. cc) (λ e. cc)

row_fault-of_bytes : (manifest : Manifest) (holder : Data) (row : Row) → IsOfBytes (row_fault manifest holder row)
unfolding row_fault
row_fault-of_bytes manifest holder row = chosen (holds manifest holder row.read) _ _ (value_fault-of_bytes manifest holder row (at row.key holder)) (λ e. cc)

first_fault-of_bytes : (manifest : Manifest) (holder : Data) (rows : List Row) → IsOfBytes (first_fault manifest holder rows)
first_fault-of_bytes manifest holder [] = λ e. cc
first_fault-of_bytes manifest holder (row ∷ rows) = either _ _ (row_fault-of_bytes manifest holder row) (first_fault-of_bytes manifest holder rows)

format_fault-of_bytes : (version : Option Data) → IsOfBytes (format_fault version)
unfolding format_fault
format_fault-of_bytes None = λ e. cc
format_fault-of_bytes (Some version) = chosen _ None (Some BadVersion) (λ e. cc) (λ e. cc)

version_fault-of_bytes : (file : Data) → IsOfBytes (version_fault file)
unfolding version_fault
version_fault-of_bytes file = format_fault-of_bytes _

icd_fault-of_bytes : (icd : Option Data) → IsOfBytes (icd_fault icd)
unfolding icd_fault arch_fault
icd_fault-of_bytes None = λ e. cc
icd_fault-of_bytes (Some icd) = either _ _ (first_fault-of_bytes _ icd driver_rows) (chosen _ (Some OtherArch) None (λ e. cc) (λ e. cc))

driver_fault-of_bytes : (file : Data) → IsOfBytes (driver_fault file)
unfolding driver_fault
driver_fault-of_bytes file = either _ _ (either _ _ (version_fault-of_bytes file) (first_fault-of_bytes _ file driver_file_rows)) (icd_fault-of_bytes _)

entries_fault-of_bytes : (kind : LayerKind) (entries : List Data) → IsOfBytes (entries_fault kind entries)
entries_fault-of_bytes kind [] = λ e. cc
entries_fault-of_bytes kind (entry ∷ others) = either _ _ (first_fault-of_bytes _ entry layer_rows) (entries_fault-of_bytes kind others)

layers_fault-of_bytes : (kind : LayerKind) (file : Data) → IsOfBytes (layers_fault kind file)
unfolding layers_fault
layers_fault-of_bytes kind file = either _ _ (either _ _ (version_fault-of_bytes file) (first_fault-of_bytes _ file layer_file_rows)) (entries_fault-of_bytes kind (entries_of file))

unless-of_bytes : {C : Type 0} (fault : Option ManifestFault) (content : C) → IsOfBytes fault → unless fault content ≢ Err NoMemory
unless-of_bytes None content other = λ e. cc
unless-of_bytes (Some fault) content other = λ e. other cc

driver_in-of_bytes : (file : Option Data) → driver_in file ≢ Err NoMemory
unfolding driver_in
driver_in-of_bytes None = λ e. cc
driver_in-of_bytes (Some file) = unless-of_bytes _ _ (driver_fault-of_bytes file)

-- no bytes say that memory ran out, for a driver
pub driver_of_is_of_bytes : (bytes : List ℕ) → driver_of bytes ≢ Err NoMemory
unfolding driver_of
driver_of_is_of_bytes bytes = driver_in-of_bytes (file_of bytes)

layers_in-of_bytes : (kind : LayerKind) (file : Option Data) → layers_in kind file ≢ Err NoMemory
unfolding layers_in
layers_in-of_bytes kind None = λ e. cc
layers_in-of_bytes kind (Some file) = unless-of_bytes _ _ (layers_fault-of_bytes kind file)

-- the same for layers
pub layers_of_is_of_bytes : (kind : LayerKind) (bytes : List ℕ) → layers_of kind bytes ≢ Err NoMemory
unfolding layers_of
layers_of_is_of_bytes kind bytes = layers_in-of_bytes kind (file_of bytes)
