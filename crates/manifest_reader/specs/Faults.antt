-- What a table's line finds at fault in an object, and the first fault of a table.
-- Source: Khronos Vulkan-Loader, LoaderDriverInterface.md and LoaderLayerInterface.md, the tables of manifest fields; the latter's
-- chapter on the override layer for its name.
use Rattle.std.specs.Prelude.{ℕ, Bool, true, false, not, ◌&&◌, ◌||◌, List, [], ◌∷◌, codes, if◌then◌else◌, Option, Some, None, is_some, is_none, option_map, unwrap_or}
use Rattle.std.specs.List.{list_all}
use Rattle.std.specs.Option.{option_or}
use Rattle.std.specs.Str.{bytes_eq}
use Rattle.serde_json.specs.Data.{Data}
use Rattle.serde_json.specs.Find.{as_str, as_bool, as_array, as_object}
use Rattle.manifest_reader.specs.Texts.{is_plain, is_filled, is_name, is_version}
use Rattle.manifest_reader.specs.Values.{at, says, elements, first_member}
use Rattle.manifest_reader.specs.declared.entries.LayerKind.TheVariants as layer
use Rattle.manifest_reader.specs.declared.faults.ManifestFault.{ManifestFault}
use Rattle.manifest_reader.specs.declared.faults.ManifestFault.TheVariants.{Missing, WrongKind}
use Rattle.manifest_reader.specs.declared.keys.Key.TheVariants as key
use Rattle.manifest_reader.specs.declared.rows.Manifest.{Manifest}
use Rattle.manifest_reader.specs.declared.rows.Manifest.TheVariants.{Driver, Layer}
use Rattle.manifest_reader.specs.declared.rows.When.{When}
use Rattle.manifest_reader.specs.declared.rows.When.TheVariants as when
use Rattle.manifest_reader.specs.declared.rows.Form.{Form}
use Rattle.manifest_reader.specs.declared.rows.Form.TheVariants as form
use Rattle.manifest_reader.specs.declared.rows.Kind.{Kind}
use Rattle.manifest_reader.specs.declared.rows.Kind.TheVariants as kind
use Rattle.manifest_reader.specs.declared.rows.Row.{Row}

-- the entry is of a device layer, which loaders no longer know
unfoldable pub is_device : Data → Bool
is_device entry = says key.LayerType (codes "DEVICE") entry

-- the entry has the override layer's name and is a meta-layer
unfoldable pub is_override : Data → Bool
is_override entry = says key.Name (codes "VK_LAYER_LUNARG_override") entry && is_some (at key.ComponentLayers entry)

-- the manifest is an implicit layer's
abbrev pub is_implicit : Manifest → Bool
is_implicit Driver = false
is_implicit (Layer layer.Explicit) = false
is_implicit (Layer layer.Implicit) = true

-- the condition holds of the object
unfoldable pub holds : Manifest → Data → When → Bool
holds manifest holder when.Always = true
holds manifest holder when.Never = false
holds manifest holder (when.Without key) = is_none (at key holder)
holds manifest holder when.UnlessDevice = not (is_device holder)
holds manifest holder when.Implicit = is_implicit manifest && not (is_device holder)
holds manifest holder when.Override = is_implicit manifest && not (is_device holder) && is_override holder

-- the text has this form
unfoldable pub has_form : Form → List ℕ → Bool
has_form form.Any text = true
has_form form.Plain text = is_plain text
has_form form.Filled text = is_filled text
has_form form.Version text = is_version text
has_form form.Name text = is_name text
has_form form.LayerType text = bytes_eq text (codes "INSTANCE") || bytes_eq text (codes "GLOBAL") || bytes_eq text (codes "DEVICE")
has_form form.Architecture text = bytes_eq text (codes "32") || bytes_eq text (codes "64")

-- the value is a text of this form
unfoldable pub is_text : Form → Data → Bool
is_text form value = unwrap_or (option_map (has_form form) (as_str value)) false

-- the value is an array of objects
unfoldable pub is_objects : Data → Bool
is_objects value = is_some (as_array value) && list_all (λ entry. is_some (as_object entry)) (elements value)

-- the value is an array of plain texts
unfoldable pub is_texts : Data → Bool
is_texts value = is_some (as_array value) && list_all (is_text form.Plain) (elements value)

-- the value is an object whose first member is a plain text
unfoldable pub is_variable : Data → Bool
is_variable value = unwrap_or (option_map (λ found. is_text form.Plain found.1) (first_member value)) false

-- the value may stand in the object
unfoldable pub fits : Kind → Data → Data → Bool
fits kind.Boolean holder value = is_some (as_bool value)
fits kind.Object holder value = is_some (as_object value)
fits kind.Objects holder value = is_objects value
fits (kind.Text form) holder value = is_text form value
fits kind.Texts holder value = is_texts value
fits kind.Components holder value = is_texts value && is_none (at key.LibraryPath holder)
fits kind.Variable holder value = is_variable value

-- the fault of a value, or of a key that isn't there
unfoldable pub value_fault : Manifest → Data → Row → Option Data → Option ManifestFault
value_fault manifest holder row None = if holds manifest holder row.needed then Some (Missing row.key) else None
value_fault manifest holder row (Some value) = if fits row.kind holder value then None else Some (WrongKind row.key)

-- the fault that a line finds
unfoldable pub row_fault : Manifest → Data → Row → Option ManifestFault
row_fault manifest holder row = if holds manifest holder row.read then value_fault manifest holder row (at row.key holder) else None

-- the first fault that a table's lines find, in their order
abbrev pub first_fault : Manifest → Data → List Row → Option ManifestFault
first_fault manifest holder [] = None
first_fault manifest holder (row ∷ rows) = option_or (row_fault manifest holder row) (first_fault manifest holder rows)
