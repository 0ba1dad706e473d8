-- What manifests ask, key by key, in the order in which the keys are tried.
-- Source: Khronos Vulkan-Loader, LoaderDriverInterface.md and LoaderLayerInterface.md, the tables of manifest fields.
use Rattle.std.specs.Prelude.{List, [], ◌∷◌}
use Rattle.manifest_reader.specs.declared.keys.Key.{Key}
use Rattle.manifest_reader.specs.declared.keys.Key.TheVariants as key
use Rattle.manifest_reader.specs.declared.rows.When.{When}
use Rattle.manifest_reader.specs.declared.rows.When.TheVariants.{Always, Never, Without, UnlessDevice, Implicit, Override}
use Rattle.manifest_reader.specs.declared.rows.Form.TheVariants as form
use Rattle.manifest_reader.specs.declared.rows.Kind.{Kind}
use Rattle.manifest_reader.specs.declared.rows.Kind.TheVariants.{Boolean, Object, Objects, Text, Texts, Components, Variable}
use Rattle.manifest_reader.specs.declared.rows.Row.{Row}

-- a line: a key, when it is read, when it is needed where it is read, and what its value has to be
abbrev pub row : Key → When → When → Kind → Row
row key read needed kind = record { key = key; read = read; needed = needed; kind = kind }

-- the file of a driver
unfoldable pub driver_file_rows : List Row
driver_file_rows =
    row key.Icd Always Always Object
    ∷ []

-- what stands in its `ICD`
unfoldable pub driver_rows : List Row
driver_rows =
    row key.LibraryPath Always Always (Text form.Filled)
    ∷ row key.ApiVersion Always Always (Text form.Version)
    ∷ row key.LibraryArch Always Never (Text form.Architecture)
    ∷ row key.IsPortabilityDriver Always Never Boolean
    ∷ []

-- the file of layers
unfoldable pub layer_file_rows : List Row
layer_file_rows =
    row key.Layers Always Never Objects
    ∷ row key.Layer (Without key.Layers) Always Object
    ∷ []

-- what stands in an entry
unfoldable pub layer_rows : List Row
layer_rows =
    row key.Name Always Always (Text form.Name)
    ∷ row key.LayerType Always Always (Text form.LayerType)
    ∷ row key.LibraryPath UnlessDevice (Without key.ComponentLayers) (Text form.Filled)
    ∷ row key.ComponentLayers UnlessDevice Never Components
    ∷ row key.ApiVersion UnlessDevice Always (Text form.Version)
    ∷ row key.ImplementationVersion UnlessDevice Always (Text form.Plain)
    ∷ row key.Description UnlessDevice Always (Text form.Any)
    ∷ row key.DisableEnvironment UnlessDevice Implicit Variable
    ∷ row key.EnableEnvironment Implicit Never Variable
    ∷ row key.BlacklistedLayers Override Never Texts
    ∷ row key.AppKeys Override Never Texts
    ∷ row key.OverridePaths Override Never Texts
    ∷ []
