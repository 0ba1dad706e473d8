-- How the keys of manifests are spelled.
-- Source: Khronos Vulkan-Loader, LoaderDriverInterface.md and LoaderLayerInterface.md, the tables of manifest fields.
use Rattle.std.specs.Prelude.{ℕ, List, codes}
use Rattle.manifest_reader.specs.declared.keys.Key.{Key}
use Rattle.manifest_reader.specs.declared.keys.Key.TheVariants as key

-- the bytes of a key
unfoldable pub spelled : Key → List ℕ
spelled key.Icd = codes "ICD"
spelled key.LibraryPath = codes "library_path"
spelled key.ApiVersion = codes "api_version"
spelled key.LibraryArch = codes "library_arch"
spelled key.IsPortabilityDriver = codes "is_portability_driver"
spelled key.Layers = codes "layers"
spelled key.Layer = codes "layer"
spelled key.Name = codes "name"
spelled key.LayerType = codes "type"
spelled key.ComponentLayers = codes "component_layers"
spelled key.ImplementationVersion = codes "implementation_version"
spelled key.Description = codes "description"
spelled key.DisableEnvironment = codes "disable_environment"
spelled key.EnableEnvironment = codes "enable_environment"
spelled key.BlacklistedLayers = codes "blacklisted_layers"
spelled key.AppKeys = codes "app_keys"
spelled key.OverridePaths = codes "override_paths"
