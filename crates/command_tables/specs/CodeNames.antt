-- The names of the codes. Source: the Vulkan 1.3 specification, "Return Codes".
use Rattle.std.specs.Prelude.{ℕ, List, codes}
use Rattle.command_tables.specs.declared.types.Code.{Code}
use Rattle.command_tables.specs.declared.types.Code.TheVariants as code

-- how a code is spelled
abbrev pub code_name : Code → List ℕ
code_name code.Success = codes "VK_SUCCESS"
code_name code.NotReady = codes "VK_NOT_READY"
code_name code.Timeout = codes "VK_TIMEOUT"
code_name code.EventSet = codes "VK_EVENT_SET"
code_name code.EventReset = codes "VK_EVENT_RESET"
code_name code.Incomplete = codes "VK_INCOMPLETE"
code_name code.SuboptimalKhr = codes "VK_SUBOPTIMAL_KHR"
code_name code.ErrorOutOfHostMemory = codes "VK_ERROR_OUT_OF_HOST_MEMORY"
code_name code.ErrorOutOfDeviceMemory = codes "VK_ERROR_OUT_OF_DEVICE_MEMORY"
code_name code.ErrorInitializationFailed = codes "VK_ERROR_INITIALIZATION_FAILED"
code_name code.ErrorDeviceLost = codes "VK_ERROR_DEVICE_LOST"
code_name code.ErrorMemoryMapFailed = codes "VK_ERROR_MEMORY_MAP_FAILED"
code_name code.ErrorLayerNotPresent = codes "VK_ERROR_LAYER_NOT_PRESENT"
code_name code.ErrorExtensionNotPresent = codes "VK_ERROR_EXTENSION_NOT_PRESENT"
code_name code.ErrorFeatureNotPresent = codes "VK_ERROR_FEATURE_NOT_PRESENT"
code_name code.ErrorIncompatibleDriver = codes "VK_ERROR_INCOMPATIBLE_DRIVER"
code_name code.ErrorTooManyObjects = codes "VK_ERROR_TOO_MANY_OBJECTS"
code_name code.ErrorFormatNotSupported = codes "VK_ERROR_FORMAT_NOT_SUPPORTED"
code_name code.ErrorFragmentedPool = codes "VK_ERROR_FRAGMENTED_POOL"
code_name code.ErrorOutOfPoolMemory = codes "VK_ERROR_OUT_OF_POOL_MEMORY"
code_name code.ErrorSurfaceLostKhr = codes "VK_ERROR_SURFACE_LOST_KHR"
code_name code.ErrorOutOfDateKhr = codes "VK_ERROR_OUT_OF_DATE_KHR"
code_name code.ErrorNativeWindowInUseKhr = codes "VK_ERROR_NATIVE_WINDOW_IN_USE_KHR"
code_name code.ErrorUnknown = codes "VK_ERROR_UNKNOWN"
code_name code.ErrorValidationFailedExt = codes "VK_ERROR_VALIDATION_FAILED_EXT"

-- the place of a code in the list of codes, from 0: successes first, each kind in the order in which it is documented
abbrev pub code_place : Code → ℕ
code_place code.Success = 0
code_place code.NotReady = 1
code_place code.Timeout = 2
code_place code.EventSet = 3
code_place code.EventReset = 4
code_place code.Incomplete = 5
code_place code.SuboptimalKhr = 6
code_place code.ErrorOutOfHostMemory = 7
code_place code.ErrorOutOfDeviceMemory = 8
code_place code.ErrorInitializationFailed = 9
code_place code.ErrorDeviceLost = 10
code_place code.ErrorMemoryMapFailed = 11
code_place code.ErrorLayerNotPresent = 12
code_place code.ErrorExtensionNotPresent = 13
code_place code.ErrorFeatureNotPresent = 14
code_place code.ErrorIncompatibleDriver = 15
code_place code.ErrorTooManyObjects = 16
code_place code.ErrorFormatNotSupported = 17
code_place code.ErrorFragmentedPool = 18
code_place code.ErrorOutOfPoolMemory = 19
code_place code.ErrorSurfaceLostKhr = 20
code_place code.ErrorOutOfDateKhr = 21
code_place code.ErrorNativeWindowInUseKhr = 22
code_place code.ErrorUnknown = 23
code_place code.ErrorValidationFailedExt = 24
