-- A type of an object, or none, in one byte. Source: this project.
use Rattle.std.specs.Prelude.{Option, Some, None}
use Rattle.command_tables.specs.declared.types.ObjectType.{ObjectType}
use Rattle.command_tables.specs.declared.types.ObjectType.TheVariants as ty
use Rattle.session_tables.specs.declared.filed_type.TypeSlot.{TypeSlot}
use Rattle.session_tables.specs.declared.filed_type.TypeSlot.TheVariants as slot

-- the type in a slot
abbrev pub type_in_slot : TypeSlot → Option ObjectType
type_in_slot slot.Nothing = None
type_in_slot slot.Instance = Some ty.Instance
type_in_slot slot.PhysicalDevice = Some ty.PhysicalDevice
type_in_slot slot.Device = Some ty.Device
type_in_slot slot.Queue = Some ty.Queue
type_in_slot slot.CommandBuffer = Some ty.CommandBuffer
type_in_slot slot.Semaphore = Some ty.Semaphore
type_in_slot slot.Fence = Some ty.Fence
type_in_slot slot.DeviceMemory = Some ty.DeviceMemory
type_in_slot slot.Buffer = Some ty.Buffer
type_in_slot slot.Image = Some ty.Image
type_in_slot slot.Event = Some ty.Event
type_in_slot slot.BufferView = Some ty.BufferView
type_in_slot slot.ImageView = Some ty.ImageView
type_in_slot slot.ShaderModule = Some ty.ShaderModule
type_in_slot slot.PipelineCache = Some ty.PipelineCache
type_in_slot slot.PipelineLayout = Some ty.PipelineLayout
type_in_slot slot.RenderPass = Some ty.RenderPass
type_in_slot slot.Pipeline = Some ty.Pipeline
type_in_slot slot.DescriptorSetLayout = Some ty.DescriptorSetLayout
type_in_slot slot.Sampler = Some ty.Sampler
type_in_slot slot.DescriptorPool = Some ty.DescriptorPool
type_in_slot slot.DescriptorSet = Some ty.DescriptorSet
type_in_slot slot.Framebuffer = Some ty.Framebuffer
type_in_slot slot.CommandPool = Some ty.CommandPool
type_in_slot slot.Surface = Some ty.Surface
type_in_slot slot.Swapchain = Some ty.Swapchain

-- the slot of a type
abbrev pub slot_for_type : ObjectType → TypeSlot
slot_for_type ty.Instance = slot.Instance
slot_for_type ty.PhysicalDevice = slot.PhysicalDevice
slot_for_type ty.Device = slot.Device
slot_for_type ty.Queue = slot.Queue
slot_for_type ty.CommandBuffer = slot.CommandBuffer
slot_for_type ty.Semaphore = slot.Semaphore
slot_for_type ty.Fence = slot.Fence
slot_for_type ty.DeviceMemory = slot.DeviceMemory
slot_for_type ty.Buffer = slot.Buffer
slot_for_type ty.Image = slot.Image
slot_for_type ty.Event = slot.Event
slot_for_type ty.BufferView = slot.BufferView
slot_for_type ty.ImageView = slot.ImageView
slot_for_type ty.ShaderModule = slot.ShaderModule
slot_for_type ty.PipelineCache = slot.PipelineCache
slot_for_type ty.PipelineLayout = slot.PipelineLayout
slot_for_type ty.RenderPass = slot.RenderPass
slot_for_type ty.Pipeline = slot.Pipeline
slot_for_type ty.DescriptorSetLayout = slot.DescriptorSetLayout
slot_for_type ty.Sampler = slot.Sampler
slot_for_type ty.DescriptorPool = slot.DescriptorPool
slot_for_type ty.DescriptorSet = slot.DescriptorSet
slot_for_type ty.Framebuffer = slot.Framebuffer
slot_for_type ty.CommandPool = slot.CommandPool
slot_for_type ty.Surface = slot.Surface
slot_for_type ty.Swapchain = slot.Swapchain

-- the same, and that of none
abbrev pub slot_for : Option ObjectType → TypeSlot
slot_for None = slot.Nothing
slot_for (Some t) = slot_for_type t
