-- The command table: for each command its name, its parameters with their marks, its effect, and whether it answers a code.
-- Source: the Vulkan 1.3 specification (the commands' chapters, "Object Lifetime", "Threading Behavior"); the choice of commands,
-- and the marks of owners and of external synchronization, are this project's.
use Rattle.std.specs.Prelude.{ℕ, Bool, true, false, List, [], ◌∷◌, map, codes}
use Rattle.command_tables.specs.declared.types.CommandId.{CommandId}
use Rattle.command_tables.specs.declared.types.CommandId.TheVariants as cmd
use Rattle.command_tables.specs.declared.types.ObjectType.{ObjectType}
use Rattle.command_tables.specs.declared.types.ObjectType.TheVariants as ty
use Rattle.command_tables.specs.declared.types.OwnerMark.{OwnerMark}
use Rattle.command_tables.specs.declared.types.OwnerMark.TheVariants as own
use Rattle.command_tables.specs.declared.types.Implied.{Implied}
use Rattle.command_tables.specs.declared.types.Implied.TheVariants as imp
use Rattle.command_tables.specs.declared.types.OwnerOf.TheVariants as of
use Rattle.command_tables.specs.declared.types.Effect.{Effect}
use Rattle.command_tables.specs.declared.types.Effect.TheVariants as eff
use Rattle.command_tables.specs.declared.types.Param.{Param}
use Rattle.command_tables.specs.declared.types.Row.{Row}

-- a parameter, without where its name lies in memory
pub record ParamSpec : Type 0 where
  pub name : List ℕ
  pub ty : ObjectType
  pub many : Bool
  pub optional : Bool
  pub owner : OwnerMark
  pub sync : Bool
  pub implied : Implied

-- a row, without where its parts lie in memory
pub record RowSpec : Type 0 where
  pub id : CommandId
  pub name : List ℕ
  pub params : List ParamSpec
  pub effect : Effect
  pub returns : Bool

-- a parameter of the program as one of the table
abbrev pub seen_param : Param → ParamSpec
seen_param p = record { name = p.name.now; ty = p.ty; many = p.many; optional = p.optional; owner = p.owner; sync = p.sync; implied = p.implied }

-- a row of the program as one of the table
abbrev pub seen : Row → RowSpec
seen r = record { id = r.id; name = r.name.now; params = map seen_param r.params.now; effect = r.effect; returns = r.returns }

-- a parameter that takes one handle, with no mark
abbrev pub one : List ℕ → ObjectType → ParamSpec
one name ty = record { name = name; ty = ty; many = false; optional = false; owner = own.None; sync = false; implied = imp.None }

-- a parameter that takes a list of handles, with no mark
abbrev pub many : List ℕ → ObjectType → ParamSpec
many name ty = record { name = name; ty = ty; many = true; optional = false; owner = own.None; sync = false; implied = imp.None }

-- null is allowed, in each place of a list too
abbrev pub or_null : ParamSpec → ParamSpec
or_null p = record p { optional = true }

-- externally synchronized: a write use
abbrev pub written : ParamSpec → ParamSpec
written p = record p { sync = true }

-- the argument's device is the first argument's device
abbrev pub same_device : ParamSpec → ParamSpec
same_device p = record p { owner = own.Device }

-- the argument's owner is the object of the parameter with this number, from 0
abbrev pub owned_by : ℕ → ParamSpec → ParamSpec
owned_by x p = record p { owner = own.Param x }

-- the command buffer's pool is used too
abbrev pub with_pool : ParamSpec → ParamSpec
with_pool p = record p { implied = imp.PoolOf }

-- the pool's descriptor sets are used too
abbrev pub with_sets : ParamSpec → ParamSpec
with_sets p = record p { implied = imp.SetsOf }

-- the device's queues are used too
abbrev pub with_queues : ParamSpec → ParamSpec
with_queues p = record p { implied = imp.QueuesOf }

-- a row of the table
abbrev pub line : CommandId → List ℕ → List ParamSpec → Effect → Bool → RowSpec
line id name params effect returns = record { id = id; name = name; params = params; effect = effect; returns = returns }

-- the row of each command, in byte order of the names
unfoldable pub row_of : CommandId → RowSpec
row_of cmd.AcquireNextImageKHR = line cmd.AcquireNextImageKHR (codes "vkAcquireNextImageKHR") (one (codes "device") ty.Device ∷ same_device (written (one (codes "swapchain") ty.Swapchain)) ∷ same_device (written (or_null (one (codes "semaphore") ty.Semaphore))) ∷ same_device (written (or_null (one (codes "fence") ty.Fence))) ∷ []) eff.None true
row_of cmd.AllocateCommandBuffers = line cmd.AllocateCommandBuffers (codes "vkAllocateCommandBuffers") (one (codes "device") ty.Device ∷ same_device (written (one (codes "commandPool") ty.CommandPool)) ∷ []) (eff.Create ty.CommandBuffer (of.Param 1) true) true
row_of cmd.AllocateDescriptorSets = line cmd.AllocateDescriptorSets (codes "vkAllocateDescriptorSets") (one (codes "device") ty.Device ∷ same_device (written (one (codes "descriptorPool") ty.DescriptorPool)) ∷ same_device (many (codes "pSetLayouts") ty.DescriptorSetLayout) ∷ []) (eff.Create ty.DescriptorSet (of.Param 1) true) true
row_of cmd.AllocateMemory = line cmd.AllocateMemory (codes "vkAllocateMemory") (one (codes "device") ty.Device ∷ []) (eff.Create ty.DeviceMemory (of.Param 0) false) true
row_of cmd.BeginCommandBuffer = line cmd.BeginCommandBuffer (codes "vkBeginCommandBuffer") (with_pool (written (one (codes "commandBuffer") ty.CommandBuffer)) ∷ []) eff.None true
row_of cmd.BindBufferMemory = line cmd.BindBufferMemory (codes "vkBindBufferMemory") (one (codes "device") ty.Device ∷ same_device (written (one (codes "buffer") ty.Buffer)) ∷ same_device (one (codes "memory") ty.DeviceMemory) ∷ []) eff.None true
row_of cmd.BindImageMemory = line cmd.BindImageMemory (codes "vkBindImageMemory") (one (codes "device") ty.Device ∷ owned_by 0 (written (one (codes "image") ty.Image)) ∷ same_device (one (codes "memory") ty.DeviceMemory) ∷ []) eff.None true
row_of cmd.CmdBeginRenderPass = line cmd.CmdBeginRenderPass (codes "vkCmdBeginRenderPass") (with_pool (written (one (codes "commandBuffer") ty.CommandBuffer)) ∷ same_device (one (codes "renderPass") ty.RenderPass) ∷ same_device (one (codes "framebuffer") ty.Framebuffer) ∷ []) eff.None false
row_of cmd.CmdBindDescriptorSets = line cmd.CmdBindDescriptorSets (codes "vkCmdBindDescriptorSets") (with_pool (written (one (codes "commandBuffer") ty.CommandBuffer)) ∷ same_device (one (codes "layout") ty.PipelineLayout) ∷ same_device (or_null (many (codes "pDescriptorSets") ty.DescriptorSet)) ∷ []) eff.None false
row_of cmd.CmdBindIndexBuffer = line cmd.CmdBindIndexBuffer (codes "vkCmdBindIndexBuffer") (with_pool (written (one (codes "commandBuffer") ty.CommandBuffer)) ∷ same_device (one (codes "buffer") ty.Buffer) ∷ []) eff.None false
row_of cmd.CmdBindPipeline = line cmd.CmdBindPipeline (codes "vkCmdBindPipeline") (with_pool (written (one (codes "commandBuffer") ty.CommandBuffer)) ∷ same_device (one (codes "pipeline") ty.Pipeline) ∷ []) eff.None false
row_of cmd.CmdBindVertexBuffers = line cmd.CmdBindVertexBuffers (codes "vkCmdBindVertexBuffers") (with_pool (written (one (codes "commandBuffer") ty.CommandBuffer)) ∷ same_device (or_null (many (codes "pBuffers") ty.Buffer)) ∷ []) eff.None false
row_of cmd.CmdDispatch = line cmd.CmdDispatch (codes "vkCmdDispatch") (with_pool (written (one (codes "commandBuffer") ty.CommandBuffer)) ∷ []) eff.None false
row_of cmd.CmdDraw = line cmd.CmdDraw (codes "vkCmdDraw") (with_pool (written (one (codes "commandBuffer") ty.CommandBuffer)) ∷ []) eff.None false
row_of cmd.CmdDrawIndexed = line cmd.CmdDrawIndexed (codes "vkCmdDrawIndexed") (with_pool (written (one (codes "commandBuffer") ty.CommandBuffer)) ∷ []) eff.None false
row_of cmd.CmdEndRenderPass = line cmd.CmdEndRenderPass (codes "vkCmdEndRenderPass") (with_pool (written (one (codes "commandBuffer") ty.CommandBuffer)) ∷ []) eff.None false
row_of cmd.CreateBuffer = line cmd.CreateBuffer (codes "vkCreateBuffer") (one (codes "device") ty.Device ∷ []) (eff.Create ty.Buffer (of.Param 0) false) true
row_of cmd.CreateBufferView = line cmd.CreateBufferView (codes "vkCreateBufferView") (one (codes "device") ty.Device ∷ same_device (one (codes "buffer") ty.Buffer) ∷ []) (eff.Create ty.BufferView (of.Param 0) false) true
row_of cmd.CreateCommandPool = line cmd.CreateCommandPool (codes "vkCreateCommandPool") (one (codes "device") ty.Device ∷ []) (eff.Create ty.CommandPool (of.Param 0) false) true
row_of cmd.CreateComputePipelines = line cmd.CreateComputePipelines (codes "vkCreateComputePipelines") (one (codes "device") ty.Device ∷ same_device (or_null (one (codes "pipelineCache") ty.PipelineCache)) ∷ same_device (many (codes "module") ty.ShaderModule) ∷ same_device (many (codes "layout") ty.PipelineLayout) ∷ []) (eff.Create ty.Pipeline (of.Param 0) true) true
row_of cmd.CreateDescriptorPool = line cmd.CreateDescriptorPool (codes "vkCreateDescriptorPool") (one (codes "device") ty.Device ∷ []) (eff.Create ty.DescriptorPool (of.Param 0) false) true
row_of cmd.CreateDescriptorSetLayout = line cmd.CreateDescriptorSetLayout (codes "vkCreateDescriptorSetLayout") (one (codes "device") ty.Device ∷ same_device (many (codes "pImmutableSamplers") ty.Sampler) ∷ []) (eff.Create ty.DescriptorSetLayout (of.Param 0) false) true
row_of cmd.CreateDevice = line cmd.CreateDevice (codes "vkCreateDevice") (one (codes "physicalDevice") ty.PhysicalDevice ∷ []) (eff.Create ty.Device (of.OwnerOfParam 0) false) true
row_of cmd.CreateEvent = line cmd.CreateEvent (codes "vkCreateEvent") (one (codes "device") ty.Device ∷ []) (eff.Create ty.Event (of.Param 0) false) true
row_of cmd.CreateFence = line cmd.CreateFence (codes "vkCreateFence") (one (codes "device") ty.Device ∷ []) (eff.Create ty.Fence (of.Param 0) false) true
row_of cmd.CreateFramebuffer = line cmd.CreateFramebuffer (codes "vkCreateFramebuffer") (one (codes "device") ty.Device ∷ same_device (one (codes "renderPass") ty.RenderPass) ∷ same_device (many (codes "pAttachments") ty.ImageView) ∷ []) (eff.Create ty.Framebuffer (of.Param 0) false) true
row_of cmd.CreateGraphicsPipelines = line cmd.CreateGraphicsPipelines (codes "vkCreateGraphicsPipelines") (one (codes "device") ty.Device ∷ same_device (or_null (one (codes "pipelineCache") ty.PipelineCache)) ∷ same_device (many (codes "module") ty.ShaderModule) ∷ same_device (or_null (many (codes "layout") ty.PipelineLayout)) ∷ same_device (or_null (many (codes "renderPass") ty.RenderPass)) ∷ []) (eff.Create ty.Pipeline (of.Param 0) true) true
row_of cmd.CreateImage = line cmd.CreateImage (codes "vkCreateImage") (one (codes "device") ty.Device ∷ []) (eff.Create ty.Image (of.Param 0) false) true
row_of cmd.CreateImageView = line cmd.CreateImageView (codes "vkCreateImageView") (one (codes "device") ty.Device ∷ same_device (one (codes "image") ty.Image) ∷ []) (eff.Create ty.ImageView (of.Param 0) false) true
row_of cmd.CreateInstance = line cmd.CreateInstance (codes "vkCreateInstance") [] (eff.Create ty.Instance of.Nobody false) true
row_of cmd.CreatePipelineCache = line cmd.CreatePipelineCache (codes "vkCreatePipelineCache") (one (codes "device") ty.Device ∷ []) (eff.Create ty.PipelineCache (of.Param 0) false) true
row_of cmd.CreatePipelineLayout = line cmd.CreatePipelineLayout (codes "vkCreatePipelineLayout") (one (codes "device") ty.Device ∷ same_device (or_null (many (codes "pSetLayouts") ty.DescriptorSetLayout)) ∷ []) (eff.Create ty.PipelineLayout (of.Param 0) false) true
row_of cmd.CreateRenderPass = line cmd.CreateRenderPass (codes "vkCreateRenderPass") (one (codes "device") ty.Device ∷ []) (eff.Create ty.RenderPass (of.Param 0) false) true
row_of cmd.CreateSampler = line cmd.CreateSampler (codes "vkCreateSampler") (one (codes "device") ty.Device ∷ []) (eff.Create ty.Sampler (of.Param 0) false) true
row_of cmd.CreateSemaphore = line cmd.CreateSemaphore (codes "vkCreateSemaphore") (one (codes "device") ty.Device ∷ []) (eff.Create ty.Semaphore (of.Param 0) false) true
row_of cmd.CreateShaderModule = line cmd.CreateShaderModule (codes "vkCreateShaderModule") (one (codes "device") ty.Device ∷ []) (eff.Create ty.ShaderModule (of.Param 0) false) true
row_of cmd.CreateSwapchainKHR = line cmd.CreateSwapchainKHR (codes "vkCreateSwapchainKHR") (one (codes "device") ty.Device ∷ written (one (codes "surface") ty.Surface) ∷ written (or_null (one (codes "oldSwapchain") ty.Swapchain)) ∷ []) (eff.Create ty.Swapchain (of.Param 0) false) true
row_of cmd.CreateXcbSurfaceKHR = line cmd.CreateXcbSurfaceKHR (codes "vkCreateXcbSurfaceKHR") (one (codes "instance") ty.Instance ∷ []) (eff.Create ty.Surface (of.Param 0) false) true
row_of cmd.DestroyBuffer = line cmd.DestroyBuffer (codes "vkDestroyBuffer") (one (codes "device") ty.Device ∷ same_device (written (or_null (one (codes "buffer") ty.Buffer))) ∷ []) (eff.Destroy 1) false
row_of cmd.DestroyBufferView = line cmd.DestroyBufferView (codes "vkDestroyBufferView") (one (codes "device") ty.Device ∷ same_device (written (or_null (one (codes "bufferView") ty.BufferView))) ∷ []) (eff.Destroy 1) false
row_of cmd.DestroyCommandPool = line cmd.DestroyCommandPool (codes "vkDestroyCommandPool") (one (codes "device") ty.Device ∷ same_device (written (or_null (one (codes "commandPool") ty.CommandPool))) ∷ []) (eff.Destroy 1) false
row_of cmd.DestroyDescriptorPool = line cmd.DestroyDescriptorPool (codes "vkDestroyDescriptorPool") (one (codes "device") ty.Device ∷ same_device (written (or_null (one (codes "descriptorPool") ty.DescriptorPool))) ∷ []) (eff.Destroy 1) false
row_of cmd.DestroyDescriptorSetLayout = line cmd.DestroyDescriptorSetLayout (codes "vkDestroyDescriptorSetLayout") (one (codes "device") ty.Device ∷ same_device (written (or_null (one (codes "descriptorSetLayout") ty.DescriptorSetLayout))) ∷ []) (eff.Destroy 1) false
row_of cmd.DestroyDevice = line cmd.DestroyDevice (codes "vkDestroyDevice") (written (one (codes "device") ty.Device) ∷ []) (eff.Destroy 0) false
row_of cmd.DestroyEvent = line cmd.DestroyEvent (codes "vkDestroyEvent") (one (codes "device") ty.Device ∷ same_device (written (or_null (one (codes "event") ty.Event))) ∷ []) (eff.Destroy 1) false
row_of cmd.DestroyFence = line cmd.DestroyFence (codes "vkDestroyFence") (one (codes "device") ty.Device ∷ same_device (written (or_null (one (codes "fence") ty.Fence))) ∷ []) (eff.Destroy 1) false
row_of cmd.DestroyFramebuffer = line cmd.DestroyFramebuffer (codes "vkDestroyFramebuffer") (one (codes "device") ty.Device ∷ same_device (written (or_null (one (codes "framebuffer") ty.Framebuffer))) ∷ []) (eff.Destroy 1) false
row_of cmd.DestroyImage = line cmd.DestroyImage (codes "vkDestroyImage") (one (codes "device") ty.Device ∷ owned_by 0 (written (or_null (one (codes "image") ty.Image))) ∷ []) (eff.Destroy 1) false
row_of cmd.DestroyImageView = line cmd.DestroyImageView (codes "vkDestroyImageView") (one (codes "device") ty.Device ∷ same_device (written (or_null (one (codes "imageView") ty.ImageView))) ∷ []) (eff.Destroy 1) false
row_of cmd.DestroyInstance = line cmd.DestroyInstance (codes "vkDestroyInstance") (written (one (codes "instance") ty.Instance) ∷ []) (eff.Destroy 0) false
row_of cmd.DestroyPipeline = line cmd.DestroyPipeline (codes "vkDestroyPipeline") (one (codes "device") ty.Device ∷ same_device (written (or_null (one (codes "pipeline") ty.Pipeline))) ∷ []) (eff.Destroy 1) false
row_of cmd.DestroyPipelineCache = line cmd.DestroyPipelineCache (codes "vkDestroyPipelineCache") (one (codes "device") ty.Device ∷ same_device (written (or_null (one (codes "pipelineCache") ty.PipelineCache))) ∷ []) (eff.Destroy 1) false
row_of cmd.DestroyPipelineLayout = line cmd.DestroyPipelineLayout (codes "vkDestroyPipelineLayout") (one (codes "device") ty.Device ∷ same_device (written (or_null (one (codes "pipelineLayout") ty.PipelineLayout))) ∷ []) (eff.Destroy 1) false
row_of cmd.DestroyRenderPass = line cmd.DestroyRenderPass (codes "vkDestroyRenderPass") (one (codes "device") ty.Device ∷ same_device (written (or_null (one (codes "renderPass") ty.RenderPass))) ∷ []) (eff.Destroy 1) false
row_of cmd.DestroySampler = line cmd.DestroySampler (codes "vkDestroySampler") (one (codes "device") ty.Device ∷ same_device (written (or_null (one (codes "sampler") ty.Sampler))) ∷ []) (eff.Destroy 1) false
row_of cmd.DestroySemaphore = line cmd.DestroySemaphore (codes "vkDestroySemaphore") (one (codes "device") ty.Device ∷ same_device (written (or_null (one (codes "semaphore") ty.Semaphore))) ∷ []) (eff.Destroy 1) false
row_of cmd.DestroyShaderModule = line cmd.DestroyShaderModule (codes "vkDestroyShaderModule") (one (codes "device") ty.Device ∷ same_device (written (or_null (one (codes "shaderModule") ty.ShaderModule))) ∷ []) (eff.Destroy 1) false
row_of cmd.DestroySurfaceKHR = line cmd.DestroySurfaceKHR (codes "vkDestroySurfaceKHR") (one (codes "instance") ty.Instance ∷ written (or_null (one (codes "surface") ty.Surface)) ∷ []) (eff.Destroy 1) false
row_of cmd.DestroySwapchainKHR = line cmd.DestroySwapchainKHR (codes "vkDestroySwapchainKHR") (one (codes "device") ty.Device ∷ same_device (written (or_null (one (codes "swapchain") ty.Swapchain))) ∷ []) (eff.Destroy 1) false
row_of cmd.DeviceWaitIdle = line cmd.DeviceWaitIdle (codes "vkDeviceWaitIdle") (with_queues (one (codes "device") ty.Device) ∷ []) eff.None true
row_of cmd.EndCommandBuffer = line cmd.EndCommandBuffer (codes "vkEndCommandBuffer") (with_pool (written (one (codes "commandBuffer") ty.CommandBuffer)) ∷ []) eff.None true
row_of cmd.EnumeratePhysicalDevices = line cmd.EnumeratePhysicalDevices (codes "vkEnumeratePhysicalDevices") (one (codes "instance") ty.Instance ∷ []) (eff.Retrieve ty.PhysicalDevice (of.Param 0) true) true
row_of cmd.FlushMappedMemoryRanges = line cmd.FlushMappedMemoryRanges (codes "vkFlushMappedMemoryRanges") (one (codes "device") ty.Device ∷ same_device (many (codes "memory") ty.DeviceMemory) ∷ []) eff.None true
row_of cmd.FreeCommandBuffers = line cmd.FreeCommandBuffers (codes "vkFreeCommandBuffers") (one (codes "device") ty.Device ∷ same_device (written (one (codes "commandPool") ty.CommandPool)) ∷ owned_by 1 (written (or_null (many (codes "pCommandBuffers") ty.CommandBuffer))) ∷ []) (eff.Free 2) false
row_of cmd.FreeDescriptorSets = line cmd.FreeDescriptorSets (codes "vkFreeDescriptorSets") (one (codes "device") ty.Device ∷ same_device (written (one (codes "descriptorPool") ty.DescriptorPool)) ∷ owned_by 1 (written (or_null (many (codes "pDescriptorSets") ty.DescriptorSet))) ∷ []) (eff.Free 2) true
row_of cmd.FreeMemory = line cmd.FreeMemory (codes "vkFreeMemory") (one (codes "device") ty.Device ∷ same_device (written (or_null (one (codes "memory") ty.DeviceMemory))) ∷ []) (eff.Free 1) false
row_of cmd.GetBufferMemoryRequirements = line cmd.GetBufferMemoryRequirements (codes "vkGetBufferMemoryRequirements") (one (codes "device") ty.Device ∷ same_device (one (codes "buffer") ty.Buffer) ∷ []) eff.None false
row_of cmd.GetDeviceQueue = line cmd.GetDeviceQueue (codes "vkGetDeviceQueue") (one (codes "device") ty.Device ∷ []) (eff.Retrieve ty.Queue (of.Param 0) false) false
row_of cmd.GetEventStatus = line cmd.GetEventStatus (codes "vkGetEventStatus") (one (codes "device") ty.Device ∷ same_device (one (codes "event") ty.Event) ∷ []) eff.None true
row_of cmd.GetFenceStatus = line cmd.GetFenceStatus (codes "vkGetFenceStatus") (one (codes "device") ty.Device ∷ same_device (one (codes "fence") ty.Fence) ∷ []) eff.None true
row_of cmd.GetImageMemoryRequirements = line cmd.GetImageMemoryRequirements (codes "vkGetImageMemoryRequirements") (one (codes "device") ty.Device ∷ same_device (one (codes "image") ty.Image) ∷ []) eff.None false
row_of cmd.GetPhysicalDeviceFeatures = line cmd.GetPhysicalDeviceFeatures (codes "vkGetPhysicalDeviceFeatures") (one (codes "physicalDevice") ty.PhysicalDevice ∷ []) eff.None false
row_of cmd.GetPhysicalDeviceMemoryProperties = line cmd.GetPhysicalDeviceMemoryProperties (codes "vkGetPhysicalDeviceMemoryProperties") (one (codes "physicalDevice") ty.PhysicalDevice ∷ []) eff.None false
row_of cmd.GetPhysicalDeviceProperties = line cmd.GetPhysicalDeviceProperties (codes "vkGetPhysicalDeviceProperties") (one (codes "physicalDevice") ty.PhysicalDevice ∷ []) eff.None false
row_of cmd.GetPhysicalDeviceQueueFamilyProperties = line cmd.GetPhysicalDeviceQueueFamilyProperties (codes "vkGetPhysicalDeviceQueueFamilyProperties") (one (codes "physicalDevice") ty.PhysicalDevice ∷ []) eff.None false
row_of cmd.GetPhysicalDeviceSurfaceCapabilitiesKHR = line cmd.GetPhysicalDeviceSurfaceCapabilitiesKHR (codes "vkGetPhysicalDeviceSurfaceCapabilitiesKHR") (one (codes "physicalDevice") ty.PhysicalDevice ∷ one (codes "surface") ty.Surface ∷ []) eff.None true
row_of cmd.GetPhysicalDeviceSurfaceFormatsKHR = line cmd.GetPhysicalDeviceSurfaceFormatsKHR (codes "vkGetPhysicalDeviceSurfaceFormatsKHR") (one (codes "physicalDevice") ty.PhysicalDevice ∷ or_null (one (codes "surface") ty.Surface) ∷ []) eff.None true
row_of cmd.GetPhysicalDeviceSurfaceSupportKHR = line cmd.GetPhysicalDeviceSurfaceSupportKHR (codes "vkGetPhysicalDeviceSurfaceSupportKHR") (one (codes "physicalDevice") ty.PhysicalDevice ∷ one (codes "surface") ty.Surface ∷ []) eff.None true
row_of cmd.GetSwapchainImagesKHR = line cmd.GetSwapchainImagesKHR (codes "vkGetSwapchainImagesKHR") (one (codes "device") ty.Device ∷ same_device (one (codes "swapchain") ty.Swapchain) ∷ []) (eff.Retrieve ty.Image (of.Param 1) true) true
row_of cmd.MapMemory = line cmd.MapMemory (codes "vkMapMemory") (one (codes "device") ty.Device ∷ same_device (written (one (codes "memory") ty.DeviceMemory)) ∷ []) eff.None true
row_of cmd.QueuePresentKHR = line cmd.QueuePresentKHR (codes "vkQueuePresentKHR") (written (one (codes "queue") ty.Queue) ∷ same_device (written (many (codes "pWaitSemaphores") ty.Semaphore)) ∷ same_device (written (many (codes "pSwapchains") ty.Swapchain)) ∷ []) eff.None true
row_of cmd.QueueSubmit = line cmd.QueueSubmit (codes "vkQueueSubmit") (written (one (codes "queue") ty.Queue) ∷ same_device (many (codes "pWaitSemaphores") ty.Semaphore) ∷ same_device (many (codes "pCommandBuffers") ty.CommandBuffer) ∷ same_device (many (codes "pSignalSemaphores") ty.Semaphore) ∷ same_device (written (or_null (one (codes "fence") ty.Fence))) ∷ []) eff.None true
row_of cmd.QueueWaitIdle = line cmd.QueueWaitIdle (codes "vkQueueWaitIdle") (written (one (codes "queue") ty.Queue) ∷ []) eff.None true
row_of cmd.ResetCommandBuffer = line cmd.ResetCommandBuffer (codes "vkResetCommandBuffer") (with_pool (written (one (codes "commandBuffer") ty.CommandBuffer)) ∷ []) eff.None true
row_of cmd.ResetCommandPool = line cmd.ResetCommandPool (codes "vkResetCommandPool") (one (codes "device") ty.Device ∷ same_device (written (one (codes "commandPool") ty.CommandPool)) ∷ []) eff.None true
row_of cmd.ResetDescriptorPool = line cmd.ResetDescriptorPool (codes "vkResetDescriptorPool") (one (codes "device") ty.Device ∷ with_sets (same_device (written (one (codes "descriptorPool") ty.DescriptorPool))) ∷ []) (eff.Reset 1) true
row_of cmd.ResetEvent = line cmd.ResetEvent (codes "vkResetEvent") (one (codes "device") ty.Device ∷ same_device (written (one (codes "event") ty.Event)) ∷ []) eff.None true
row_of cmd.ResetFences = line cmd.ResetFences (codes "vkResetFences") (one (codes "device") ty.Device ∷ same_device (written (many (codes "pFences") ty.Fence)) ∷ []) eff.None true
row_of cmd.SetEvent = line cmd.SetEvent (codes "vkSetEvent") (one (codes "device") ty.Device ∷ same_device (written (one (codes "event") ty.Event)) ∷ []) eff.None true
row_of cmd.UnmapMemory = line cmd.UnmapMemory (codes "vkUnmapMemory") (one (codes "device") ty.Device ∷ same_device (written (one (codes "memory") ty.DeviceMemory)) ∷ []) eff.None false
row_of cmd.UpdateDescriptorSets = line cmd.UpdateDescriptorSets (codes "vkUpdateDescriptorSets") (one (codes "device") ty.Device ∷ same_device (written (many (codes "dstSet") ty.DescriptorSet)) ∷ same_device (or_null (many (codes "sampler") ty.Sampler)) ∷ same_device (or_null (many (codes "imageView") ty.ImageView)) ∷ same_device (or_null (many (codes "buffer") ty.Buffer)) ∷ same_device (or_null (many (codes "pTexelBufferView") ty.BufferView)) ∷ []) eff.None false
row_of cmd.WaitForFences = line cmd.WaitForFences (codes "vkWaitForFences") (one (codes "device") ty.Device ∷ same_device (many (codes "pFences") ty.Fence) ∷ []) eff.None true
