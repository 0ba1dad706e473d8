-- A slot is that of its type.
use Rattle.std.proofs.Common.{◌≡◌, refl, ap}
use Rattle.session_tables.specs.declared.filed_type.TypeSlot.{TypeSlot}
use Rattle.session_tables.specs.declared.filed_type.TypeSlot.TheVariants as slot
use Rattle.session_tables.specs.declared.filed_type.FiledType.TheInside.{Inside}
use Rattle.session_tables.specs.TypeSlots.{slot_for, type_in_slot}

back : (s : TypeSlot) → slot_for (type_in_slot s) ≡ s
back slot.Nothing = refl
back slot.Instance = refl
back slot.PhysicalDevice = refl
back slot.Device = refl
back slot.Queue = refl
back slot.CommandBuffer = refl
back slot.Semaphore = refl
back slot.Fence = refl
back slot.DeviceMemory = refl
back slot.Buffer = refl
back slot.Image = refl
back slot.Event = refl
back slot.BufferView = refl
back slot.ImageView = refl
back slot.ShaderModule = refl
back slot.PipelineCache = refl
back slot.PipelineLayout = refl
back slot.RenderPass = refl
back slot.Pipeline = refl
back slot.DescriptorSetLayout = refl
back slot.Sampler = refl
back slot.DescriptorPool = refl
back slot.DescriptorSet = refl
back slot.Framebuffer = refl
back slot.CommandPool = refl
back slot.Surface = refl
back slot.Swapchain = refl

pub slot_back : (t : Inside) → record { slot = slot_for (type_in_slot t.slot) } ≡ t
slot_back t = ap (λ (s : TypeSlot). record { slot = s }) (back t.slot)
