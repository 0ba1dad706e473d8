-- A small history: an instance, its physical device, a device, and on that a buffer and a descriptor pool with one set; and two drivers' answers. Source: this project.
use Rattle.std.specs.Prelude.{ℕ, List, [], ◌∷◌, map}
use Rattle.command_tables.specs.declared.types.CommandId.{CommandId}
use Rattle.command_tables.specs.declared.types.CommandId.TheVariants as cmd
use Rattle.command_tables.specs.declared.types.ObjectType.TheVariants as ty
use Rattle.object_model.specs.declared.Object.{Object}
use Rattle.object_model.specs.declared.Argument.TheVariants.{The}
use Rattle.object_model.specs.History.{Call, Returns, History}
use Rattle.object_model.specs.Values.{Answered}

-- the instance
abbrev pub instance : Object
instance = record { ty = ty.Instance; number = 1 }

-- the physical device
abbrev pub physical_device : Object
physical_device = record { ty = ty.PhysicalDevice; number = 2 }

-- the device
abbrev pub device : Object
device = record { ty = ty.Device; number = 3 }

-- the buffer
abbrev pub buffer : Object
buffer = record { ty = ty.Buffer; number = 4 }

-- the descriptor pool
abbrev pub pool : Object
pool = record { ty = ty.DescriptorPool; number = 5 }

-- its set
abbrev pub set : Object
set = record { ty = ty.DescriptorSet; number = 6 }

-- a call with one object at each parameter
abbrev pub call : ℕ → ℕ → CommandId → List Object → Call
call number thread c objects = record { number = number; thread = thread; cmd = c; args = map (λ o. The o ∷ []) objects }

-- how they were made, the newest first
abbrev pub sample : History
sample =
    Returns (call 6 1 cmd.AllocateDescriptorSets (device ∷ pool ∷ [])) (set ∷ []) ∷ Returns (call 5 1 cmd.CreateDescriptorPool (device ∷ [])) (pool ∷ [])
    ∷ Returns (call 4 1 cmd.CreateBuffer (device ∷ [])) (buffer ∷ []) ∷ Returns (call 3 1 cmd.CreateDevice (physical_device ∷ [])) (device ∷ [])
    ∷ Returns (call 2 1 cmd.EnumeratePhysicalDevices (instance ∷ [])) (physical_device ∷ []) ∷ Returns (call 1 1 cmd.CreateInstance []) (instance ∷ []) ∷ []

-- all of them
abbrev pub all : List Object
all = instance ∷ physical_device ∷ device ∷ buffer ∷ pool ∷ set ∷ []

-- what two drivers answered
abbrev pub answers : List Answered
answers = record { driver = 0; handles = 7 ∷ [] } ∷ record { driver = 1; handles = 8 ∷ [] } ∷ []
