-- Small traces as they are written, what they print, and what they tell drivers. Source: this project.
use Rattle.std.specs.Prelude.{ℕ, Bool, Result, Ok, Err, Some, None, List, [], ◌∷◌, ◌++◌, map, reverse, codes}
use Rattle.std.specs.List.{flat_map}
use Rattle.command_tables.specs.declared.types.CommandId.{CommandId}
use Rattle.command_tables.specs.declared.types.Code.TheVariants as code
use Rattle.command_tables.specs.Calls.{DriverCallContent, ReplyContent}
use Rattle.trace_format.specs.declared.fault.TraceFault.{TraceFault}
use Rattle.trace_format.specs.Content.{TraceEvent, Begin, Return}
use Rattle.trace_format.specs.Reading.{read_line}
use Rattle.object_model.specs.History.{Begins, Returns, History}
use Rattle.replay_model.specs.Setup.{Setup}
use Rattle.replay_model.specs.Judged.{judged}
use Rattle.replay_model.specs.Text.{text, end_of}
use Rattle.replay_model.specs.Direct.{direct}

-- the event that a line spells
abbrev pub spelled : Result TraceEvent TraceFault → List TraceEvent
spelled (Ok e) = e ∷ []
spelled (Err fault) = []

-- the event that a line spells, and if it is a begin the return of its thread
abbrev pub spelled_call : Result TraceEvent TraceFault → List TraceEvent
spelled_call (Ok (Begin e)) = Begin e ∷ Return e.thread ∷ []
spelled_call (Ok (Return thread)) = Return thread ∷ []
spelled_call (Err fault) = []

-- the events that these lines spell
abbrev pub events : List (List ℕ) → List TraceEvent
events lines = flat_map (λ line. spelled (read_line line)) lines

-- the calls that these begin lines spell, each of which returns at once
abbrev pub calls : List (List ℕ) → List TraceEvent
calls lines = flat_map (λ line. spelled_call (read_line line)) lines

-- an instance, its physical device and a device
abbrev pub started : List TraceEvent
started = calls (
    codes "b 1 vkCreateInstance = %1.1 VK_SUCCESS" ∷ codes "b 1 vkEnumeratePhysicalDevices %1.1 = %1.2 VK_SUCCESS" ∷ codes "b 1 vkCreateDevice %1.2 = %1.3 VK_SUCCESS" ∷ []
    )

-- lines, each with its LF
abbrev pub said : List (List ℕ) → List ℕ
said lines = flat_map (λ line. line ++ codes "\n") lines

-- the text of a trace with its last line
abbrev pub told : Setup → List TraceEvent → List ℕ
told s trace = let past = judged s (reverse trace) in text s past ++ end_of past

-- replies with these handles, in the order of the driver calls
abbrev pub replies : List (List ℕ) → List ReplyContent
replies handles = map (λ hs. record { code = None; handles = hs }) handles

-- the driver calls of a trace, where drivers answer these handles
abbrev pub asked : Setup → List TraceEvent → List (List ℕ) → List DriverCallContent
asked s trace handles = direct (judged s (reverse trace)) (reverse (replies handles))

-- one handle at each parameter
abbrev pub each : List ℕ → List (List ℕ)
each handles = map (λ h. h ∷ []) handles

-- a driver call as its driver and its handles
abbrev pub driver_and_args : DriverCallContent → ℕ × List (List ℕ)
driver_and_args c = (c.driver, c.args)

-- a driver call that is to answer success: the driver, the command, the handles, how many are asked for, and the payload
abbrev pub driver_call : ℕ → CommandId → List (List ℕ) → ℕ → List ℕ → DriverCallContent
driver_call driver c args count payload = record { driver = driver; cmd = c; args = args; asked = count; code = Some code.Success; payload = payload }

-- for each begin that a place was given, whether the place itself skips the call, the newest first
abbrev pub skips : History → List Bool
skips [] = []
skips (Begins call skipped ∷ past) = skipped ∷ skips past
skips (Returns call made ∷ past) = skips past

-- ---- traces of which more than one thing is asked

-- two buffers, one of which is destroyed and the other bound to memory
abbrev pub buffers_and_memory : List TraceEvent
buffers_and_memory = started ++ calls (
    codes "b 1 vkCreateBuffer %1.3 = %1.4 VK_SUCCESS"
    ∷ codes "b 1 vkCreateBuffer %1.3 = %1.5 VK_SUCCESS"
    ∷ codes "b 1 vkAllocateMemory %1.3 = %1.6 VK_SUCCESS"
    ∷ codes "b 1 vkDestroyBuffer %1.3 %1.4 void"
    ∷ codes "b 1 vkBindBufferMemory %1.3 %1.5 %1.6 VK_SUCCESS"
    ∷ []
    )

-- a buffer that is destroyed
abbrev pub buffer_destroyed : List TraceEvent
buffer_destroyed = started ++ calls (codes "b 1 vkCreateBuffer %1.3 = %1.4 VK_SUCCESS" ∷ codes "b 1 vkDestroyBuffer %1.3 %1.4 void" ∷ [])

-- and destroyed again
abbrev pub buffer_destroyed_twice : List TraceEvent
buffer_destroyed_twice = buffer_destroyed ++ calls (codes "b 1 vkDestroyBuffer %1.3 %1.4 void" ∷ [])

-- a device that is destroyed before its image, and again behind it
abbrev pub device_before_its_image : List TraceEvent
device_before_its_image = started ++ calls (
    codes "b 1 vkCreateImage %1.3 = %1.4 VK_SUCCESS"
    ∷ codes "b 1 vkDestroyDevice %1.3 void"
    ∷ codes "b 1 vkDestroyImage %1.3 %1.4 void"
    ∷ codes "b 1 vkDestroyDevice %1.3 void"
    ∷ []
    )

-- submits to a queue by its two names, at once
abbrev pub submits_by_two_names : List TraceEvent
submits_by_two_names =
    started ++ calls (codes "b 1 vkGetDeviceQueue %1.3 = %1.4 void : 0,0" ∷ codes "b 1 vkGetDeviceQueue %1.3 = %1.5 void : 0,0" ∷ []) ++ events (
    codes "b 1 vkQueueSubmit %1.4 [] [] [] null VK_SUCCESS"
    ∷ codes "b 2 vkQueueSubmit %1.5 [] [] [] null VK_SUCCESS"
    ∷ codes "r 1"
    ∷ codes "r 2"
    ∷ []
    )

-- a submit with a destroyed fence, and one with no fence
abbrev pub destroyed_fence_submitted : List TraceEvent
destroyed_fence_submitted = started ++ calls (
    codes "b 1 vkGetDeviceQueue %1.3 = %1.4 void : 0,0"
    ∷ codes "b 1 vkCreateFence %1.3 = %1.5 VK_SUCCESS"
    ∷ codes "b 1 vkDestroyFence %1.3 %1.5 void"
    ∷ codes "b 1 vkQueueSubmit %1.4 [] [] [] %1.5 VK_SUCCESS"
    ∷ codes "b 1 vkQueueSubmit %1.4 [] [] [] null VK_SUCCESS"
    ∷ []
    )

-- a command pool that is destroyed while a command buffer of it is made, which is recorded then
abbrev pub pool_destroyed_while_it_allocates : List TraceEvent
pool_destroyed_while_it_allocates =
    started ++ calls (codes "b 1 vkCreateCommandPool %1.3 = %1.4 VK_SUCCESS" ∷ []) ++ events (
    codes "b 1 vkAllocateCommandBuffers %1.3 %1.4 = %1.5 VK_SUCCESS"
    ∷ codes "b 2 vkDestroyCommandPool %1.3 %1.4 void"
    ∷ codes "r 2"
    ∷ codes "r 1"
    ∷ []
    ) ++ calls (codes "b 1 vkBeginCommandBuffer %1.5 VK_SUCCESS" ∷ [])

-- two command buffers of one pool that are recorded at once
abbrev pub two_buffers_recorded : List TraceEvent
two_buffers_recorded =
    started
    ++ calls (codes "b 1 vkCreateCommandPool %1.3 = %1.4 VK_SUCCESS" ∷ codes "b 1 vkAllocateCommandBuffers %1.3 %1.4 = %1.5,%1.6 VK_SUCCESS" ∷ [])
    ++ events (codes "b 1 vkBeginCommandBuffer %1.5 VK_SUCCESS" ∷ codes "b 2 vkBeginCommandBuffer %1.6 VK_SUCCESS" ∷ codes "r 1" ∷ codes "r 2" ∷ [])

-- a command buffer that is recorded, submitted and waited for, and all destroyed in order
abbrev pub dispatch : List TraceEvent
dispatch = started ++ calls (
    codes "b 1 vkGetDeviceQueue %1.3 = %1.4 void : 0,0"
    ∷ codes "b 1 vkCreateCommandPool %1.3 = %1.5 VK_SUCCESS"
    ∷ codes "b 1 vkAllocateCommandBuffers %1.3 %1.5 = %1.6 VK_SUCCESS"
    ∷ codes "b 1 vkCreateFence %1.3 = %1.7 VK_SUCCESS"
    ∷ codes "b 1 vkBeginCommandBuffer %1.6 VK_SUCCESS"
    ∷ codes "b 1 vkCmdDispatch %1.6 void"
    ∷ codes "b 1 vkEndCommandBuffer %1.6 VK_SUCCESS"
    ∷ codes "b 1 vkQueueSubmit %1.4 [] [%1.6] [] %1.7 VK_SUCCESS"
    ∷ codes "b 1 vkWaitForFences %1.3 [%1.7] VK_SUCCESS"
    ∷ codes "b 1 vkDestroyFence %1.3 %1.7 void"
    ∷ codes "b 1 vkDestroyCommandPool %1.3 %1.5 void"
    ∷ codes "b 1 vkDestroyDevice %1.3 void"
    ∷ codes "b 1 vkDestroyInstance %1.1 void"
    ∷ []
    )

-- a buffer that is destroyed through another device than its own
abbrev pub buffer_of_another_device : List TraceEvent
buffer_of_another_device = started ++ calls (
    codes "b 1 vkCreateDevice %1.2 = %1.4 VK_SUCCESS" ∷ codes "b 1 vkCreateBuffer %1.3 = %1.5 VK_SUCCESS" ∷ codes "b 1 vkDestroyBuffer %1.4 %1.5 void" ∷ []
    )

-- an instance and one name for a physical device
abbrev pub instance_and_device : List TraceEvent
instance_and_device = calls (codes "b 1 vkCreateInstance = %1.1 VK_SUCCESS" ∷ codes "b 1 vkEnumeratePhysicalDevices %1.1 = %1.2 VK_SUCCESS" ∷ [])

-- a trace of these lines, behind its header
abbrev pub headed : List (List ℕ) → List ℕ
headed lines = said (codes "vktrace 1" ∷ lines)

-- an instance, its physical device and a device, up to the begin of the device's creation
abbrev pub started_lines : List (List ℕ)
started_lines =
    codes "b 1 vkCreateInstance = %1.1 VK_SUCCESS" ∷ codes "r 1" ∷ codes "b 1 vkEnumeratePhysicalDevices %1.1 = %1.2 VK_SUCCESS" ∷ codes "r 1" ∷ codes "b 1 vkCreateDevice %1.2 = %1.3 VK_SUCCESS" ∷ []
