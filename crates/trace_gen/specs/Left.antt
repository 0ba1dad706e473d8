-- What a generator has still to give. Source: this project.
use Rattle.std.specs.Prelude.{ℕ, List, [], ◌∷◌, drop}
use Rattle.trace_gen.specs.declared.call.Call.{Call}
use Rattle.trace_gen.specs.declared.call.Call.TheVariants.{CreateInstance, EnumeratePhysicalDevices, CreateDevice, DestroyInstance}
use Rattle.trace_gen.specs.declared.turns.Stage.{Stage}
use Rattle.trace_gen.specs.declared.turns.Stage.TheVariants as stage
use Rattle.trace_gen.specs.declared.turns.Generator.{Generator}
use Rattle.trace_gen.specs.Turns.{Between, ending, turns}

-- where it stands between two turns
abbrev pub between : Generator → Between
between g = record { number = g.number; next = g.next; buffers = g.buffers.items }

-- the calls to come from a stage on, before so many turns
abbrev pub left_from : Stage → ℕ → Between → List Call
left_from stage.Instance n b = CreateInstance ∷ EnumeratePhysicalDevices ∷ CreateDevice ∷ turns n b
left_from stage.PhysicalDevice n b = EnumeratePhysicalDevices ∷ CreateDevice ∷ turns n b
left_from stage.Device n b = CreateDevice ∷ turns n b
left_from stage.Turns n b = turns n b
left_from (stage.Buffers ended) n b = ending (drop ended b.buffers)
left_from stage.InstanceEnd n b = DestroyInstance ∷ []
left_from stage.Done n b = []

-- the calls to come
abbrev pub calls_left : Generator → List Call
calls_left g = left_from g.stage g.turns (between g)
