-- Which calls a generated trace makes. Source: this project; the numbers are those of Knuth's MMIX generator ("The Art of Computer Programming", volume 2,
-- section 3.3.4).
use Rattle.std.specs.Prelude.{ℕ, zero, suc, ◌+◌, ◌*◌, ◌^◌, ◌/◌, ◌%◌, ◌==◌, ◌||◌, if◌then◌else◌, List, [], ◌∷◌, ◌++◌, map, length, slice_index}
use Rattle.std.specs.List.{remove}
use Rattle.trace_gen.specs.declared.call.Call.{Call}
use Rattle.trace_gen.specs.declared.call.Call.TheVariants.{CreateInstance, EnumeratePhysicalDevices, CreateDevice, CreateBuffer, GetBufferMemoryRequirements, DestroyBuffer, DestroyDevice, DestroyInstance}

-- ---- numbers

-- the number behind a number, modulo 2 ^ 64
abbrev pub following : ℕ → ℕ
following x = (x * 6364136223846793005 + 1442695040888963407) % 2 ^ 64

-- what a turn draws: the upper 31 bits
abbrev pub drawn : ℕ → ℕ
drawn x = x / 2 ^ 33

-- ---- turns

-- between two turns: the number, the number of the next name, and the names of the living buffers in the order in which they were created
pub record Between : Type 0 where
  pub number : ℕ
  pub next : ℕ
  pub buffers : List ℕ

-- before the first turn
abbrev pub started : ℕ → Between
started number = record { number = number; next = 4; buffers = [] }

-- a turn: its call, and what stands behind it
pub record Turn : Type 0 where
  pub call : Call
  pub after : Between

-- a buffer is created
abbrev pub creates : Between → Turn
creates b = record { call = CreateBuffer b.next; after = record { number = b.number; next = b.next + 1; buffers = b.buffers ++ b.next ∷ [] } }

-- a living buffer is asked for its memory requirements
abbrev pub asks : Between → ℕ → Turn
asks b k = record { call = GetBufferMemoryRequirements (slice_index b.buffers k); after = b }

-- a living buffer is destroyed: those behind it move up
abbrev pub destroys : Between → ℕ → Turn
destroys b k = record { call = DestroyBuffer (slice_index b.buffers k); after = record { number = b.number; next = b.next; buffers = remove b.buffers k } }

-- the turn that r stands for: the remainder by 3 chooses among the three, and the quotient the buffer
abbrev pub turn_by : Between → ℕ → Turn
turn_by b r =
    if length b.buffers == 0 || (r % 3) == 0 then creates b
    else if (r % 3) == 1 then asks b ((r / 3) % length b.buffers)
    else destroys b ((r / 3) % length b.buffers)

-- the next turn
abbrev pub turn : Between → Turn
turn b = turn_by (record b { number = following b.number }) (drawn (following b.number))

-- ---- the calls

-- what ends a trace: each living buffer is destroyed, then the device and the instance
abbrev pub ending : List ℕ → List Call
ending buffers = map DestroyBuffer buffers ++ DestroyDevice ∷ DestroyInstance ∷ []

-- the calls of so many turns, and the end
abbrev pub turns : ℕ → Between → List Call
turns zero b = ending b.buffers
turns (suc n) b = (turn b).call ∷ turns n (turn b).after

-- all calls of a trace
abbrev pub calls_of : ℕ → ℕ → List Call
calls_of number count = CreateInstance ∷ EnumeratePhysicalDevices ∷ CreateDevice ∷ turns count (started number)
