-- Small rows of what seats answer, take and keep, derived by hand. Source: this project; the handles of vkCreateBuffer and
-- vkDestroyBuffer are of the Vulkan 1.3 specification, chapter "Resource Creation".
use Rattle.std.specs.Prelude.{◌≡◌, ℕ, List, [], ◌∷◌, Some, None}
use Rattle.command_tables.specs.Calls.{DriverCallContent}
use Rattle.command_tables.specs.declared.types.CommandId.TheVariants as cmd
use Rattle.command_tables.specs.declared.types.Code.TheVariants as code
use Rattle.model_driver.specs.declared.driver.Policy.{Policy}
use Rattle.model_driver.specs.declared.driver.Policy.TheVariants as policy
use Rattle.model_driver.specs.GivenValues.{SeatState, handles_at_seat, seat_after}
use Rattle.model_driver.specs.Flat.{cut_at, exchanges_of}
use Rattle.model_driver.specs.Seats.{room_for}

-- a buffer is made on the device 9 by a driver, and the buffer of this handle is destroyed
abbrev pub create : ℕ → DriverCallContent
create driver = record { driver = driver; cmd = cmd.CreateBuffer; args = (9 ∷ []) ∷ []; asked = 1; code = Some code.Success; payload = 3 ∷ 4 ∷ [] }

abbrev pub destroy : ℕ → ℕ → DriverCallContent
destroy driver buffer = record { driver = driver; cmd = cmd.DestroyBuffer; args = (9 ∷ []) ∷ (buffer ∷ []) ∷ []; asked = 0; code = None; payload = [] }

-- what calls at a seat are answered, one after another
abbrev pub answers : SeatState → List DriverCallContent → List (List ℕ)
answers s [] = []
answers s (c ∷ calls) = handles_at_seat s c ∷ answers (seat_after s c) calls

abbrev pub new_seat : Policy → SeatState
new_seat p = record { policy = p; back = []; left = 9 }

-- a seat counts over all drivers, and by `Reuse` a value comes back by a destroy at any of them
abbrev pub AnswersInTurn : Type 0
AnswersInTurn =
    (answers (new_seat policy.Fresh) (create 0 ∷ create 1 ∷ destroy 0 1 ∷ create 0 ∷ []) ≡ (1 ∷ []) ∷ (2 ∷ []) ∷ [] ∷ (3 ∷ []) ∷ [])
    × (answers (new_seat policy.Reuse) (create 0 ∷ create 1 ∷ destroy 1 1 ∷ create 0 ∷ create 0 ∷ []) ≡ (1 ∷ []) ∷ (2 ∷ []) ∷ [] ∷ (1 ∷ []) ∷ (3 ∷ []) ∷ [])
    × (answers (new_seat policy.Share) (create 0 ∷ create 1 ∷ []) ≡ (1 ∷ []) ∷ (1 ∷ []) ∷ [])

-- a create takes room for its device and its buffer, a destroy for its two arguments; of one that fails no handle is due
abbrev pub TakesRoom : Type 0
TakesRoom =
    (room_for (create 0) ≡ record { calls = 1; handles = 2; bytes = 2 })
    × (room_for (destroy 0 1) ≡ record { calls = 1; handles = 2; bytes = 0 })
    × (room_for (record (create 0) { code = Some code.ErrorOutOfDeviceMemory }) ≡ record { calls = 1; handles = 1; bytes = 2 })

abbrev pub CutsLists : Type 0
CutsLists = cut_at {A = ℕ} 0 (2 ∷ 2 ∷ 5 ∷ []) (7 ∷ 8 ∷ 9 ∷ 10 ∷ 11 ∷ []) ≡ (7 ∷ 8 ∷ []) ∷ [] ∷ (9 ∷ 10 ∷ 11 ∷ []) ∷ []

-- the create and a destroy of what it gave, in flat lists
abbrev pub KeepsCalls : Type 0
KeepsCalls =
    exchanges_of
    (record { driver = 1; cmd = cmd.CreateBuffer; params = 1; asked = 1; code = Some code.Success } ∷ record { driver = 0; cmd = cmd.DestroyBuffer; params = 2; asked = 0; code = None } ∷ [])
    ((9 ∷ []) ∷ (5 ∷ []) ∷ (9 ∷ []) ∷ (5 ∷ []) ∷ [] ∷ [])
    ((3 ∷ 4 ∷ []) ∷ [] ∷ [])
    ≡ (create 1, record { code = Some code.Success; handles = 5 ∷ [] }) ∷ (destroy 0 5, record { code = None; handles = [] }) ∷ []
