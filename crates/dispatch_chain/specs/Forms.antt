-- For how much there is room among the calls that are held on a walk. Source: this project.
use Rattle.std.specs.Prelude.{◌≡◌, ℕ, ◌≤◌, ◌<◌, Some, List, length, slice_get, vec_capacity}
use Rattle.command_tables.specs.Calls.{CallContent}
use Rattle.command_tables.specs.Handles.{count_in}
use Rattle.command_tables.specs.declared.call.LayerCall.{LayerCall}

-- how many parameters, handles and payload bytes can be held in a buffer with no further memory
pub record FormRoom : Type 0 where
  pub slots : ℕ
  pub handles : ℕ
  pub bytes : ℕ

-- the room of a buffer
abbrev pub form_room : LayerCall → FormRoom
form_room c = record { slots = c.args.slots; handles = c.args.room; bytes = vec_capacity c.payload }

-- a call fits in it
pub record FitsForm (r : FormRoom) (c : CallContent) : Type 0 where
  pub slots : length c.args ≤ r.slots
  pub handles : count_in c.args ≤ r.handles
  pub bytes : length c.payload ≤ r.bytes

-- no room is lost
pub record KeepsForm (old new : FormRoom) : Type 0 where
  pub slots : old.slots ≤ new.slots
  pub handles : old.handles ≤ new.handles
  pub bytes : old.bytes ≤ new.bytes

-- in none of the buffers
pub record KeepsForms (old new : List FormRoom) : Type 0 where
  pub count : length old ≤ length new
  pub each : (i : ℕ) (q r : FormRoom) → slice_get old i ≡ Some q → slice_get new i ≡ Some r → KeepsForm q r

-- so many calls of this size can be held, from the first buffer on
pub record CanHold (rooms : List FormRoom) (n : ℕ) (c : CallContent) : Type 0 where
  pub count : n ≤ length rooms
  pub each : (i : ℕ) (r : FormRoom) → i < n → slice_get rooms i ≡ Some r → FitsForm r c

-- so many buffers, each with so much room
pub record AreForms (rooms : List FormRoom) (parts handles bytes : ℕ) : Type 0 where
  pub count : parts ≤ length rooms
  pub each : (i : ℕ) (r : FormRoom) → slice_get rooms i ≡ Some r → (6 ≤ r.slots) × ((handles ≤ r.handles) × (bytes ≤ r.bytes))

-- a call takes as much room as another
pub record IsAsLarge (c d : CallContent) : Type 0 where
  pub slots : length c.args ≡ length d.args
  pub handles : count_in c.args ≡ count_in d.args
  pub bytes : length c.payload ≡ length d.payload
