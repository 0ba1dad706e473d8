-- Room for the calls of a plan, so that none of them takes memory. Source: this project.
use Rattle.std.specs.Prelude.{◌≡◌, ◌≤◌, ◌<◌, ◌+◌, ◌*◌, ◌^◌, ◌==◌, ℕ, Bool, Some, List, length, slice_get, vec_capacity}
use Rattle.std.specs.List.{list_any}
use Rattle.command_tables.specs.Calls.{CallContent}
use Rattle.command_tables.specs.Handles.{HasRoom}
use Rattle.command_tables.specs.declared.call.LayerCall.{LayerCall}
use Rattle.trace_format.specs.Content.{BeginEvent}
use Rattle.terminator.specs.Calls.{drivers_for}
use Rattle.layer_model.specs.Walks.{PartState}
use Rattle.dispatch_chain.specs.Forms.{FormRoom}
use Rattle.dispatch_chain.specs.Holding.{HeldCalls}
use Rattle.dispatch_chain.specs.Room.{AllHaveBirths}
use Rattle.session_parts.specs.declared.parts.SessionParts.{SessionParts}
use Rattle.session_parts.specs.Names.{CanKeep}
use Rattle.session_parts.specs.Scratch.{ScratchRoom}
use Rattle.walk_bounds.specs.Bounds.{AllHaveUses, AllLight, HaveBorn, uses_together}
use Rattle.shard_room.specs.Needs.{Needs}

-- ---- what a thread keeps of its call

-- the first so many buffers have room for a call of these needs each
pub record HoldForms (n : Needs) (parts : ℕ) (rooms : List FormRoom) : Type 0 where
  pub count : parts ≤ length rooms
  pub each : (i : ℕ) (r : FormRoom) → i < parts → slice_get rooms i ≡ Some r → (6 ≤ r.slots) × ((n.args ≤ r.handles) × (n.bytes ≤ r.bytes))

-- there is room for the call, for what the parts hold of it, and for what is found
pub record HasCallRoom (n : Needs) (parts : ℕ) (call : LayerCall) (above : HeldCalls) (findings : ℕ) : Type 0 where
  pub handles : HasRoom call.args 6 n.args
  pub bytes : n.bytes ≤ vec_capacity call.payload
  pub held : HoldForms n parts above.rooms
  pub first : 1 ≤ findings
  pub found : parts * (3 * n.args) ≤ findings

-- ---- what the parts of a session keep

-- the first six lists have room for so many arguments each, and there is room for as many handles and for so many results of a call; there may be further lists with any room
pub record HasLists (wide many : ℕ) (room : ScratchRoom) : Type 0 where
  pub count : 6 ≤ length room.lists
  pub each : (i m : ℕ) → i < 6 → slice_get room.lists i ≡ Some m → wide ≤ m
  pub handles : wide ≤ room.handles
  pub results : many ≤ room.results

-- so many objects were born to each threads part, and with those that are due there are no more than were planned
pub record HaveDue (born due : ℕ) (states : List PartState) : Type 0 where
  pub so_far : ℕ
  pub have : HaveBorn so_far states
  pub few : so_far + due ≤ born

-- There is room for calls of these threads, each of these needs, with so many results that are due in all: in the lists that a call fills, among the names, in each part for births and uses, and at the
-- chain's end, where each result has the value of one driver. What is open in a part has no more uses than a call needs.
pub record HasPlanRoom (n : Needs) (threads : List ℕ) (due : ℕ) (x : SessionParts) : Type 0 where
  pub scratch : HasLists n.wide n.results x.names.room.scratch
  pub names : CanKeep due (due * n.bytes) x.names.room
  pub births : AllHaveBirths due x.states.rooms
  pub uses : AllHaveUses (uses_together threads n.uses) x.states.kept x.states.rooms
  pub light : AllLight n.uses threads x.states.kept
  pub born : HaveDue n.born due x.states.kept
  pub ids : due ≤ x.terminator.spare
  pub values : due ≤ x.terminator.values
  pub bytes : due * n.bytes ≤ x.terminator.bytes
  pub few : due < 2 ^ 32

-- ---- a call of one driver

-- a call below the last part is that of a begin: its command and payload are the begin's, and it goes to one driver
pub record IsBelow (b : BeginEvent) (call : CallContent) (x : SessionParts) : Type 0 where
  pub cmd : call.cmd ≡ b.cmd
  pub bytes : call.payload ≡ b.payload
  pub one : length (drivers_for x.terminator call) ≡ 1

-- one of these threads is this one
abbrev pub is_among : ℕ → List ℕ → Bool
is_among thread threads = list_any (λ t. thread == t) threads
