-- What a step of a thread at a device's lock says and asks for. Source: this project.
use Rattle.std.specs.Prelude.{◌≡◌, ◌≤◌, ⊤, ℕ, Bool, true, false, Option, Some, None, List, [], ◌∷◌, ◌++◌, length, map, reverse, vec_capacity}
use Rattle.command_tables.specs.Calls.{DriverCallContent, ReplyContent}
use Rattle.command_tables.specs.Handles.{HasRoom}
use Rattle.command_tables.specs.declared.call.LayerCall.{LayerCall}
use Rattle.stream_log.specs.declared.line.Line.{Line}
use Rattle.stream_log.specs.Log.{SeenView}
use Rattle.trace_format.specs.Content.{Arg, BeginEvent, TraceEvent, Begin, Return}
use Rattle.model_driver.specs.Driver.{HasShape}
use Rattle.session_model.specs.Stands.{AreRepliesTo}
use Rattle.shard_model.specs.Followed.{next_event}
use Rattle.shard_model.specs.Replays.{Tells}
use Rattle.shard_room.specs.Needs.{names_at, names_in}
use Rattle.device_shard.specs.Shards.{ShardName}

-- ---- a begin

-- so it is of the begin that an event is, and it is one
abbrev pub OfBegin : (BeginEvent → Type 0) → TraceEvent → Type 0
OfBegin P (Begin b) = P b
OfBegin P (Return thread) = ⊥

-- a call with the arguments of a begin fits
pub record HasRoomForBegin (call : LayerCall) (b : BeginEvent) : Type 0 where
  pub handles : HasRoom call.args (length b.args) (names_in (names_at b))
  pub bytes : length b.payload ≤ vec_capacity call.payload

-- what a driver is told of a begin: nothing where the call is skipped
abbrev pub told_as : Option ℕ → DriverCallContent → List DriverCallContent
told_as None call = []
told_as (Some driver) call = call ∷ []

-- what is told of a begin is the begin in other handles, as many at each parameter, and has its command's shape
pub record IsToldOf (b : BeginEvent) (c : DriverCallContent) : Type 0 where
  pub cmd : c.cmd ≡ b.cmd
  pub code : c.code ≡ b.code
  pub bytes : c.payload ≡ b.payload
  pub asked : c.asked ≡ length b.results
  pub sizes : map (λ (hs : List ℕ). length hs) c.args ≡ map (λ (a : Arg). length a.names) b.args
  pub shape : HasShape c

-- and that is the driver that is told
abbrev pub IsDriverOf : Option ℕ → DriverCallContent → Type 0
IsDriverOf None call = ⊤
IsDriverOf (Some driver) call = driver ≡ call.driver

-- ---- a return

-- The last entry that a thread has seen is its own, of a begin that told this, as its step said; and where the call isn't skipped, this is a reply that its driver may give.
pub record IsReplied (n : ShardName) (seen : SeenView) (reply : ReplyContent) : Type 0 where
  pub before : List Line
  pub entry : Line
  pub ends : seen.list ≡ before ++ entry ∷ []
  pub own : entry.thread ≡ seen.thread
  pub begin : BeginEvent
  pub came : next_event n.plan.streams seen.thread (reverse before) ≡ Some (Begin begin)
  pub skip : Bool
  pub told : List DriverCallContent
  pub tells : Tells n.start n.plan.streams (reverse before) begin skip told
  pub answers : skip ≡ false → AreRepliesTo told (reply ∷ [])

-- the results that the entry of a return has: all handles of the reply, and none where the call was skipped
pub record AreResults (n : ShardName) (seen : SeenView) (reply : ReplyContent) (results : List ℕ) : Type 0 where
  pub sent : (before : List Line) (entry : Line) (begin : BeginEvent) (told : List DriverCallContent) → seen.list ≡ before ++ entry ∷ [] → entry.thread ≡ seen.thread → next_event n.plan.streams seen.thread (reverse before) ≡ Some (Begin begin)
      → Tells n.start n.plan.streams (reverse before) begin false told → results ≡ reply.handles
  pub skipped : (before : List Line) (entry : Line) (begin : BeginEvent) (told : List DriverCallContent) → seen.list ≡ before ++ entry ∷ [] → entry.thread ≡ seen.thread → next_event n.plan.streams seen.thread (reverse before) ≡ Some (Begin begin)
      → Tells n.start n.plan.streams (reverse before) begin true told → results ≡ []
