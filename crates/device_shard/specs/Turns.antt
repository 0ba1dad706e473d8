-- A step of what is kept behind a device's lock, before it is made and behind it. Source: this project.
use Rattle.std.specs.Prelude.{◌≡◌, ◌+◌, ◌<◌, ◌≤◌, ◌^◌, ℕ, Bool, true, false, if◌then◌else◌, Some, List, [], length, slice_get, slice_set, vec_capacity}
use Rattle.command_tables.specs.Calls.{ReplyContent, call_content}
use Rattle.command_tables.specs.declared.call.LayerCall.{LayerCall}
use Rattle.dispatch_chain.specs.Seats.{kinds_of}
use Rattle.stream_log.specs.declared.line.Line.{Line}
use Rattle.stream_log.specs.Log.{OwnerView, appended, given, line, taken}
use Rattle.trace_format.specs.Content.{BeginEvent, TraceEvent, Begin}
use Rattle.stream_model.specs.FileParts.{StreamPart}
use Rattle.session_parts.specs.declared.parts.SessionParts.{SessionParts}
use Rattle.session_parts.specs.Entering.{CanEnter, Enters}
use Rattle.session_parts.specs.Leaving.{CanLeave, Leaves}
use Rattle.session_parts.specs.Room.{HasRoomToEnter, HasRoomToLeave, LosesNoRoom, TakesResultsWith}
use Rattle.shard_model.specs.Followed.{next_event}
use Rattle.device_shard.specs.declared.lane.Lane.{Lane}
use Rattle.device_shard.specs.Lanes.{EntersOne, replies_read}
use Rattle.device_shard.specs.Shards.{ShardKept, ShardName}
use Rattle.device_shard.specs.Steps.{HasRoomForBegin}

-- ---- which step

-- the event comes next for a thread, whose stream has this place in the plan
pub record IsNextAt (n : ShardName) (list : List Line) (thread : ℕ) (e : TraceEvent) (i : ℕ) (s : StreamPart) : Type 0 where
  pub here : slice_get n.plan.streams i ≡ Some s
  pub own : s.thread ≡ thread
  pub next : next_event n.plan.streams thread list ≡ Some e

-- the owner when it has taken a thread's token, added an entry of the thread and given the token anew
abbrev pub stepped : OwnerView → Line → OwnerView
stepped o e = given (appended (taken o e.thread) e) e.thread

-- ---- a begin

-- a begin may enter at the lane of its thread, and there is room for it
pub record CanBegin (x : ShardKept) (b : BeginEvent) (i : ℕ) (l : Lane) : Type 0 where
  pub at : slice_get x.lanes i ≡ Some l
  pub steps : l.steps < 2 ^ 32
  pub can : CanEnter x.parts (x.calls + 1) b
  pub room : HasRoomToEnter x.parts (x.calls + 1) b l.call l.held (vec_capacity l.verdict.findings)
  pub one : (body : LayerCall) → HasRoomForBegin body b → EntersOne x.parts (x.calls + 1) (Begin b) body
  pub entries : 0 < x.owner.entries
  pub calls : x.calls + 1 < 2 ^ 32

-- it has entered there
pub record HasBegun (x : ShardKept) (b : BeginEvent) (i : ℕ) (l new : Lane) (y : SessionParts) : Type 0 where
  pub at : slice_get x.lanes i ≡ Some l
  pub enters : Enters x.parts (x.calls + 1) b (call_content new.call) new.held new.verdict y
  pub room : LosesNoRoom x.parts l.call l.held l.verdict y new.call new.held new.verdict
  pub kinds : kinds_of y.states.kept ≡ kinds_of x.parts.states.kept
  pub steps : new.steps ≡ l.steps + 1

-- what is kept then
abbrev pub begun_then : ShardKept → BeginEvent → ℕ → Lane → SessionParts → ℕ → ShardKept
begun_then x b i new y time =
    record { owner = stepped x.owner (line b.thread time true []); tick = record { clock = x.tick.clock; left = 0; seen = time }; parts = y; lanes = slice_set x.lanes i new; calls = x.calls + 1; results = x.results; plan = x.plan }

-- ---- a return

-- the open call of a thread, which is that of this begin in its stream, may leave with a reply, and there is room for it
pub record CanReturn (x : ShardKept) (s : StreamPart) (i : ℕ) (l : Lane) (b : BeginEvent) (reply : ReplyContent) : Type 0 where
  pub at : slice_get x.lanes i ≡ Some l
  pub steps : l.steps < 2 ^ 32
  pub place : ℕ
  pub made : l.steps ≡ place + 1
  pub begin : slice_get s.events place ≡ Some (Begin b)
  pub can : CanLeave x.parts b (call_content l.call) l.held l.verdict.skip (replies_read l.verdict.skip reply)
  pub room : HasRoomToLeave x.parts b (call_content l.call) l.verdict.skip x.results
  pub entries : 0 < x.owner.entries
  pub results : l.verdict.skip ≡ false → length reply.handles ≤ x.owner.results

-- it has left
pub record HasReturned (x : ShardKept) (b : BeginEvent) (i : ℕ) (l : Lane) (y : SessionParts) (reply : ReplyContent) (count : ℕ) : Type 0 where
  pub at : slice_get x.lanes i ≡ Some l
  pub leaves : Leaves x.parts b (call_content l.call) l.held l.verdict.skip (replies_read l.verdict.skip reply) y count
  pub takes : TakesResultsWith x.parts b (call_content l.call) l.verdict.skip y
  pub kinds : kinds_of y.states.kept ≡ kinds_of x.parts.states.kept

-- the results that its entry has
abbrev pub results_read : Bool → ReplyContent → List ℕ
results_read skip reply = if skip then [] else reply.handles

-- what is kept then, where results of so many have room
abbrev pub returned_then : ShardKept → ℕ → ℕ → Lane → SessionParts → ReplyContent → ℕ → ℕ → ShardKept
returned_then x thread i l y reply time results =
    record {
      owner = stepped x.owner (line thread time false (results_read l.verdict.skip reply));
      tick = record { clock = x.tick.clock; left = 0; seen = time };
      parts = y;
      lanes = slice_set x.lanes i (record l { steps = l.steps + 1 });
      calls = x.calls;
      results = results;
      plan = x.plan;
    }
