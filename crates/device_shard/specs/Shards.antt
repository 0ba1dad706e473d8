-- What the value behind a device's lock keeps, and what its type says of it. Source: this project.
use Rattle.std.specs.Prelude.{◌≡◌, ◌+◌, ◌-◌, ◌≤◌, ◌<◌, ◌^◌, ⊤, ℕ, zero, suc, true, false, Option, Some, None, List, [], ◌∷◌, ◌++◌, drop, find, length, map, reverse, slice_get, vec_capacity}
use Rattle.std.specs.List.{AllByRecursion, sum_by}
use Rattle.atomic_table.specs.Seated.{TableId}
use Rattle.command_tables.specs.Calls.{DriverCallContent, call_content}
use Rattle.dispatch_chain.specs.Seats.{kinds_of}
use Rattle.stream_log.specs.declared.line.Line.{Line}
use Rattle.stream_log.specs.Clock.{TickView}
use Rattle.stream_log.specs.Log.{OwnerView, last_time}
use Rattle.trace_format.specs.Content.{BeginEvent, TraceEvent, Begin, Return}
use Rattle.stream_model.specs.FileParts.{StreamPart}
use Rattle.stream_model.specs.Plans.{DevicePlan, turns_of}
use Rattle.session_parts.specs.declared.parts.SessionParts.{SessionParts}
use Rattle.shard_model.specs.Followed.{Follows, begins_in, next_event, turns_in}
use Rattle.shard_model.specs.Replays.{AreOfThreads, IsReplay, NoneOf, OpenStep, Start, Tells, is_step_of}
use Rattle.shard_room.specs.Needs.{IsWithinAt, Needs}
use Rattle.shard_room.specs.Room.{HasCallRoom, HasPlanRoom}
use Rattle.shard_start.specs.Starting.{CanStart, IsPassedOn}
use Rattle.device_shard.specs.declared.lane.Lane.{Lane}

-- ---- names

-- which log a shard has, which plan it follows, and what it starts from
pub record ShardName : Type 0 where
  pub log : TableId
  pub plan : DevicePlan
  pub start : Start

-- the name of no table
abbrev pub no_table : TableId
no_table = record { words = 0; slots = 0; views_name = 0; atom = 0; block = 0; offset = 0; slot_names = [] }

-- so it is for the shard with this number
abbrev pub OfShard : List ShardName → ℕ → (ShardName → Type 0) → Type 0
OfShard names k P = (n : ShardName) → slice_get names k ≡ Some n → P n

-- ---- streams beside what is kept of their threads

-- it is so of each stream with the lane of its thread: there is one for each
abbrev pub AllLanes : (StreamPart → Lane → Type 0) → List StreamPart → List Lane → Type 0
AllLanes P [] [] = ⊤
AllLanes P [] (l ∷ lanes) = ⊥
AllLanes P (s ∷ streams) [] = ⊥
AllLanes P (s ∷ streams) (l ∷ lanes) = P s l × AllLanes P streams lanes

-- what all of them come to together
abbrev pub sum_lanes : (StreamPart → Lane → ℕ) → List StreamPart → List Lane → ℕ
sum_lanes f [] lanes = 0
sum_lanes f (s ∷ streams) [] = 0
sum_lanes f (s ∷ streams) (l ∷ lanes) = f s l + sum_lanes f streams lanes

-- ---- what is to come

-- the last event that was made a step: none before the first
abbrev pub last_made : StreamPart → ℕ → Option TraceEvent
last_made s zero = None
last_made s (suc steps) = slice_get s.events steps

-- how many events a thread has still to make
abbrev pub to_come : StreamPart → Lane → ℕ
to_come s l = length s.events - l.steps

-- how many results an event may bring at its return
abbrev pub results_at : TraceEvent → ℕ
results_at (Begin b) = length b.results
results_at (Return thread) = 0

-- so for one that may be there
abbrev pub results_of : Option TraceEvent → ℕ
results_of None = 0
results_of (Some e) = results_at e

-- how many results the calls may bring that a thread has still to make, with that which is open
abbrev pub due_to : StreamPart → Lane → ℕ
due_to s l = sum_by results_at (drop l.steps s.events) + results_of (last_made s l.steps)

-- ---- an open call

-- an open call that was sent went on as that of this begin, to one driver, which was asked for its results
pub record IsSentFor (b : BeginEvent) (o : OpenStep) : Type 0 where
  pub one : length o.told ≡ 1
  pub asks : AllByRecursion (λ (c : DriverCallContent). c.asked ≡ length b.results) o.told
  pub passed : IsPassedOn b o.call

-- A thread's open call is that of this begin, the thread's last entry. The lane keeps it, and what its begin told is known by the log before it: nothing where it is
-- skipped.
pub record KeepsCall (start : Start) (streams : List StreamPart) (list : List Line) (opens : List OpenStep) (thread : ℕ) (l : Lane) (b : BeginEvent) : Type 0 where
  pub step : OpenStep
  pub found : find (is_step_of thread) opens ≡ Some step
  pub begins : step.begin ≡ b
  pub call : call_content l.call ≡ step.call
  pub held : l.held ≡ step.held
  pub skip : l.verdict.skip ≡ step.skip
  pub before : List Line
  pub entry : Line
  pub own : entry.thread ≡ thread
  pub later : List Line
  pub past : list ≡ (before ++ entry ∷ []) ++ later
  pub apart : turns_of thread (turns_in later) ≡ 0
  pub came : next_event streams thread (reverse before) ≡ Some (Begin b)
  pub tells : Tells start streams (reverse before) b step.skip step.told
  pub silent : step.skip ≡ true → step.told ≡ []
  pub sent : step.skip ≡ false → IsSentFor b step

-- the thread has an open call where its last event is a begin, and none else
abbrev pub KeepsLast : Start → List StreamPart → List Line → List OpenStep → ℕ → Lane → Option TraceEvent → Type 0
KeepsLast start streams list opens thread l None = NoneOf thread opens
KeepsLast start streams list opens thread l (Some (Return t)) = NoneOf thread opens
KeepsLast start streams list opens thread l (Some (Begin b)) = KeepsCall start streams list opens thread l b

-- a lane counts its thread's steps, which are events of the stream, and keeps the open call
pub record IsLane (start : Start) (streams : List StreamPart) (list : List Line) (opens : List OpenStep) (s : StreamPart) (l : Lane) : Type 0 where
  pub steps : l.steps ≡ turns_of s.thread (turns_in list)
  pub made : l.steps ≤ length s.events
  pub last : KeepsLast start streams list opens s.thread l (last_made s l.steps)

-- ---- what is kept

-- the owner of the log, the shard's tick, the parts, the lanes, the number of calls so far, for how many results of a call there is room, and the plan
pub record ShardKept : Type 0 where
  pub owner : OwnerView
  pub tick : TickView
  pub parts : SessionParts
  pub lanes : List Lane
  pub calls : ℕ
  pub results : ℕ
  pub plan : DevicePlan

-- the threads of streams
abbrev pub threads_of : List StreamPart → List ℕ
threads_of streams = map (λ (s : StreamPart). s.thread) streams

-- a lane has room for a call
abbrev pub LaneHasRoom : Needs → ℕ → Lane → Type 0
LaneHasRoom needs parts l = HasCallRoom needs parts l.call l.held (vec_capacity l.verdict.findings)

-- What is kept is that of the shard with this name: its log and its plan are the name's, its parts and open calls are the replay of the log from the name's start, its
-- tick is of this clock and has seen the log's last time. The log follows the plan, and there is room for all that is to come.
pub record IsShard (n : ShardName) (counts : TableId) (x : ShardKept) : Type 0 where
  pub log : x.owner.log ≡ n.log
  pub plan : x.plan ≡ n.plan
  pub starts : CanStart n.start n.plan.streams
  pub follows : Follows n.plan.streams (reverse x.owner.list)
  pub opens : List OpenStep
  pub apart : AreOfThreads opens
  pub lanes : AllLanes (IsLane n.start n.plan.streams x.owner.list opens) n.plan.streams x.lanes
  pub replay : IsReplay n.start n.plan.streams (reverse x.owner.list) x.parts opens
  pub calls : x.calls ≡ n.start.calls + begins_in (reverse x.owner.list)
  pub few : x.calls + sum_lanes to_come n.plan.streams x.lanes < 2 ^ 32
  pub kinds : kinds_of x.parts.states.kept ≡ kinds_of n.start.parts.states.kept
  pub clock : x.tick.clock ≡ counts
  pub seen : last_time x.owner.list ≤ x.tick.seen
  pub spent : x.tick.left ≡ 0
  pub entries : sum_lanes to_come n.plan.streams x.lanes ≤ x.owner.entries
  pub results : sum_lanes due_to n.plan.streams x.lanes ≤ x.owner.results
  pub needs : Needs
  pub within : AllByRecursion (λ (s : StreamPart). AllByRecursion (IsWithinAt needs) s.events) n.plan.streams
  pub room : HasPlanRoom needs (threads_of n.plan.streams) (sum_lanes due_to n.plan.streams x.lanes) x.parts
  pub lane_room : AllByRecursion (LaneHasRoom needs (length x.parts.states.kept)) x.lanes
  pub result_room : needs.results ≤ x.results
