-- What a worker begins with, and what it has done. Source: this project.
use Rattle.std.specs.Prelude.{◌≡◌, ◌+◌, ◌-◌, ◌≤◌, ℕ, not, List, [], ◌∷◌, ◌++◌, length, map, slice_get, vec_capacity, vec_len}
use Rattle.std.specs.List.{AllByRecursion, flat_map}
use Rattle.std.specs.Option.{option_map_or}
use Rattle.atomic_table.specs.Seated.{TableId}
use Rattle.dispatch_chain.specs.Seats.{kinds_of}
use Rattle.object_model.specs.declared.PartKind.{PartKind}
use Rattle.model_driver.specs.declared.driver.DriverCall.{DriverCall}
use Rattle.model_driver.specs.declared.driver.DriverReply.{DriverReply}
use Rattle.model_driver.specs.Logs.{Log, logged}
use Rattle.model_driver.specs.Seats.{FitsIn, SeatRoom, joined_room}
use Rattle.trace_format.specs.Content.{BeginEvent}
use Rattle.stream_model.specs.FileParts.{StreamPart}
use Rattle.stream_model.specs.Plans.{DevicePlan, events_planned}
use Rattle.shard_room.specs.Needs.{names_at, names_in}
use Rattle.shard_start.specs.Starting.{CanStart}
use Rattle.device_shard.specs.Shards.{ShardName}
use Rattle.device_shard.specs.Steps.{HasRoomForBegin}
use Rattle.stream_workers.specs.declared.worker.Worker.{Worker}
use Rattle.merge_model.specs.Planned.{PlannedCall}
use Rattle.stream_workers.specs.Calls.{IsMade, MadeCall, RiseBetween, exchange_made, planned_of}
use Rattle.stream_workers.specs.Held.{HaveGained, HaveGrown, Holds, StandsAt}

-- ---- all workers together

-- the shards, their clock, and the plans that workers are handed
pub record Course : Type 0 where
  pub names : List ShardName
  pub clock : TableId
  pub plans : List DevicePlan

-- of these
abbrev pub course : List ShardName → TableId → List DevicePlan → Course
course names clock plans = record { names = names; clock = clock; plans = plans }

-- the plans are those of the shards, and each can be followed from its start
pub record IsCourse (c : Course) : Type 0 where
  pub plans : c.plans ≡ map (λ (n : ShardName). n.plan) c.names
  pub starts : AllByRecursion (λ (n : ShardName). CanStart n.start n.plan.streams) c.names

-- a table has the rows of the parts from which each shard starts
abbrev pub AreRowsOf : List PartKind → List ShardName → Type 0
AreRowsOf rows names = AllByRecursion (λ (n : ShardName). rows ≡ kinds_of n.start.parts.states.kept) names

-- in each plan the stream with this number is the thread's
abbrev pub OwnsStream : List ShardName → ℕ → ℕ → Type 0
OwnsStream names thread number = AllByRecursion (λ (n : ShardName). option_map_or (λ (s : StreamPart). s.events) (slice_get n.plan.streams number) [] ≡ events_planned n.plan.streams thread) names

-- ---- room

-- what a begin's call takes of a seat's room: its arguments and its results, and its payload
abbrev pub needs_of_begin : BeginEvent → SeatRoom
needs_of_begin b = record { calls = 1; handles = names_in (names_at b) + length b.results; bytes = length b.payload }

-- what these calls take together
abbrev pub needs_of_calls : List PlannedCall → SeatRoom
needs_of_calls [] = record { calls = 0; handles = 0; bytes = 0 }
needs_of_calls (c ∷ calls) = joined_room (needs_of_begin c.begin) (needs_of_calls calls)

-- a call and a reply can hold those of each of these calls
abbrev pub AllFit : DriverCall → DriverReply → List PlannedCall → Type 0
AllFit call reply calls = AllByRecursion (λ (c : PlannedCall). HasRoomForBegin call.body c.begin × (length c.begin.results ≤ vec_capacity reply.handles)) calls

-- ---- a worker

-- a worker has room for these calls, in its seat, its lists and its tick; `room` is what a seat has room for
pub record HasRoomForCalls {S : Type 0} (room : S → SeatRoom) (w : Worker S) (calls : List PlannedCall) : Type 0 where
  pub draws : length calls + length calls ≤ w.tick.left
  pub seat : FitsIn (needs_of_calls calls) (room w.seat)
  pub fit : AllFit w.call w.reply calls
  pub sent : length calls ≤ vec_capacity w.sent - vec_len w.sent

-- a worker of a course holds what it needs for these calls, which are all that its stream still has
pub record IsReady {S : Type 0} (room : S → SeatRoom) (c : Course) (calls : List PlannedCall) (w : Worker S) : Type 0 where
  pub holds : Holds c.names w.thread calls w.tokens.items w.made.items
  pub stream : OwnsStream c.names w.thread w.stream
  pub clock : w.tick.clock ≡ c.clock
  pub room_is : HasRoomForCalls room w calls

-- and the numbers of their plans are those that it goes by
pub record IsReadyFor {S : Type 0} (room : S → SeatRoom) (c : Course) (calls : List PlannedCall) (w : Worker S) : Type 0 where
  pub ready : IsReady room c calls w
  pub places : map (λ (p : PlannedCall). p.place) calls ≡ w.places.items

-- A worker has made these calls, in order and at rising times. The logs have gained just their entries of the thread's, the seat's list their exchanges, and it is marked of
-- each whether it was sent. What the tokens have seen goes on from what they had seen, and each call stands in it where it was made. `log` is what a seat tells of its calls.
pub record HasMadeCalls {S : Type 0} (log : S → Log) (c : Course) (calls : List MadeCall) (old new : Worker S) : Type 0 where
  pub thread : new.thread ≡ old.thread
  pub stream : new.stream ≡ old.stream
  pub made : AllByRecursion (IsMade c.names old.thread) calls
  pub rise : RiseBetween old.tick.seen calls new.tick.seen
  pub gained : HaveGained old.thread calls old.tokens.items new.tokens.items
  pub grown : HaveGrown old.tokens.items new.tokens.items
  pub stand : AllByRecursion (StandsAt new.tokens.items) calls
  pub told : log new.seat ≡ logged (log old.seat) (flat_map exchange_made calls)
  pub sent : new.sent.items ≡ old.sent.items ++ map (λ (m : MadeCall). not m.begun.skip) calls

-- a worker has made all these calls, and has none left
pub record HasDone {S : Type 0} (room : S → SeatRoom) (log : S → Log) (c : Course) (planned : List PlannedCall) (old new : Worker S) : Type 0 where
  pub calls : List MadeCall
  pub are : map planned_of calls ≡ planned
  pub done : HasMadeCalls log c calls old new
  pub ready : IsReady room c [] new
