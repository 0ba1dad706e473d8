-- A call of a worker while it is open: it has begun, its driver has replied where it was sent, and then it returns. Source: this project.
use Rattle.std.specs.Prelude.{◌≡◌, ◌+◌, ◌-◌, ◌==◌, ◌<◌, ◌≤◌, ℕ, Bool, false, not, if◌then◌else◌, Option, List, [], ◌∷◌, ◌++◌, length, vec_capacity, vec_len}
use Rattle.std.specs.List.{zip}
use Rattle.stream_log.specs.declared.line.Line.{Line}
use Rattle.stream_log.specs.Log.{SeenView}
use Rattle.model_driver.specs.Driver.{call_shown, reply_shown}
use Rattle.model_driver.specs.Logs.{Log, logged}
use Rattle.model_driver.specs.Seats.{FitsIn, SeatRoom, joined_room}
use Rattle.session_model.specs.Stands.{AreRepliesTo}
use Rattle.device_shard.specs.Lanes.{replies_read}
use Rattle.device_shard.specs.Steps.{IsToldOf}
use Rattle.stream_workers.specs.declared.worker.Worker.{Worker}
use Rattle.merge_model.specs.Planned.{PlannedCall}
use Rattle.stream_workers.specs.Calls.{BegunCall, IsBegun, IsMade, MadeCall}
use Rattle.stream_workers.specs.Held.{HaveGrown, HoldsOpen, StandsAt, lines_of_thread, list_at}
use Rattle.stream_workers.specs.Work.{AllFit, Course, IsReady, OwnsStream, needs_of_begin, needs_of_calls}

-- ---- where a worker stands

-- A worker of a course has this call open, and holds what it needs for its return and for these calls, but for its seat's room.
pub record IsOpen {S : Type 0} (c : Course) (b : BegunCall) (rest : List PlannedCall) (w : Worker S) : Type 0 where
  pub begun : IsBegun c.names w.thread b
  pub holds : HoldsOpen c.names w.thread b rest w.tokens.items w.made.items
  pub stream : OwnsStream c.names w.thread w.stream
  pub clock : w.tick.clock ≡ c.clock
  pub seen : b.entry.time ≤ w.tick.seen
  pub draws : 1 + (length rest + length rest) ≤ w.tick.left
  pub fit : AllFit w.call w.reply rest
  pub sent : length rest ≤ vec_capacity w.sent - vec_len w.sent

-- The call is still to be sent, unless it is skipped: `call` is what its driver is to be told, its begin in other handles. `room` is what a seat has room for.
pub record IsToSend {S : Type 0} (room : S → SeatRoom) (c : Course) (b : BegunCall) (rest : List PlannedCall) (w : Worker S) : Type 0 where
  pub opened : IsOpen c b rest w
  pub told : b.skip ≡ false → b.told ≡ call_shown w.call ∷ []
  pub told_is : b.skip ≡ false → IsToldOf b.begin (call_shown w.call)
  pub seat : FitsIn (joined_room (needs_of_begin b.begin) (needs_of_calls rest)) (room w.seat)
  pub reply : length b.begin.results ≤ vec_capacity w.reply.handles
  pub front : List Bool
  pub marked : w.sent.items ≡ front ++ not b.skip ∷ []

-- its driver has replied, unless it is skipped
pub record IsToReturn {S : Type 0} (room : S → SeatRoom) (c : Course) (b : BegunCall) (rest : List PlannedCall) (w : Worker S) : Type 0 where
  pub opened : IsOpen c b rest w
  pub replied : b.skip ≡ false → AreRepliesTo b.told (reply_shown w.reply ∷ [])
  pub seat : FitsIn (needs_of_calls rest) (room w.seat)

-- ---- from one to the next

-- a thread's entries: the log with this number has gained this one, and the others none
abbrev pub HaveGainedOne : ℕ → ℕ → Line → List (Option SeenView) → List (Option SeenView) → Type 0
HaveGainedOne thread place e old new = (k : ℕ) → lines_of_thread thread (list_at new k) ≡ lines_of_thread thread (list_at old k) ++ (if place == k then e ∷ [] else [])

-- a step of a worker: it is the same in all but its tokens, its counts, its tick and what it is told, and the entry's time is above what its tick had seen; its tokens have seen
-- what they had, and more
pub record HasStepped {S : Type 0} (place : ℕ) (e : Line) (old new : Worker S) : Type 0 where
  pub thread : new.thread ≡ old.thread
  pub stream : new.stream ≡ old.stream
  pub places : new.places ≡ old.places
  pub seat : new.seat ≡ old.seat
  pub later : old.tick.seen < e.time
  pub seen : new.tick.seen ≡ e.time
  pub gained : HaveGainedOne old.thread place e old.tokens.items new.tokens.items
  pub grown : HaveGrown old.tokens.items new.tokens.items

-- a worker's next call has begun
pub record HasBegun {S : Type 0} (room : S → SeatRoom) (c : Course) (p : PlannedCall) (rest : List PlannedCall) (old new : Worker S) : Type 0 where
  pub call : BegunCall
  pub place : call.place ≡ p.place
  pub begin : call.begin ≡ p.begin
  pub stepped : HasStepped p.place call.entry old new
  pub marked : new.sent.items ≡ old.sent.items ++ not call.skip ∷ []
  pub to_send : IsToSend room c call rest new

-- it was sent, unless it is skipped: the seat's list gained its exchange; `log` is what a seat tells of its calls
pub record HasSent {S : Type 0} (room : S → SeatRoom) (log : S → Log) (c : Course) (b : BegunCall) (rest : List PlannedCall) (old new : Worker S) : Type 0 where
  pub same : new ≡ record old { seat = new.seat; reply = new.reply }
  pub told : log new.seat ≡ logged (log old.seat) (zip b.told (replies_read b.skip (reply_shown new.reply)))
  pub to_return : IsToReturn room c b rest new

-- it has returned with the reply
pub record HasReturned {S : Type 0} (room : S → SeatRoom) (c : Course) (b : BegunCall) (rest : List PlannedCall) (old new : Worker S) : Type 0 where
  pub call : MadeCall
  pub begun : call.begun ≡ b
  pub reply : call.reply ≡ reply_shown old.reply
  pub made : IsMade c.names old.thread call
  pub stepped : HasStepped b.place call.entry old new
  pub stands : StandsAt new.tokens.items call
  pub sent : new.sent ≡ old.sent
  pub ready : IsReady room c rest new
