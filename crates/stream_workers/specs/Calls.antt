-- A call of a stream, as it is planned and as its worker made it. Source: this project.
use Rattle.std.specs.Prelude.{◌≡◌, ◌==◌, ◌+◌, ◌<◌, ◌≤◌, ℕ, Bool, true, false, if◌then◌else◌, Some, List, [], ◌∷◌, ◌++◌, filter, length, reverse, slice_get}
use Rattle.std.specs.List.{flat_map, zip}
use Rattle.command_tables.specs.Calls.{DriverCallContent, ReplyContent}
use Rattle.stream_log.specs.declared.line.Line.{Line}
use Rattle.stream_log.specs.Log.{IsPast, line}
use Rattle.trace_format.specs.Content.{BeginEvent, Begin}
use Rattle.session_model.specs.Stands.{AreRepliesTo}
use Rattle.merge_model.specs.Planned.{PlannedCall}
use Rattle.shard_model.specs.Followed.{next_event}
use Rattle.shard_model.specs.Replays.{Tells}
use Rattle.device_shard.specs.Lanes.{replies_read}
use Rattle.device_shard.specs.Shards.{ShardName}

-- ---- begun

-- A call whose begin was made a step: the number of its plan, the log before its entry and the entry, its begin, whether it is skipped, and what its driver is to be told.
pub record BegunCall : Type 0 where
  pub place : ℕ
  pub before : List Line
  pub entry : Line
  pub begin : BeginEvent
  pub skip : Bool
  pub told : List DriverCallContent

-- The entry is the step of the begin, which came next for the thread there; whether it is skipped and what is told is known by the log before it: nothing where it is
-- skipped, and else one driver.
pub record IsBegun (names : List ShardName) (thread : ℕ) (c : BegunCall) : Type 0 where
  pub name : ShardName
  pub is : slice_get names c.place ≡ Some name
  pub own : c.entry ≡ line thread c.entry.time true []
  pub came : next_event name.plan.streams thread (reverse c.before) ≡ Some (Begin c.begin)
  pub tells : Tells name.start name.plan.streams (reverse c.before) c.begin c.skip c.told
  pub silent : c.skip ≡ true → c.told ≡ []
  pub one : c.skip ≡ false → length c.told ≡ 1

-- ---- made

-- a call that was made: how it began, the log before the entry of its return and the entry, and what its driver replied, which counts for nothing where it was skipped
pub record MadeCall : Type 0 where
  pub begun : BegunCall
  pub until : List Line
  pub entry : Line
  pub reply : ReplyContent

-- the results that the return of a call has
abbrev pub results_made : MadeCall → List ℕ
results_made m = if m.begun.skip then [] else m.reply.handles

-- The call began, its driver replied as it may, and then it returned: the entry has all handles of the reply. Between its two entries its log has none of the thread.
pub record IsMade (names : List ShardName) (thread : ℕ) (m : MadeCall) : Type 0 where
  pub begun : IsBegun names thread m.begun
  pub replied : m.begun.skip ≡ false → AreRepliesTo m.begun.told (m.reply ∷ [])
  pub past : IsPast thread (m.begun.before ++ m.begun.entry ∷ []) m.until
  pub own : m.entry ≡ line thread m.entry.time false (results_made m)
  pub later : m.begun.entry.time < m.entry.time

-- what was planned of it
abbrev pub planned_of : MadeCall → PlannedCall
planned_of m = record { place = m.begun.place; begin = m.begun.begin }

-- what its driver was told, with the reply: nothing where it was skipped
abbrev pub exchange_made : MadeCall → List (DriverCallContent × ReplyContent)
exchange_made m = zip m.begun.told (replies_read m.begun.skip m.reply)

-- the entries of calls in the log with a number
abbrev pub entries_made : ℕ → List MadeCall → List Line
entries_made k calls = flat_map (λ (m : MadeCall). m.begun.entry ∷ m.entry ∷ []) (filter (λ (m : MadeCall). m.begun.place == k) calls)

-- the times of calls rise, from above one time up to another
abbrev pub RiseBetween : ℕ → List MadeCall → ℕ → Type 0
RiseBetween from [] upto = from ≤ upto
RiseBetween from (m ∷ calls) upto = (from < m.begun.entry.time) × RiseBetween m.entry.time calls upto
