-- Room for the calls of a plan, as it is measured and taken. Source: this project.
use Rattle.std.specs.Prelude.{◌≡◌, ◌≤◌, ◌<◌, ◌+◌, ◌*◌, ◌^◌, ℕ, Option, List, length, map}
use Rattle.std.specs.List.{AllByRecursion}
use Rattle.trace_format.specs.declared.event.Name.{Name}
use Rattle.trace_format.specs.declared.event.TraceArg.{TraceArg}
use Rattle.trace_format.specs.Content.{arg_content}
use Rattle.replay_model.specs.Setup.{Setup}
use Rattle.session_model.specs.Session.{SessionKept}
use Rattle.stream_model.specs.FileParts.{StreamPart}
use Rattle.dispatch_chain.specs.Room.{AllCanOpen, AllHaveBirths}
use Rattle.session_parts.specs.declared.parts.SessionParts.{SessionParts}
use Rattle.session_parts.specs.Names.{CanKeep}
use Rattle.session_parts.specs.Scratch.{HoldsCalls}
use Rattle.chain_session.specs.declared.kept.Kept.{Kept}
use Rattle.chain_session.specs.Splitting.{AreSplit}
use Rattle.chain_session.specs.Standing.{ShowsOnce}
use Rattle.walk_bounds.specs.Bounds.{AllLight, HaveBorn}
use Rattle.shard_room.specs.Needs.{IsWithinAt, Needs}
use Rattle.shard_room.specs.Room.{HasPlanRoom}
use Rattle.device_shard.specs.declared.lane.Lane.{Lane}
use Rattle.device_shard.specs.declared.measure.Measure.{Measure}
use Rattle.device_shard.specs.Making.{results_planned}
use Rattle.device_shard.specs.Shards.{LaneHasRoom, results_at, threads_of}

-- ---- how much calls need

-- what is measured
abbrev pub needs_of : Measure → Needs
needs_of m = record { wide = m.wide; args = m.args; results = m.results; bytes = m.bytes; uses = m.uses; born = m.born }

-- the names that arguments have, by parameter
abbrev pub names_of : List TraceArg → List (List (Option Name))
names_of args = map (λ a. a.names) (map arg_content args)

-- what was within these needs is within those
pub record IsGrown (old new : Needs) : Type 0 where
  pub wide : old.wide ≤ new.wide
  pub args : old.args ≤ new.args
  pub results : new.results ≡ old.results
  pub bytes : old.bytes ≤ new.bytes
  pub uses : old.uses ≤ new.uses
  pub born : new.born ≡ old.born

-- no event of a stream brings more results
abbrev pub FewResults : ℕ → StreamPart → Type 0
FewResults n s = AllByRecursion (λ e. results_at e ≤ n) s.events

-- each event of a stream is within needs
abbrev pub IsStreamWithin : Needs → StreamPart → Type 0
IsStreamWithin n s = AllByRecursion (IsWithinAt n) s.events

-- ---- room that is taken

-- room was taken for calls of so many threads, with so many results that are due
pub record IsReserved (n : Needs) (threads due : ℕ) (x : SessionParts) : Type 0 where
  pub scratch : HoldsCalls n.wide due x.names.room.scratch
  pub names : CanKeep due (due * n.bytes) x.names.room
  pub births : AllHaveBirths due x.states.rooms
  pub uses : AllCanOpen (threads + threads * n.uses) x.states.kept x.states.rooms
  pub ids : due ≤ x.terminator.spare
  pub values : due ≤ x.terminator.values
  pub bytes : due * n.bytes ≤ x.terminator.bytes
  pub few : due < 2 ^ 32

-- a lane that has made no step, with room for a call
pub record IsUnused (n : Needs) (parts : ℕ) (l : Lane) : Type 0 where
  pub steps : l.steps ≡ 0
  pub room : LaneHasRoom n parts l

-- ---- what a shard starts from

-- a session keeps something, under a setup; parts that are split from it have no open call, and to none of them more objects were born than so many
pub record IsIdle (k : Option Kept) (held : ℕ) : Type 0 where
  pub setup : Setup
  pub kept : SessionKept
  pub shows : ShowsOnce setup k kept
  pub light : (x : SessionParts) (n : ℕ) (threads : List ℕ) → AreSplit k x → AllLight n threads x.states.kept
  pub born : (x : SessionParts) → AreSplit k x → HaveBorn held x.states.kept

-- parts that are split from a session, a lane for each stream, and a list for the results of a call: with room for all that the streams bring
pub record IsReady (k : Option Kept) (streams : List StreamPart) (x : SessionParts) (lanes : List Lane) (most : ℕ) : Type 0 where
  pub split : AreSplit k x
  pub needs : Needs
  pub within : AllByRecursion (IsStreamWithin needs) streams
  pub room : HasPlanRoom needs (threads_of streams) (results_planned streams) x
  pub count : length lanes ≡ length streams
  pub unused : AllByRecursion (IsUnused needs (length x.states.kept)) lanes
  pub results : needs.results ≤ most
