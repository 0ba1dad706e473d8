-- For how much the parts of a chain have room. Source: this project.
use Rattle.std.specs.Prelude.{◌≡◌, ℕ, ◌≤◌, ◌+◌, ◌-◌, false, Option, Some, None, List, [], ◌∷◌, length, slice_get}
use Rattle.command_tables.specs.Calls.{CallContent}
use Rattle.layer_model.specs.Parts.{use_enter}
use Rattle.layer_model.specs.Reading.{read_call}
use Rattle.layer_model.specs.Walks.{PartState}
use Rattle.layer_model.specs.Walks.{Threads as ThreadsState, Lifetimes as LifetimesState, Unique as UniqueState}
use Rattle.thread_layer.specs.Room.{HaveRoom, uses_held}
use Rattle.dispatch_chain.specs.declared.entry.Entry.{Entry}
use Rattle.dispatch_chain.specs.declared.part.Part.{Part}
use Rattle.dispatch_chain.specs.declared.part.Part.TheVariants.{Threads, Lifetimes, Unique}
use Rattle.dispatch_chain.specs.Entries.{Down, step_down}

-- how many further objects can be born to a part with no further memory, and how many calls can be open in it, with how many uses in
-- all: only a threads part keeps any
pub record PartRoom : Type 0 where
  pub births : ℕ
  pub uses : ℕ

-- the room of a part
abbrev pub room_of : Part → PartRoom
room_of (Threads s) = record { births = s.spare; uses = s.room }
room_of (Lifetimes s) = record { births = s.spare; uses = 0 }
room_of (Unique m) = record { births = m.spare; uses = 0 }

-- no room is lost
pub record KeepsRoom (old new : PartRoom) : Type 0 where
  pub births : old.births ≤ new.births
  pub uses : old.uses ≤ new.uses

-- there is room for a call of a thread that comes to a part
abbrev pub CanEnter : ℕ → ℕ → PartState → PartRoom → CallContent → Type 0
CanEnter thread number (ThreadsState m) r c = HaveRoom (use_enter m thread number c.cmd (read_call c)).opens r.uses
CanEnter thread number (LifetimesState m) r c = Unit {0}
CanEnter thread number (UniqueState m) r c = Unit {0}

-- ---- all parts of a chain

-- what the parts of a chain keep, and for how much each has room
pub record ChainState : Type 0 where
  pub kept : List PartState
  pub rooms : List PartRoom

-- no part loses room
pub record KeepRooms (old new : List PartRoom) : Type 0 where
  pub count : length new ≡ length old
  pub each : (i : ℕ) (q r : PartRoom) → slice_get old i ≡ Some q → slice_get new i ≡ Some r → KeepsRoom q r

-- no part loses room for uses
pub record KeepUses (old new : List PartRoom) : Type 0 where
  pub count : length new ≡ length old
  pub each : (i : ℕ) (q r : PartRoom) → slice_get old i ≡ Some q → slice_get new i ≡ Some r → q.uses ≤ r.uses

-- each part has room for so many further births
abbrev pub AllHaveBirths : ℕ → List PartRoom → Type 0
AllHaveBirths n rooms = (i : ℕ) (r : PartRoom) → slice_get rooms i ≡ Some r → n ≤ r.births

-- in a threads part so many further calls can be open, with so many further uses in all
abbrev pub CanOpen : ℕ → PartState → PartRoom → Type 0
CanOpen uses (ThreadsState m) r = (length m.opens + uses ≤ r.uses) × (uses_held m.opens + uses ≤ r.uses)
CanOpen uses (LifetimesState m) r = Unit {0}
CanOpen uses (UniqueState m) r = Unit {0}

-- in each threads part
abbrev pub AllCanOpen : ℕ → List PartState → List PartRoom → Type 0
AllCanOpen uses states rooms = (i : ℕ) (s : PartState) (r : PartRoom) → slice_get states i ≡ Some s → slice_get rooms i ≡ Some r → CanOpen uses s r

-- what is open in a threads part fits its room
abbrev pub IsRoomy : PartState → PartRoom → Type 0
IsRoomy (ThreadsState m) r = HaveRoom m.opens r.uses
IsRoomy (LifetimesState m) r = Unit {0}
IsRoomy (UniqueState m) r = Unit {0}

-- in each threads part
abbrev pub AreRoomy : List PartState → List PartRoom → Type 0
AreRoomy [] rs = Unit {0}
AreRoomy (s ∷ ss) [] = Unit {0}
AreRoomy (s ∷ ss) (r ∷ rs) = IsRoomy s r × AreRoomy ss rs

-- ---- the entries of a row

-- there is room for a call that comes to the part at a place, where there is one
abbrev pub CanEnterAt : ℕ → ℕ → Option PartState → Option PartRoom → CallContent → Type 0
CanEnterAt thread number None r c = Unit {0}
CanEnterAt thread number (Some s) None c = Unit {0}
CanEnterAt thread number (Some s) (Some r) c = CanEnter thread number s r c

-- on the walk down over entries, to the first part that stops the call
abbrev pub AllCanEnter : ℕ → ℕ → List PartRoom → List Entry → Down → Type 0
AllCanEnter thread number rooms [] d = Unit {0}
AllCanEnter thread number rooms (e ∷ es) d = d.skip ≡ false →
    CanEnterAt thread number (slice_get d.states (e.place - 1)) (slice_get rooms (e.place - 1)) d.call × AllCanEnter thread number rooms es (step_down thread number e d)

-- there is room for so many births in the part at a place, where there is one
abbrev pub HasBirthsAt : ℕ → Option PartRoom → Type 0
HasBirthsAt n None = Unit {0}
HasBirthsAt n (Some r) = n ≤ r.births
