-- What the parts of a chain keep, as the machine's, and where they stand. Source: this project.
use Rattle.std.specs.Prelude.{ℕ, ◌+◌, List, [], ◌∷◌, map}
use Rattle.object_model.specs.declared.PartKind.{PartKind}
use Rattle.object_model.specs.declared.PartKind.TheVariants as kind
use Rattle.layer_model.specs.Walks.{PartState, kind_of}
use Rattle.layer_model.specs.Walks.{Threads as ThreadsState, Lifetimes as LifetimesState, Unique as UniqueState}
use Rattle.dispatch_chain.specs.declared.part.Part.{Part}
use Rattle.dispatch_chain.specs.declared.part.Part.TheVariants.{Threads, Lifetimes, Unique}

-- what a part keeps
abbrev pub state_of : Part → PartState
state_of (Threads s) = ThreadsState s.kept
state_of (Lifetimes s) = LifetimesState s.kept
state_of (Unique m) = UniqueState m.ids

-- the kinds of parts
abbrev pub kinds_of : List PartState → List PartKind
kinds_of states = map kind_of states

-- the kind of a part, and the place that its findings name: a unique part finds nothing and has none
pub record Seat : Type 0 where
  pub kind : PartKind
  pub place : ℕ

-- the seat of a part
abbrev pub seat_of : Part → Seat
seat_of (Threads s) = record { kind = kind.Threads; place = s.place }
seat_of (Lifetimes s) = record { kind = kind.Lifetimes; place = s.place }
seat_of (Unique m) = record { kind = kind.Unique; place = 0 }

-- the seat of a part of this kind at a place
abbrev pub seat_at : ℕ → PartKind → Seat
seat_at k kind.Threads = record { kind = kind.Threads; place = k }
seat_at k kind.Lifetimes = record { kind = kind.Lifetimes; place = k }
seat_at k kind.Unique = record { kind = kind.Unique; place = 0 }

-- the seats of parts of these kinds, where the first has this place
abbrev pub seats_from : ℕ → List PartKind → List Seat
seats_from k [] = []
seats_from k (q ∷ qs) = seat_at k q ∷ seats_from (k + 1) qs
