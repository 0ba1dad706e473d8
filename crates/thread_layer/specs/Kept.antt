-- What a threads part keeps: its place, and the births, living objects and open calls that it was told of.
-- Source: Khronos validation layers (thread safety); the rules are those of histories of pairs of a type and a handle.
use Rattle.std.specs.Prelude.{ℕ, ◌+◌, Option, Some, None, List, [], ◌∷◌, not, ◌==◌, drop, filter, map, min, take}
use Rattle.object_model.specs.Uses.{Use, InUse}
use Rattle.layer_model.specs.Parts.{LifeModel, UseModel}
use Rattle.thread_layer.specs.declared.object_use.ObjectUse.{ObjectUse}
use Rattle.thread_layer.specs.declared.open_call.OpenCall.{OpenCall}

-- a part with its place in the chain; how many further objects can be born with no further memory, and how many calls can be open at
-- once, with how many uses in all
pub record PlacedUses : Type 0 where
  pub place : ℕ
  pub kept : UseModel
  pub spare : ℕ
  pub room : ℕ

-- the open calls, and how many can be open at once, with how many uses in all, with no further memory
pub record OpenState : Type 0 where
  pub opens : List InUse
  pub room : ℕ

-- a use as one of the model
abbrev pub use_seen : ObjectUse → Use
use_seen u = record { param = u.param; index = u.index; object = u.object; write = u.write }

-- an open call as one of the model, with its own uses
abbrev pub open_seen : OpenCall → List ObjectUse → InUse
open_seen c us = record { number = c.number; thread = c.thread; uses = map use_seen us }

-- open calls, where each has as many of these uses as it counts, those of one call behind those of the other
abbrev pub opens_of : List OpenCall → List ObjectUse → List InUse
opens_of [] us = []
opens_of (c ∷ cs) us = open_seen c (take c.count us) ∷ opens_of cs (drop c.count us)

-- how many uses open calls count
abbrev pub counted : List OpenCall → ℕ
counted [] = 0
counted (c ∷ cs) = c.count + counted cs

-- what is kept of objects, with the open calls
abbrev pub with_opens : LifeModel → List InUse → UseModel
with_opens m opens = record { births = m.births; living = m.living; opens = opens }

-- the open calls that aren't of a thread
abbrev pub of_others : ℕ → List InUse → List InUse
of_others thread cs = filter (λ c. not (c.thread == thread)) cs

-- the lesser of two numbers, where there is one
abbrev pub lesser : Option ℕ → Option ℕ → Option ℕ
lesser None b = b
lesser (Some x) None = Some x
lesser (Some x) (Some y) = Some (min x y)
