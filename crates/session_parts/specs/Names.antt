-- What a table of names keeps. Source: this project.
use Rattle.std.specs.Prelude.{◌≤◌, ◌+◌, ◌*◌, ℕ, List, []}
use Rattle.object_model.specs.History.{Birth}
use Rattle.replay_model.specs.declared.Named.{Named}
use Rattle.replay_model.specs.Past.{Retrieval}
use Rattle.chain_model.specs.Handed.{Handed}
use Rattle.session_parts.specs.Scratch.{KeepsScratch, ScratchRoom}

-- the names with the objects that they stand for, in any order, and how many were kept; the births of what lives, with their owners; the retrieved objects with their owners and keys; and
-- the value of each object above the first part of the chain, in any order
pub record NamesKept : Type 0 where
  pub names : List Named
  pub count : ℕ
  pub births : List Birth
  pub retrieved : List Retrieval
  pub handed : List Handed

-- for how much more there is room: further names, births, places in the lists of owners, owners of what one call makes, handles above the first part,
-- retrieved objects and bytes of their payloads; and for what the steps of a call fill
pub record NamesRoom : Type 0 where
  pub names : ℕ
  pub births : ℕ
  pub links : ℕ
  pub owners : ℕ
  pub handed : ℕ
  pub retrieved : ℕ
  pub bytes : ℕ
  pub scratch : ScratchRoom

-- what a table of names keeps, and its room
pub record NameTableState : Type 0 where
  pub kept : NamesKept
  pub room : NamesRoom

-- what a call adds: so many results, born or retrieved, whose keys have payloads of so many bytes in all
pub record TakesRoom (count key : ℕ) (old new : NamesRoom) : Type 0 where
  pub names : old.names ≤ new.names + count
  pub births : old.births ≤ new.births + count
  pub links : old.links ≤ new.links + 3 * count
  pub owners : old.owners ≤ new.owners
  pub handed : old.handed ≤ new.handed + count
  pub retrieved : old.retrieved ≤ new.retrieved + count
  pub bytes : old.bytes ≤ new.bytes + key
  pub scratch : KeepsScratch old.scratch new.scratch

-- there is room for that, besides for what is handed, of which the handles come before
pub record CanSettle (count key : ℕ) (room : NamesRoom) : Type 0 where
  pub names : count ≤ room.names
  pub births : count ≤ room.births
  pub links : 3 * count ≤ room.links
  pub owners : 3 ≤ room.owners
  pub retrieved : count ≤ room.retrieved
  pub bytes : key ≤ room.bytes

-- and for the handles
pub record CanKeep (count key : ℕ) (room : NamesRoom) : Type 0 where
  pub settle : CanSettle count key room
  pub handed : count ≤ room.handed

-- nothing is kept yet
abbrev pub no_names : NamesKept
no_names = record { names = []; count = 0; births = []; retrieved = []; handed = [] }
