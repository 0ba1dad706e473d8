-- The links of all records as they are kept: the way back for each, and what it owns up to the latest owner. Source: this project.
use Rattle.std.specs.Prelude.{ℕ, List, [], ◌∷◌}
use Rattle.object_records.specs.declared.link_table.Owned.{Owned}
use Rattle.object_records.specs.declared.links.Links.{Links}

-- the links of all records, and how many further ones can be held with no further memory
pub record LinkState : Type 0 where
  pub links : List Links
  pub spare : ℕ

-- a record that owns nothing
abbrev pub no_owned : Owned
no_owned = record { last = 0; children = 0 }

-- the links of a record by the way back and what it owns
abbrev pub link_read : ℕ → Owned → Links
link_read previous o = record { last_owned = o.last; previous = previous; children = o.children }

-- the links of all records
abbrev pub links_read : List ℕ → List Owned → List Links
links_read [] os = []
links_read (p ∷ ps) [] = link_read p no_owned ∷ links_read ps []
links_read (p ∷ ps) (o ∷ os) = link_read p o ∷ links_read ps os
