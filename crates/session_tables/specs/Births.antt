-- Births by their objects. Source: this project.
use Rattle.std.specs.Prelude.{◌≡◌, ℕ, true, Some, List, [], map, slice_get}
use Rattle.object_model.specs.declared.Object.{Object}
use Rattle.object_model.specs.Objects.{same}
use Rattle.object_model.specs.History.{Birth}
use Rattle.session_tables.specs.declared.birth_table.BirthEntry.{BirthEntry}
use Rattle.session_tables.specs.declared.owner_list.OwnerList.{OwnerList}
use Rattle.session_tables.specs.declared.owner_list.OwnerList.TheVariants as of
use Rattle.session_tables.specs.declared.placed_table.Placed.{Placed}

-- births, and how many further ones of up to three owners can be held with no further memory
pub record BirthsState : Type 0 where
  pub births : List Birth
  pub spare : ℕ

-- the owners that are kept of an object
abbrev pub owners_kept : OwnerList → List Object
owners_kept of.None = []
owners_kept (of.One owners) = owners
owners_kept (of.Two owners) = owners
owners_kept (of.Three owners) = owners
owners_kept (of.More owners) = owners.items

-- a birth
abbrev pub birth_of : Placed BirthEntry → Birth
birth_of p = record { object = p.object; created = p.value.created; owners = owners_kept p.value.owners }

-- all births
abbrev pub births_shown : List (Placed BirthEntry) → List Birth
births_shown entries = map birth_of entries

-- no two births are of one object
abbrev pub AreApart : List Birth → Type 0
AreApart bs = (i j : ℕ) (b c : Birth) → slice_get bs i ≡ Some b → slice_get bs j ≡ Some c → same b.object c.object ≡ true → i ≡ j
