-- How the ids of retrieved objects are found by their keys: entries in order, and for each owner a chain through them. Source: this project.
use Rattle.std.specs.Prelude.{◌≡◌, ℕ, suc, ◌+◌, ◌≤◌, ◌<◌, Bool, true, false, ◌&&◌, ◌==◌, Option, Some, None, List, [], ◌∷◌, length, slice_index_or, unwrap_or}
use Rattle.std.specs.Option.{option_map}
use Rattle.command_tables.specs.declared.types.ObjectType.{ObjectType}
use Rattle.command_tables.specs.Tests.{same_type}
use Rattle.object_model.specs.declared.Object.{Object}
use Rattle.handle_map.specs.Pairs.{MapEntry, values_of, with_values}
use Rattle.terminator.specs.declared.entry.KeptEntry.{KeptEntry}

-- the owner is this pair
abbrev pub is_owner : ObjectType → ℕ → Option Object → Bool
is_owner t n None = false
is_owner t n (Some o) = same_type o.ty t && o.number == n

-- a link into an owner's chain, among the first so many entries: one more than the place of an entry of that owner, or 0. From it on no
-- entry is of the owner.
pub record IsLink (entries : List KeptEntry) (t : ObjectType) (n count link : ℕ) : Type 0 where
  pub within : link ≤ count
  pub here : (place : ℕ) (other : KeptEntry) → link ≡ suc place → is_owner t n (slice_index_or entries place other).owner ≡ true
  pub none : (place : ℕ) (other : KeptEntry) → link ≤ place → place < count → is_owner t n (slice_index_or entries place other).owner ≡ false

-- each entry links to those before it
abbrev pub AreLinked : List KeptEntry → Type 0
AreLinked entries = (place : ℕ) (other : KeptEntry) → place < length entries → (t : ObjectType) (n : ℕ) → is_owner t n (slice_index_or entries place other).owner ≡ true → IsLink entries t n place (slice_index_or entries place other).next

-- the first of an entry's values, and 0 where it has none
abbrev pub first_link : List ℕ → ℕ
first_link values = slice_index_or values 0 0

-- the link that a map has for an owner, and 0 where it has none
abbrev pub latest_in : List (MapEntry (List ℕ)) → ObjectType → ℕ → ℕ
latest_in latest t n = unwrap_or (option_map first_link (values_of latest t n)) 0

-- the map has the link to the latest entry of each owner
abbrev pub AreLatest : List KeptEntry → List (MapEntry (List ℕ)) → Type 0
AreLatest entries latest = (t : ObjectType) (n : ℕ) → IsLink entries t n (length entries) (latest_in latest t n)

-- each entry's payload lies within those of all
abbrev pub HavePayloads : List KeptEntry → List ℕ → Type 0
HavePayloads entries bytes = (place : ℕ) (other : KeptEntry) → place < length entries → (slice_index_or entries place other).start + (slice_index_or entries place other).len ≤ length bytes

-- the entries, their payloads and the links to the latest fit together
pub record AreChained (entries : List KeptEntry) (bytes : List ℕ) (latest : List (MapEntry (List ℕ))) : Type 0 where
  pub linked : AreLinked entries
  pub ends : AreLatest entries latest
  pub payloads : HavePayloads entries bytes

-- the link to the latest entry of an owner; 0 for nobody
abbrev pub link_of : List (MapEntry (List ℕ)) → Option Object → ℕ
link_of latest None = 0
link_of latest (Some o) = latest_in latest o.ty o.number

-- the links with one more entry, which this one leads to
abbrev pub with_link : List (MapEntry (List ℕ)) → Option Object → ℕ → List (MapEntry (List ℕ))
with_link latest None link = latest
with_link latest (Some o) link = with_values latest o.ty o.number (link ∷ [])
