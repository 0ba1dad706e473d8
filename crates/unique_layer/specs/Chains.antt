-- How the ids of retrieved objects are found by their keys: entries in order, and chains through them. Source: this project.
use Rattle.std.specs.Prelude.{◌≡◌, ℕ, suc, ◌+◌, ◌*◌, ◌%◌, ◌≤◌, ◌<◌, Bool, true, false, ◌&&◌, ◌==◌, Option, Some, None, List, [], ◌∷◌, length, slice_index_or, unwrap_or}
use Rattle.std.specs.Option.{option_map}
use Rattle.command_tables.specs.declared.types.ObjectType.{ObjectType}
use Rattle.command_tables.specs.Tests.{same_type}
use Rattle.object_model.specs.declared.Object.{Object}
use Rattle.handle_map.specs.Pairs.{MapEntry, values_of, with_values}
use Rattle.unique_layer.specs.declared.entry.KeptEntry.{KeptEntry}
use Rattle.unique_layer.specs.Shown.{first_of}

-- the number of a key's chain among those of its owner's type: a few places of an owner have chains of their own
abbrev pub chain_number : Object → ℕ → ℕ
chain_number o place = o.number % 4294967296 * 8 + place % 4294967296

-- the key with this owner is of this chain
abbrev pub is_owned_in : ObjectType → ℕ → Option Object → ℕ → Bool
is_owned_in t n None place = false
is_owned_in t n (Some o) place = same_type o.ty t && chain_number o place == n

-- the entry is of this chain; one without an owner is of none
abbrev pub is_in_chain : ObjectType → ℕ → KeptEntry → Bool
is_in_chain t n e = is_owned_in t n e.key.owner e.key.place

-- a link into a chain, among the first so many entries: one more than the place of an entry of the chain, or 0. From it on no entry is
-- of the chain.
pub record IsLink (entries : List KeptEntry) (t : ObjectType) (n count link : ℕ) : Type 0 where
  pub within : link ≤ count
  pub here : (place : ℕ) (other : KeptEntry) → link ≡ suc place → is_in_chain t n (slice_index_or entries place other) ≡ true
  pub none : (place : ℕ) (other : KeptEntry) → link ≤ place → place < count → is_in_chain t n (slice_index_or entries place other) ≡ false

-- each entry links to those before it
abbrev pub AreLinked : List KeptEntry → Type 0
AreLinked entries = (place : ℕ) (other : KeptEntry) → place < length entries → (t : ObjectType) (n : ℕ) → is_in_chain t n (slice_index_or entries place other) ≡ true → IsLink entries t n place (slice_index_or entries place other).next

-- the link that a map has for a chain, and 0 where it has none
abbrev pub latest_in : List (MapEntry (List ℕ)) → ObjectType → ℕ → ℕ
latest_in latest t n = unwrap_or (option_map first_of (values_of latest t n)) 0

-- the map has the link to the latest entry of each chain
abbrev pub AreLatest : List KeptEntry → List (MapEntry (List ℕ)) → Type 0
AreLatest entries latest = (t : ObjectType) (n : ℕ) → IsLink entries t n (length entries) (latest_in latest t n)

-- the entries and the links to the latest fit together
pub record AreChained (entries : List KeptEntry) (latest : List (MapEntry (List ℕ))) : Type 0 where
  pub linked : AreLinked entries
  pub ends : AreLatest entries latest

-- the link to the latest entry of a key's chain; 0 for a key without an owner
abbrev pub link_of : List (MapEntry (List ℕ)) → Option Object → ℕ → ℕ
link_of latest None place = 0
link_of latest (Some o) place = latest_in latest o.ty (chain_number o place)

-- the links with one more entry, which this one leads to
abbrev pub with_link : List (MapEntry (List ℕ)) → Option Object → ℕ → ℕ → List (MapEntry (List ℕ))
with_link latest None place link = latest
with_link latest (Some o) place link = with_values latest o.ty (chain_number o place) (link ∷ [])
