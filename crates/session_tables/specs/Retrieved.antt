-- Retrieved objects by owner and key, and how they are found: entries in order, and chains through them. Source: this project.
use Rattle.std.specs.Prelude.{◌≡◌, ℕ, suc, ◌+◌, ◌*◌, ◌/◌, ◌%◌, ◌≤◌, ◌<◌, Bool, true, false, ◌&&◌, ◌==◌, Option, Some, None, List, [], ◌∷◌, length, take, drop, find, slice_index_or, unwrap_or}
use Rattle.std.specs.Option.{option_map}
use Rattle.command_tables.specs.declared.types.ObjectType.{ObjectType}
use Rattle.command_tables.specs.Tests.{same_type}
use Rattle.object_model.specs.declared.Object.{Object}
use Rattle.handle_map.specs.Pairs.{MapEntry, values_of, with_values}
use Rattle.replay_model.specs.Past.{Retrieval}
use Rattle.replay_model.specs.Births.{is_kept}
use Rattle.session_tables.specs.declared.retrieved_table.RetrievedEntry.{RetrievedEntry}
use Rattle.session_tables.specs.declared.retrieved_map.RetrievedKey.{RetrievedKey}

-- the retrieved objects, the oldest first; and how many further ones, and how many further bytes of their payloads, can be kept with no
-- further memory
pub record RetrievedState : Type 0 where
  pub kept : List Retrieval
  pub spare : ℕ
  pub bytes : ℕ

-- a retrieved object, with its payload among those of all
abbrev pub retrieval_of : List ℕ → RetrievedEntry → Retrieval
retrieval_of bytes e = record { owner = e.owner; place = e.place; payload = take e.len (drop e.start bytes); object = e.object }

-- a retrieved object has this key
abbrev pub has_key : RetrievedKey → Retrieval → Bool
has_key k r = is_kept k.ty (Some k.owner) k.place k.payload.now r

-- the first object with this key
abbrev pub first_kept : List Retrieval → RetrievedKey → Option Object
first_kept kept k = option_map (λ (r : Retrieval). r.object) (find (is_kept k.ty (Some k.owner) k.place k.payload.now) kept)

-- the number of the chain of an owner's place, among those of the owner's type: most have few entries
abbrev pub chain_number : Object → ℕ → ℕ
chain_number o place = o.number / 8192 + o.number % 2048 * 16 + place % 4294967296

-- the place of this owner is of this chain
abbrev pub is_owned_in : ObjectType → ℕ → Option Object → ℕ → Bool
is_owned_in t n None place = false
is_owned_in t n (Some o) place = same_type o.ty t && chain_number o place == n

-- the entry is of this chain; one without an owner is of none
abbrev pub is_in_chain : ObjectType → ℕ → RetrievedEntry → Bool
is_in_chain t n e = is_owned_in t n e.owner e.place

-- a link into a chain, among the first so many entries: one more than the place of an entry of the chain, or 0. From it on no entry is
-- of the chain.
pub record IsLink (entries : List RetrievedEntry) (t : ObjectType) (n count link : ℕ) : Type 0 where
  pub within : link ≤ count
  pub here : (place : ℕ) (other : RetrievedEntry) → link ≡ suc place → is_in_chain t n (slice_index_or entries place other) ≡ true
  pub none : (place : ℕ) (other : RetrievedEntry) → link ≤ place → place < count → is_in_chain t n (slice_index_or entries place other) ≡ false

-- each entry links to those before it
abbrev pub AreLinked : List RetrievedEntry → Type 0
AreLinked entries = (place : ℕ) (other : RetrievedEntry) → place < length entries → (t : ObjectType) (n : ℕ) → is_in_chain t n (slice_index_or entries place other) ≡ true → IsLink entries t n place (slice_index_or entries place other).before

-- the first of an entry's values, and 0 where it has none
abbrev pub first_link : List ℕ → ℕ
first_link values = slice_index_or values 0 0

-- the link that a map has for a chain, and 0 where it has none
abbrev pub latest_in : List (MapEntry (List ℕ)) → ObjectType → ℕ → ℕ
latest_in latest t n = unwrap_or (option_map first_link (values_of latest t n)) 0

-- the map has the link to the latest entry of each chain
abbrev pub AreLatest : List RetrievedEntry → List (MapEntry (List ℕ)) → Type 0
AreLatest entries latest = (t : ObjectType) (n : ℕ) → IsLink entries t n (length entries) (latest_in latest t n)

-- each entry's payload lies within those of all
abbrev pub HavePayloads : List RetrievedEntry → List ℕ → Type 0
HavePayloads entries bytes = (place : ℕ) (other : RetrievedEntry) → place < length entries → (slice_index_or entries place other).start + (slice_index_or entries place other).len ≤ length bytes

-- the entries, their payloads and the links to the latest fit together
pub record AreChained (entries : List RetrievedEntry) (bytes : List ℕ) (latest : List (MapEntry (List ℕ))) : Type 0 where
  pub linked : AreLinked entries
  pub ends : AreLatest entries latest
  pub payloads : HavePayloads entries bytes

-- the link to the latest entry of the chain of an owner's place; 0 for nobody
abbrev pub link_of : List (MapEntry (List ℕ)) → Option Object → ℕ → ℕ
link_of latest None place = 0
link_of latest (Some o) place = latest_in latest o.ty (chain_number o place)

-- the links with one more entry, which this one leads to
abbrev pub with_link : List (MapEntry (List ℕ)) → Option Object → ℕ → ℕ → List (MapEntry (List ℕ))
with_link latest None place link = latest
with_link latest (Some o) place link = with_values latest o.ty (chain_number o place) (link ∷ [])
