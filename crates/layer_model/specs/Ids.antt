-- What a part keeps that issues ids: a unique part, with the handle below for each of its ids, and the terminator, with the values of each driver.
-- Source: Khronos validation layers (unique handles); that ids are positions, and what is kept of retrieved objects, is this project's.
use Rattle.std.specs.Prelude.{◌≡◌, ℕ, suc, ◌+◌, Bool, true, ◌&&◌, if◌then◌else◌, ◌==◌, Option, Some, None, List, [], ◌∷◌, ◌++◌, find, not}
use Rattle.std.specs.List.{list_all}
use Rattle.std.specs.Option.{option_map}
use Rattle.std.specs.Str.{bytes_eq}
use Rattle.command_tables.specs.declared.types.ObjectType.{ObjectType}
use Rattle.object_model.specs.declared.Object.{Object}
use Rattle.command_tables.specs.declared.types.ObjectType.TheVariants as ty
use Rattle.command_tables.specs.Tests.{same_type}
use Rattle.handle_map.specs.Pairs.{MapEntry, greatest_id, has_pair, with_values}
use Rattle.object_model.specs.Objects.{are_same}
use Rattle.command_tables.specs.Facts.{is_dispatchable}

-- a unique part issues ids for the objects of this type: non-dispatchable ones but surfaces
abbrev pub is_wrapped : ObjectType → Bool
is_wrapped t = not (is_dispatchable t) && not (same_type t ty.Surface)

-- the terminator issues ids for the objects of this type
abbrev pub is_bare : ObjectType → Bool
is_bare t = not (is_wrapped t)

-- the key of a retrieved object: its owner's token above, its type, its place in the answer and the payload
pub record Key : Type 0 where
  pub owner : Option Object
  pub ty : ObjectType
  pub place : ℕ
  pub payload : List ℕ

-- a key with the id of the object retrieved by it
pub record KeptId : Type 0 where
  pub key : Key
  pub id : ℕ

-- all that such a part keeps, the oldest first
pub record IdMap (V : Type 0) : Type 0 where
  pub entries : List (MapEntry V)
  pub kept : List KeptId

-- nothing was issued yet
abbrev pub no_ids : {V : Type 0} → IdMap V
no_ids = record { entries = []; kept = [] }

-- the next id: one above the greatest
abbrev pub next_id : {V : Type 0} → List (MapEntry V) → ℕ
next_id entries = suc (greatest_id entries)

-- the id was kept by this key
abbrev pub has_key : Key → KeptId → Bool
has_key k r = same_type r.key.ty k.ty && (are_same r.key.owner k.owner && (r.key.place == k.place && bytes_eq r.key.payload k.payload))

-- each kept id was issued, for the type of its key
abbrev pub AreIssued : {V : Type 0} → List (MapEntry V) → List KeptId → Type 0
AreIssued entries kept = list_all (λ r. has_pair entries r.key.ty r.id) kept ≡ true

-- the id kept by a key
abbrev pub kept_id : List KeptId → Key → Option ℕ
kept_id kept k = option_map (λ r. r.id) (find (has_key k) kept)

-- the key of the result in this place, where the call retrieves
abbrev pub at_key : Option Key → ℕ → Option Key
at_key None place = None
at_key (Some k) place = Some (record k { place = place })

-- an id with what is kept then
pub record Issued (V : Type 0) : Type 0 where
  pub id : ℕ
  pub ids : IdMap V

-- a known id gets the new value
abbrev pub known : {V : Type 0} → IdMap V → ObjectType → ℕ → V → Issued V
known m t id v = record { id = id; ids = record { entries = with_values m.entries t id v; kept = m.kept } }

-- the kept ids with a new one, where it has a key
abbrev pub keep_new : Option Key → ℕ → List KeptId → List KeptId
keep_new None id kept = kept
keep_new (Some k) id kept = kept ++ record { key = k; id = id } ∷ []

-- a new id with its value, one above the greatest
abbrev pub new_id : {V : Type 0} → IdMap V → Option Key → ObjectType → V → Issued V
new_id m k t v = record { id = next_id m.entries; ids = record { entries = with_values m.entries t (next_id m.entries) v; kept = keep_new k (next_id m.entries) m.kept } }

-- the kept id of a key, else a new one
abbrev pub issue_where : {V : Type 0} → Option ℕ → IdMap V → Option Key → ObjectType → V → Issued V
issue_where None m k t v = new_id m k t v
issue_where (Some id) m k t v = known m t id v

-- the kept id for a key
abbrev pub kept_for : List KeptId → Option Key → Option ℕ
kept_for kept None = None
kept_for kept (Some k) = kept_id kept k

-- one result with this value below
abbrev pub issue : {V : Type 0} → IdMap V → Option Key → ObjectType → V → Issued V
issue m k t v = issue_where (kept_for m.kept k) m k t v

-- results with their ids, and what is kept then
pub record IssuedAll (V : Type 0) : Type 0 where
  pub results : List ℕ
  pub ids : IdMap V

-- one more result stands in front
abbrev pub result_first : {V : Type 0} → ℕ → IssuedAll V → IssuedAll V
result_first id rest = record { results = id ∷ rest.results; ids = rest.ids }

-- the results of a call from this place on: 0 for a lost one
abbrev pub issue_all : {V : Type 0} → IdMap V → Option Key → ObjectType → ℕ → List (Option V) → IssuedAll V
issue_all m k t place [] = record { results = []; ids = m }
issue_all m k t place (None ∷ values) = result_first 0 (issue_all m k t (place + 1) values)
issue_all m k t place (Some v ∷ values) = let one = issue m (at_key k place) t v in result_first one.id (issue_all one.ids k t (place + 1) values)
