-- How what an object owns is found from its record: the links between records, and the count of children. Source: this project.
use Rattle.std.specs.Prelude.{◌≡◌, ◌≤◌, ◌<◌, ℕ, zero, suc, ◌+◌, ◌-◌, ◌==◌, Bool, true, false, ◌&&◌, if◌then◌else◌, Some, List, [], ◌∷◌, ◌++◌, length, filter, map, take, slice_get, slice_index_or}
use Rattle.std.specs.List.{list_any}
use Rattle.std.specs.Option.{option_map_or}
use Rattle.command_tables.specs.declared.types.ObjectType.{ObjectType}
use Rattle.command_tables.specs.Tests.{same_type}
use Rattle.object_model.specs.declared.Object.{Object}
use Rattle.object_records.specs.declared.kept_owner.KeptOwner.{KeptOwner}
use Rattle.object_records.specs.declared.kept_owner.KeptOwner.TheVariants.{Nobody, At, Unborn}
use Rattle.object_records.specs.declared.links.Links.{Links}
use Rattle.object_records.specs.declared.record.ObjectRecord.{ObjectRecord}

-- the owner stands at this place
abbrev pub is_owner_at : ℕ → KeptOwner → Bool
is_owner_at place Nobody = false
is_owner_at place (At other) = other == place
is_owner_at place (Unborn o) = false

-- the owner wasn't born
abbrev pub is_unborn : KeptOwner → Bool
is_unborn Nobody = false
is_unborn (At place) = false
is_unborn (Unborn o) = true

-- a record has an owner that wasn't born
abbrev pub has_strays_in : List ObjectRecord → Bool
has_strays_in rs = list_any (λ r. is_unborn r.owner) rs

-- one more than the place of the latest record that has its owner at a place, or else this number; the first record has the place k
abbrev pub last_from : ℕ → ℕ → ℕ → List ObjectRecord → ℕ
last_from k found place [] = found
last_from k found place (r ∷ rs) = last_from (suc k) (if is_owner_at place r.owner then suc k else found) place rs

-- one more than the place of the latest record that has its owner at a place; 0 where there is none
abbrev pub last_link : List ObjectRecord → ℕ → ℕ
last_link rs place = last_from 0 0 place rs

-- the same by the owner
abbrev pub link_by : List ObjectRecord → KeptOwner → ℕ
link_by rs Nobody = 0
link_by rs (At place) = last_link rs place
link_by rs (Unborn o) = 0

-- one more than the place of the record before the one at a place that has the same owner; 0 where there is none
abbrev pub IsPrevious : List ObjectRecord → ℕ → ℕ → Type 0
IsPrevious rs place link = (r : ObjectRecord) → slice_get rs place ≡ Some r → link ≡ link_by (take place rs) r.owner

-- a created object that lives and has its owner at a place
abbrev pub is_child_of : ℕ → ObjectRecord → Bool
is_child_of place r = r.is_created && r.lives && is_owner_at place r.owner

-- how many there are
abbrev pub child_count : List ObjectRecord → ℕ → ℕ
child_count rs place = length (filter (is_child_of place) rs)

-- the object alone, where it has this type
abbrev pub alone_if : ObjectType → Object → List Object
alone_if t o = if same_type o.ty t then o ∷ [] else []

-- a record of an object of this type that has its owner at a place
abbrev pub is_owned_there : ObjectType → ℕ → ObjectRecord → Bool
is_owned_there t place r = same_type r.object.ty t && is_owner_at place r.owner

-- the objects of a type that have their owner at a place, in order of birth
abbrev pub owned_of_type : List ObjectRecord → ObjectType → ℕ → List Object
owned_of_type rs t place = map (λ r. r.object) (filter (is_owned_there t place) rs)

-- what is kept at the record at a place fits the records
pub record IsLinked (rs : List ObjectRecord) (place : ℕ) (l : Links) : Type 0 where
  pub last : l.last_owned ≡ last_link rs place
  pub children : l.children ≡ child_count rs place
  pub previous : IsPrevious rs place l.previous

-- what is kept at each record fits the records
pub record AreLinked (rs : List ObjectRecord) (links : List Links) : Type 0 where
  pub count : length links ≡ length rs
  pub each : (place : ℕ) (l : Links) → slice_get links place ≡ Some l → IsLinked rs place l

-- no count of children is greater than the number of records
abbrev pub AreFew : List Links → Type 0
AreFew links = (place : ℕ) (other : Links) → place < length links → (slice_index_or links place other).children ≤ length links

-- the owner counts a child
abbrev pub HasChild : List Links → KeptOwner → Type 0
HasChild links owner = (place : ℕ) (other : Links) → owner ≡ At place → place < length links → 1 ≤ (slice_index_or links place other).children

-- the link that is kept at an owner
abbrev pub last_of : List Links → KeptOwner → ℕ
last_of links Nobody = 0
last_of links (At place) = option_map_or (λ l. l.last_owned) (slice_get links place) 0
last_of links (Unborn o) = 0

-- a further record with its owner at a place, and whether it is a child
abbrev pub linked_at : List Links → ℕ → ℕ → Bool → List Links
linked_at [] place link child = []
linked_at (l ∷ links) zero link child = record l { last_owned = link; children = l.children + (if child then 1 else 0) } ∷ links
linked_at (l ∷ links) (suc place) link child = l ∷ linked_at links place link child

-- the same by the owner
abbrev pub linked : List Links → KeptOwner → ℕ → Bool → List Links
linked links Nobody link child = links
linked links (At place) link child = linked_at links place link child
linked links (Unborn o) link child = links

-- a further record that is linked, with its own links
abbrev pub with_linked : List Links → KeptOwner → Bool → List Links
with_linked links owner child = linked links owner (suc (length links)) child ++ record { last_owned = 0; previous = last_of links owner; children = 0 } ∷ []

-- a child less at a place
abbrev pub unlinked_at : List Links → ℕ → List Links
unlinked_at [] place = []
unlinked_at (l ∷ links) zero = record l { children = l.children - 1 } ∷ links
unlinked_at (l ∷ links) (suc place) = l ∷ unlinked_at links place

-- the same by the owner
abbrev pub unlinked : List Links → KeptOwner → List Links
unlinked links Nobody = links
unlinked links (At place) = unlinked_at links place
unlinked links (Unborn o) = links
