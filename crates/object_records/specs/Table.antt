-- Records in order of birth, found by the type and the handle of their object. Source: this project.
use Rattle.std.specs.Prelude.{◌≡◌, ◌≤◌, ℕ, zero, suc, Bool, true, false, if◌then◌else◌, Option, Some, None, List, [], ◌∷◌, length, map, find, slice_get}
use Rattle.std.specs.List.{list_any}
use Rattle.std.specs.Option.{option_map_or}
use Rattle.handle_map.specs.Pairs.{Pair, pair}
use Rattle.object_model.specs.declared.Object.{Object}
use Rattle.object_model.specs.Objects.{same}
use Rattle.object_records.specs.declared.kept_owner.KeptOwner.{KeptOwner}
use Rattle.object_records.specs.declared.kept_owner.KeptOwner.TheVariants.{Nobody, At, Unborn}
use Rattle.object_records.specs.declared.links.Links.{Links}
use Rattle.object_records.specs.declared.record.ObjectRecord.{ObjectRecord}
use Rattle.object_records.specs.Links.{AreLinked, has_strays_in}
use Rattle.object_records.specs.Passed.{ArePassed}
use Rattle.object_records.specs.Queues.{padded, queues_seen}

-- all records, the oldest first, and how many further ones can be held with no further memory
pub record TableState : Type 0 where
  pub records : List ObjectRecord
  pub spare : ℕ

-- the pair of a record's object
abbrev pub pair_kept : ObjectRecord → Pair
pair_kept r = pair r.object.ty r.object.number

-- the index: the pairs of the objects, in order of birth
abbrev pub pairs_kept : List ObjectRecord → List Pair
pairs_kept rs = map pair_kept rs

-- how many records must stand before what has this owner
abbrev pub before_owned : KeptOwner → ℕ
before_owned Nobody = 0
before_owned (At place) = suc place
before_owned (Unborn o) = 0

-- the owner of each record stands before it; the first record has this place
abbrev pub AreOwnersBefore : ℕ → List ObjectRecord → Type 0
AreOwnersBefore k [] = Unit {0}
AreOwnersBefore k (r ∷ rs) = (before_owned r.owner ≤ k) × AreOwnersBefore (suc k) rs

-- the links, those between queues, what is passed over and the note of unborn owners fit the records, and their owners stand before them
pub record IsTable (records : List ObjectRecord) (links queues : List Links) (passed : List ℕ) (strays : Bool) : Type 0 where
  pub owners : AreOwnersBefore 0 records
  pub linked : AreLinked records links
  pub queued : AreLinked (queues_seen records) (padded (length records) queues)
  pub short : length queues ≤ length records
  pub passing : ArePassed records passed
  pub stray : strays ≡ has_strays_in records

-- the object of the record at a place lives
abbrev pub LivesAt : List ObjectRecord → ℕ → Type 0
LivesAt records place = option_map_or (λ r. r.lives) (slice_get records place) false ≡ true

-- the objects of the records
abbrev pub objects_kept : List ObjectRecord → List Object
objects_kept rs = map (λ r. r.object) rs

-- the place of an object among others, counted from this number on
abbrev pub place_from : ℕ → List Object → Object → Option ℕ
place_from k [] o = None
place_from k (x ∷ xs) o = if same x o then Some k else place_from (suc k) xs o

-- the place of an object's record
abbrev pub place_in : List ObjectRecord → Object → Option ℕ
place_in rs o = place_from 0 (objects_kept rs) o

-- the record of an object
abbrev pub record_in : List ObjectRecord → Object → Option ObjectRecord
record_in rs o = find (λ r. same r.object o) rs

-- no object stands twice
abbrev pub AreOnce : List Object → Type 0
AreOnce [] = Unit {0}
AreOnce (x ∷ xs) = (list_any (λ y. same y x) xs ≡ false) × AreOnce xs

-- the record at a place lives no longer
abbrev pub ended_at : List ObjectRecord → ℕ → List ObjectRecord
ended_at [] place = []
ended_at (r ∷ rs) zero = record r { lives = false } ∷ rs
ended_at (r ∷ rs) (suc place) = r ∷ ended_at rs place
