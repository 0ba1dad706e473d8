-- The records of objects as they are kept: the pairs of an index, and 8 bytes beside each. Source: this project.
use Rattle.std.specs.Prelude.{◌≡◌, ◌≤◌, ◌<◌, ℕ, List, [], ◌∷◌, ◌++◌, length, slice_get}
use Rattle.std.specs.Option.{option_map_or}
use Rattle.handle_map.specs.Pairs.{Pair}
use Rattle.object_model.specs.declared.Object.{Object}
use Rattle.object_records.specs.declared.kept_owner.KeptOwner.{KeptOwner}
use Rattle.object_records.specs.declared.kept_owner.KeptOwner.TheVariants.{Nobody, At, Unborn}
use Rattle.object_records.specs.declared.kept_record.KeptRecord.{KeptRecord}
use Rattle.object_records.specs.declared.kept_record.OwnerKind.{OwnerKind}
use Rattle.object_records.specs.declared.kept_record.OwnerKind.TheVariants as kind
use Rattle.object_records.specs.declared.record.ObjectRecord.{ObjectRecord}

-- the owner of a kind at a place, beside the owners that weren't born
abbrev pub owner_of : List Object → ℕ → OwnerKind → KeptOwner
owner_of strays place kind.Nobody = Nobody
owner_of strays place kind.Born = At place
owner_of strays place kind.Unborn = option_map_or Unborn (slice_get strays place) Nobody

-- the owner that is kept
abbrev pub owner_read : List Object → KeptRecord → KeptOwner
owner_read strays k = owner_of strays k.owner k.kind

-- the record of a pair and what is kept beside it
abbrev pub record_read : List Object → Pair → KeptRecord → ObjectRecord
record_read strays p k = record { object = record { ty = p.ty; number = p.id }; is_created = k.is_created; lives = k.lives; owner = owner_read strays k }

-- the records of all pairs
abbrev pub records_read : List Object → List Pair → List KeptRecord → List ObjectRecord
records_read strays [] ks = []
records_read strays (p ∷ ps) [] = []
records_read strays (p ∷ ps) (k ∷ ks) = record_read strays p k ∷ records_read strays ps ks

-- an owner that wasn't born stands among so many
abbrev pub IsWithin : ℕ → KeptRecord → Type 0
IsWithin count k = k.kind ≡ kind.Unborn → k.owner < count

-- each of them does
abbrev pub AreWithin : ℕ → List KeptRecord → Type 0
AreWithin count [] = Unit {0}
AreWithin count (k ∷ ks) = IsWithin count k × AreWithin count ks

-- what is kept fits the pairs and the owners that weren't born
pub record IsCompact (strays : List Object) (pairs : List Pair) (kept : List KeptRecord) : Type 0 where
  pub count : length kept ≡ length pairs
  pub within : AreWithin (length strays) kept
  pub few : length strays ≤ length kept

-- the owners that weren't born, with this one where it is one
abbrev pub strays_with : List Object → KeptOwner → List Object
strays_with strays Nobody = strays
strays_with strays (At place) = strays
strays_with strays (Unborn o) = strays ++ o ∷ []

-- this is kept of a record
pub record IsKept (strays : List Object) (r : ObjectRecord) (k : KeptRecord) : Type 0 where
  pub owner : owner_read strays k ≡ r.owner
  pub within : IsWithin (length strays) k
  pub created : k.is_created ≡ r.is_created
  pub lives : k.lives ≡ r.lives
