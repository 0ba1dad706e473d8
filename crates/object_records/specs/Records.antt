-- The births and the living objects of the records. Source: this project.
use Rattle.std.specs.Prelude.{◌≡◌, ◌<◌, ◌==◌, ℕ, zero, suc, Bool, true, false, not, ◌&&◌, if◌then◌else◌, length, Some, List, [], ◌∷◌, ◌++◌, map, filter, slice_get}
use Rattle.std.specs.Option.{option_map_or}
use Rattle.command_tables.specs.declared.types.ObjectType.TheVariants as ty
use Rattle.command_tables.specs.declared.types.ObjectType.{ObjectType}
use Rattle.command_tables.specs.Tests.{same_type}
use Rattle.command_tables.specs.declared.types.Effect.{Effect}
use Rattle.object_model.specs.declared.Argument.{Argument}
use Rattle.object_model.specs.declared.Object.{Object}
use Rattle.object_model.specs.Objects.{is_in}
use Rattle.object_model.specs.History.{Birth, born_in, ends_by, is_owned_by, owners_in}
use Rattle.layer_model.specs.Parts.{LifeModel}
use Rattle.layer_model.specs.Reading.{read_results}
use Rattle.object_records.specs.declared.kept_owner.KeptOwner.{KeptOwner}
use Rattle.object_records.specs.declared.kept_owner.KeptOwner.TheVariants.{Nobody, At, Unborn}
use Rattle.object_records.specs.declared.record.ObjectRecord.{ObjectRecord}

-- what is kept of objects, and how many further ones can be born with no further memory
pub record KeptObjects : Type 0 where
  pub kept : LifeModel
  pub spare : ℕ

-- the owner that is kept, with its own owners as they stand in these births
abbrev pub line_kept : List Birth → KeptOwner → List Object
line_kept births Nobody = []
line_kept births (At place) = option_map_or (λ b. b.object ∷ b.owners) (slice_get births place) []
line_kept births (Unborn o) = o ∷ []

-- the birth of a record, where these births came before it
abbrev pub birth_after : List Birth → ObjectRecord → Birth
birth_after births r = record { object = r.object; created = r.is_created; owners = line_kept births r.owner }

-- births, and then those of further records
abbrev pub births_on : List Birth → List ObjectRecord → List Birth
births_on births [] = births
births_on births (r ∷ rs) = births_on (births ++ birth_after births r ∷ []) rs

-- the births of all records
abbrev pub births_kept : List ObjectRecord → List Birth
births_kept rs = births_on [] rs

-- the objects that live, in order of birth
abbrev pub living_kept : List ObjectRecord → List Object
living_kept rs = map (λ r. r.object) (filter (λ r. r.lives) rs)

-- the object is a device
abbrev pub is_device : Object → Bool
is_device o = same_type o.ty ty.Device

-- a birth that counts as a child of an object
abbrev pub is_child : (Object → Bool) → Object → Birth → Bool
is_child living o b = b.created && living b.object && is_owned_by o b

-- the object of a birth, where it has this type and owner
abbrev pub owned_at : List Birth → ObjectType → Object → ℕ → List Object
owned_at births t o place = option_map_or (λ b. if same_type b.object.ty t && is_owned_by o b then b.object ∷ [] else []) (slice_get births place) []

-- the record of an object that a call has just made or given
abbrev pub new_record : Bool → KeptOwner → Object → ObjectRecord
new_record created owner o = record { object = o; is_created = created; lives = true; owner = owner }

-- the records of the objects of results that weren't born yet
abbrev pub new_records : Bool → KeptOwner → List Birth → ObjectType → List ℕ → List ObjectRecord
new_records created owner births t hs = map (new_record created owner) (filter (λ o. not (born_in births o)) (read_results t hs))

-- the objects that pass the test live no longer, among the first so many
abbrev pub swept : (Object → Bool) → ℕ → List ObjectRecord → List ObjectRecord
swept ends zero rs = rs
swept ends (suc n) [] = []
swept ends (suc n) (r ∷ rs) = (if r.lives && ends r.object then record r { lives = false } else r) ∷ swept ends n rs

-- a call of this effect ends nothing
abbrev pub DoesNotEnd : Effect → Type 0
DoesNotEnd effect = (births : List Birth) (args : List (List Argument)) (o : Object) → ends_by births args effect o ≡ false

-- the object of the record at a place lives, and passes the test
abbrev pub EndsThere : List ObjectRecord → ℕ → (Object → Bool) → Bool → Type 0
EndsThere rs place ends answer = (r : ObjectRecord) → slice_get rs place ≡ Some r → answer ≡ (r.lives && ends r.object)

-- of the objects of the records only that at this place passes the test
abbrev pub PassesOnly : List ObjectRecord → ℕ → (Object → Bool) → Type 0
PassesOnly rs place ends = (place < length rs) × ((n : ℕ) (r : ObjectRecord) → slice_get rs n ≡ Some r → ends r.object ≡ (n == place))

-- what the object of the record at a place owns at any depth lives no longer
abbrev pub IsEndedBelow : List ObjectRecord → ℕ → List ObjectRecord → Type 0
IsEndedBelow rs place next = (r : ObjectRecord) → slice_get rs place ≡ Some r → next ≡ swept (λ o. is_in (owners_in (births_kept rs) o) r.object) (length rs) rs
