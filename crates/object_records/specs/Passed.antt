-- Which of what an object owns a walk need not look at. Source: this project.
use Rattle.std.specs.Prelude.{◌≡◌, ◌≤◌, ◌<◌, ◌⊎◌, ℕ, zero, suc, true, false, if◌then◌else◌, nat_lt, Some, List, [], ◌∷◌, length, slice_get}
use Rattle.std.specs.Option.{option_map_or}
use Rattle.object_records.specs.declared.kept_owner.KeptOwner.{KeptOwner}
use Rattle.object_records.specs.declared.kept_owner.KeptOwner.TheVariants.{Nobody, At, Unborn}
use Rattle.object_records.specs.declared.record.ObjectRecord.{ObjectRecord}
use Rattle.object_records.specs.Links.{is_owner_at, last_link}

-- of the records before a number, none that has its owner at a place lives, nor owns another
pub record IsPassed (rs : List ObjectRecord) (place before : ℕ) : Type 0 where
  pub within : before ≤ length rs
  pub dead : (n : ℕ) (r : ObjectRecord) → n < before → slice_get rs n ≡ Some r → is_owner_at place r.owner ≡ true → r.lives ≡ false
  pub leaf : (n : ℕ) (r : ObjectRecord) → n < before → slice_get rs n ≡ Some r → is_owner_at place r.owner ≡ true → last_link rs n ≡ 0

-- the object of the record at a place is dead, and its owner stands at another
abbrev pub IsDeadAt : List ObjectRecord → ℕ → ℕ → Type 0
IsDeadAt rs place above = (r : ObjectRecord) → slice_get rs place ≡ Some r → (r.owner ≡ At above) × (r.lives ≡ false)

-- what is noted at the first records fits the records; nothing is passed over where nothing is noted
pub record ArePassed (rs : List ObjectRecord) (passed : List ℕ) : Type 0 where
  pub each : (place before : ℕ) → slice_get passed place ≡ Some before → IsPassed rs place before

-- only zeros were added
abbrev pub WasWidened : List ℕ → List ℕ → Type 0
WasWidened old new = (place n : ℕ) → slice_get new place ≡ Some n → (slice_get old place ≡ Some n) ⊎ (n ≡ 0)

-- only this number was written, and only at this place
abbrev pub WasNoted : List ℕ → List ℕ → ℕ → ℕ → Type 0
WasNoted old new place before = (at n : ℕ) → slice_get new at ≡ Some n → (slice_get old at ≡ Some n) ⊎ ((at ≡ place) × (n ≡ before))

-- no more than a number is passed over at a place
abbrev pub limited_at : List ℕ → ℕ → ℕ → List ℕ
limited_at [] place most = []
limited_at (n ∷ ns) zero most = (if nat_lt most n then most else n) ∷ ns
limited_at (n ∷ ns) (suc place) most = n ∷ limited_at ns place most

-- the same by the owner
abbrev pub limited : List ℕ → KeptOwner → ℕ → List ℕ
limited passed Nobody most = passed
limited passed (At place) most = limited_at passed place most
limited passed (Unborn o) most = passed

-- the record of an owner is passed over no longer
abbrev pub reopened : List ObjectRecord → List ℕ → KeptOwner → List ℕ
reopened rs passed Nobody = passed
reopened rs passed (At place) = option_map_or (λ r. limited passed r.owner place) (slice_get rs place) passed
reopened rs passed (Unborn o) = passed

-- the owner of the owner's record
abbrev pub owner_above : List ObjectRecord → KeptOwner → KeptOwner
owner_above rs Nobody = Nobody
owner_above rs (At place) = option_map_or (λ r. r.owner) (slice_get rs place) Nobody
owner_above rs (Unborn o) = Nobody
