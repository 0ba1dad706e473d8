-- What an object owns that lives, walked from record to record down to what is passed over.
use Rattle.std.proofs.Common.{◌≡◌, ◌≤◌, ◌<◌, ◌∙◌, ◌&&◌, ◌+◌, ℕ, zero, suc, cond, Bool, true, false, Some, List, [], ◌∷◌, ◌++◌, length, map, take, reverse, refl, sym, ap, arith, append_assoc, append-nil, add-one}
use Rattle.std.specs.Prelude.{filter, nat_lt, slice_get}
use Rattle.std.specs.Option.{option_map_or}
use Rattle.std.proofs.lemmas.Bool.{ltb-true}
use Rattle.std.proofs.lemmas.List.{reverse-append}
use Rattle.std.proofs.lemmas.List.Elements.{filter-append}
use Rattle.std.proofs.lemmas.Option.{same_Some}
use Rattle.command_tables.specs.declared.types.ObjectType.{ObjectType}
use Rattle.command_tables.specs.Tests.{same_type}
use Rattle.object_model.specs.declared.Object.{Object}
use Rattle.object_model.specs.Objects.{is_in}
use Rattle.object_model.specs.History.{Birth, is_owned_by}
use Rattle.object_model.specs.Uses.{owned_in}
use Rattle.object_records.specs.declared.kept_owner.KeptOwner.{KeptOwner}
use Rattle.object_records.specs.declared.record.ObjectRecord.{ObjectRecord}
use Rattle.object_records.specs.Links.{IsPrevious, alone_if, is_owned_there, is_owner_at, last_link, link_by, owned_of_type}
use Rattle.object_records.specs.Passed.{IsPassed}
use Rattle.object_records.specs.Records.{birth_after, births_kept, living_kept, owned_at}
use Rattle.object_records.specs.Table.{AreOnce, AreOwnersBefore, objects_kept}
use Rattle.object_records.proofs.Below.{past_last}
use Rattle.object_records.proofs.Born.{owned_next}
use Rattle.object_records.proofs.Kept.{birth_at, lives_at}
use Rattle.object_records.proofs.Linking.{get_low, take_all}
use Rattle.object_records.proofs.Walked.{latest}

-- the objects among these that live
abbrev pub living_of : List ObjectRecord → List Object → List Object
living_of rs os = filter (λ o. is_in (living_kept rs) o) os

-- ---- from record to record

-- one birth more among what is owned and lives
pub living_more : (living : Object → Bool) (t : ObjectType) (o : Object) (bs : List Birth) (i : ℕ) (start now next : List Object) → now ≡ start ++ filter living (owned_in (take i bs) t o) → next ≡ now ++ filter living (owned_at bs t o i)
    → next ≡ start ++ filter living (owned_in (take (i + 1) bs) t o)
living_more living t o bs i start now next is more =
    more
    ∙ (ap (λ os. os ++ filter living (owned_at bs t o i)) is
    ∙ (append_assoc start (filter living (owned_in (take i bs) t o)) (filter living (owned_at bs t o i))
    ∙ (ap (λ os. start ++ os) (sym (filter-append living (owned_in (take i bs) t o) (owned_at bs t o i)))
    ∙ (ap (λ os. start ++ filter living os) (sym (owned_next t o bs i)) ∙ ap (λ n. start ++ filter living (owned_in (take n bs) t o)) (sym (add-one i))))))

one_kept : (living : Object → Bool) (u v : Bool) (o : Object) → living o ≡ v → filter living (cond u (o ∷ []) []) ≡ cond v (cond u (o ∷ []) []) []
one_kept living true true o is = ap (λ v. cond v (o ∷ []) []) is
one_kept living true false o is = ap (λ v. cond v (o ∷ []) []) is
one_kept living false true o is = refl
one_kept living false false o is = refl

-- what is owned at a place, where it lives
pub living_at : (rs : List ObjectRecord) (t : ObjectType) (o : Object) (place : ℕ) (r : ObjectRecord) → AreOwnersBefore 0 rs → AreOnce (objects_kept rs) → slice_get rs place ≡ Some r
    → living_of rs (owned_at (births_kept rs) t o place) ≡ cond r.lives (owned_at (births_kept rs) t o place) []
living_at rs t o place r all once e =
    ap (λ os. living_of rs os) there
    ∙ (one_kept (λ x. is_in (living_kept rs) x) (same_type r.object.ty t && is_owned_by o (birth_after (births_kept rs) r)) r.lives r.object (lives_at rs place r once e) ∙ ap (λ os. cond r.lives os []) (sym there))
  where
    there : owned_at (births_kept rs) t o place ≡ cond (same_type r.object.ty t && is_owned_by o (birth_after (births_kept rs) r)) (r.object ∷ []) []
    there = ap (λ x. option_map_or (λ (b : Birth). cond (same_type b.object.ty t && is_owned_by o b) (b.object ∷ []) []) x []) (birth_at rs place r all e)

-- ---- by the links

-- so far was walked: of what is owned there and lives, only that among the first records is left
pub record IsListed (rs : List ObjectRecord) (t : ObjectType) (place : ℕ) (start now : List Object) (link : ℕ) : Type 0 where
  pub left : ℕ
  pub next : link ≡ last_link (take left rs) place
  pub added : now ++ reverse (living_of rs (owned_of_type (take left rs) t place)) ≡ start ++ reverse (living_of rs (owned_of_type rs t place))

pub list_begins : (rs : List ObjectRecord) (t : ObjectType) (place : ℕ) (start : List Object) (link : ℕ) → link ≡ last_link rs place → IsListed rs t place start start link
list_begins rs t place start link is = record {
  left = length rs;
  next = is ∙ ap (λ (xs : List ObjectRecord). last_link xs place) (sym (take_all rs (length rs) refl));
  added = ap (λ (xs : List ObjectRecord). start ++ reverse (living_of rs (owned_of_type xs t place))) (take_all rs (length rs) refl);
}

pub list_within : (rs : List ObjectRecord) (t : ObjectType) (place : ℕ) (start now : List Object) (link at : ℕ) → IsListed rs t place start now link → link ≡ suc at → at < length rs
list_within rs t place start now link at w is = let step = latest rs t place w.left at (sym w.next ∙ is) in get_low rs step.kept at step.here

reverse_one : (u v : Bool) (o : Object) → reverse (cond v (cond u (o ∷ []) []) []) ≡ cond v (cond u (o ∷ []) []) []
reverse_one true true o = refl
reverse_one true false o = refl
reverse_one false true o = refl
reverse_one false false o = refl

-- of what is left to walk, what the next record lists comes last
pub list_parted : (rs : List ObjectRecord) (t : ObjectType) (place : ℕ) (start now : List Object) (link at : ℕ) (r : ObjectRecord) → AreOnce (objects_kept rs) → (w : IsListed rs t place start now link) → link ≡ suc at → slice_get rs at ≡ Some r
    → living_of rs (owned_of_type (take w.left rs) t place) ≡ living_of rs (owned_of_type (take at rs) t place) ++ cond r.lives (alone_if t r.object) []
list_parted rs t place start now link at r once w is here =
    let step = latest rs t place w.left at (sym w.next ∙ is) in
    let same : step.kept ≡ r = same_Some step.kept r (sym step.here ∙ here) in
    let owned : owned_of_type (take w.left rs) t place ≡ owned_of_type (take at rs) t place ++ alone_if t r.object
    = step.owned ∙ ap (λ (y : ObjectRecord). owned_of_type (take at rs) t place ++ alone_if t y.object) same in
    let alone : living_of rs (alone_if t r.object) ≡ cond r.lives (alone_if t r.object) [] = one_kept (λ x. is_in (living_kept rs) x) (same_type r.object.ty t) r.lives r.object (lives_at rs at r once here) in
    ap (λ (os : List Object). living_of rs os) owned
    ∙ (filter-append (λ x. is_in (living_kept rs) x) (owned_of_type (take at rs) t place) (alone_if t r.object) ∙ ap (λ (os : List Object). living_of rs (owned_of_type (take at rs) t place) ++ os) alone)

pub list_goes : (rs : List ObjectRecord) (t : ObjectType) (place : ℕ) (start now next : List Object) (link at before : ℕ) (r : ObjectRecord) → AreOnce (objects_kept rs) → IsListed rs t place start now link → link ≡ suc at
    → slice_get rs at ≡ Some r → IsPrevious rs at before → next ≡ now ++ cond r.lives (alone_if t r.object) [] → IsListed rs t place start next before
list_goes rs t place start now next link at before r once w is here previous more =
    let step = latest rs t place w.left at (sym w.next ∙ is) in
    let same : step.kept ≡ r = same_Some step.kept r (sym step.here ∙ here) in
    let rest : List Object = living_of rs (owned_of_type (take at rs) t place) in
    let one : List Object = cond r.lives (alone_if t r.object) [] in
    let split : living_of rs (owned_of_type (take w.left rs) t place) ≡ rest ++ one = list_parted rs t place start now link at r once w is here in record {
      left = at;
      next = previous r here ∙ ap (λ (k : KeptOwner). link_by (take at rs) k) (ap (λ (y : ObjectRecord). y.owner) (sym same) ∙ step.owner);
      added = ap (λ (os : List Object). os ++ reverse rest) more
          ∙ (append_assoc now one (reverse rest)
          ∙ (ap (λ (os : List Object). now ++ (os ++ reverse rest)) (sym (reverse_one (same_type r.object.ty t) r.lives r.object))
          ∙ (ap (λ (os : List Object). now ++ os) (sym (ap (λ (os : List Object). reverse os) split ∙ reverse-append rest one)) ∙ w.added)));
    }

-- records that don't live list nothing
none_listed : (living : Object → Bool) (t : ObjectType) (place : ℕ) (xs : List ObjectRecord) → ((n : ℕ) (r : ObjectRecord) → slice_get xs n ≡ Some r → is_owner_at place r.owner ≡ true → living r.object ≡ false)
    → filter living (owned_of_type xs t place) ≡ []
none_listed living t place [] h = refl
none_listed living t place (x ∷ xs) h = go (same_type x.object.ty t) (is_owner_at place x.owner) refl (none_listed living t place xs (λ n r e. h (suc n) r e))
  where
    go : (u v : Bool) → is_owner_at place x.owner ≡ v → filter living (owned_of_type xs t place) ≡ []
        → filter living (map (λ (r : ObjectRecord). r.object) (cond (u && v) (x ∷ filter (is_owned_there t place) xs) (filter (is_owned_there t place) xs))) ≡ []
    go true true is ih = ap (λ w. cond w (x.object ∷ filter living (owned_of_type xs t place)) (filter living (owned_of_type xs t place))) (h 0 x refl is) ∙ ih
    go true false is ih = ih
    go false v is ih = ih

take_was : (rs : List ObjectRecord) (n m : ℕ) (r : ObjectRecord) → slice_get (take n rs) m ≡ Some r → slice_get rs m ≡ Some r
take_was rs zero m r e = cc e
take_was [] (suc n) m r e = e
take_was (x ∷ rs) (suc n) zero r e = e
take_was (x ∷ rs) (suc n) (suc m) r e = take_was rs n m r e

-- what is left when the walk comes to what is passed over doesn't live
pub list_ends : (rs : List ObjectRecord) (t : ObjectType) (place : ℕ) (start now : List Object) (link before : ℕ) → AreOnce (objects_kept rs) → IsListed rs t place start now link → IsPassed rs place before → link ≤ before
    → now ≡ start ++ reverse (living_of rs (owned_of_type rs t place))
list_ends rs t place start now link before once w passed high = sym (append-nil now) ∙ (ap (λ (os : List Object). now ++ reverse os) (sym none) ∙ w.added)
  where
    low : (n : ℕ) (r : ObjectRecord) → slice_get (take w.left rs) n ≡ Some r → is_owner_at place r.owner ≡ true → n < last_link (take w.left rs) place
    low n r e there = go (nat_lt n (last_link (take w.left rs) place)) refl
      where
        go : (u : Bool) → nat_lt n (last_link (take w.left rs) place) ≡ u → n < last_link (take w.left rs) place
        go true less = ltb-true n (last_link (take w.left rs) place) less
        go false less = let least : last_link (take w.left rs) place ≤ n = grind (arith, less) in cc (sym (past_last (take w.left rs) place n r least e) ∙ there)

    dead : (n : ℕ) (r : ObjectRecord) → slice_get (take w.left rs) n ≡ Some r → is_owner_at place r.owner ≡ true → is_in (living_kept rs) r.object ≡ false
    dead n r e there =
        let was : slice_get rs n ≡ Some r = take_was rs w.left n r e in lives_at rs n r once was ∙ passed.dead n r (omega (arith, low n r e there, w.next, high)) was there

    none : living_of rs (owned_of_type (take w.left rs) t place) ≡ []
    none = none_listed (λ x. is_in (living_kept rs) x) t place (take w.left rs) (λ n r e there. dead n r e there)
