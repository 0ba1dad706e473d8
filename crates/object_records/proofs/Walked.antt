-- What an object owns, walked from record to record.
use Rattle.std.proofs.Common.{◌≡◌, ◌≤◌, ◌<◌, ◌∙◌, ◌&&◌, ◌+◌, ℕ, zero, suc, cond, Bool, true, false, Option, Some, None, List, [], ◌∷◌, ◌++◌, length, map, take, reverse, refl, sym, ap, arith, append_assoc, append-nil}
use Rattle.std.specs.Prelude.{filter, slice_get}
use Rattle.std.specs.Option.{option_map_or}
use Rattle.std.proofs.lemmas.Bool.{eqb-true}
use Rattle.std.proofs.lemmas.List.{reverse-append}
use Rattle.std.proofs.lemmas.Option.{same_Some}
use Rattle.command_tables.specs.declared.types.ObjectType.{ObjectType}
use Rattle.command_tables.specs.Tests.{same_type}
use Rattle.object_model.specs.declared.Object.{Object}
use Rattle.object_model.specs.History.{Birth, is_owned_by}
use Rattle.object_model.specs.Uses.{owned_in}
use Rattle.object_records.specs.declared.kept_owner.KeptOwner.{KeptOwner}
use Rattle.object_records.specs.declared.kept_owner.KeptOwner.TheVariants.{Nobody, At, Unborn}
use Rattle.object_records.specs.declared.record.ObjectRecord.{ObjectRecord}
use Rattle.object_records.specs.Links.{IsPrevious, alone_if, has_strays_in, is_owned_there, is_owner_at, last_from, last_link, link_by, owned_of_type}
use Rattle.object_records.specs.Records.{births_kept}
use Rattle.object_records.specs.Table.{AreOnce, AreOwnersBefore, objects_kept, place_in}
use Rattle.object_records.proofs.Kept.{birth_at, births_counted, owner_low}
use Rattle.object_records.proofs.Linking.{get_low, last_snoc, take_all}
use Rattle.object_records.proofs.Owned.{born_owner, last_some, objects_same, owner_same}

-- ---- the first so many records

take_more : (rs : List ObjectRecord) (n : ℕ) (r : ObjectRecord) → slice_get rs n ≡ Some r → take (suc n) rs ≡ take n rs ++ r ∷ []
take_more [] n r e = cc e
take_more (x ∷ rs) zero r e = ap (λ (y : ObjectRecord). y ∷ []) (same_Some x r e)
take_more (x ∷ rs) (suc n) r e = ap (λ (xs : List ObjectRecord). x ∷ xs) (take_more rs n r e)

take_past : (rs : List ObjectRecord) (n : ℕ) → slice_get rs n ≡ None → take (suc n) rs ≡ take n rs
take_past [] zero e = refl
take_past [] (suc n) e = refl
take_past (x ∷ rs) zero e = cc e
take_past (x ∷ rs) (suc n) e = ap (λ (xs : List ObjectRecord). x ∷ xs) (take_past rs n e)

take_low : (rs : List ObjectRecord) (n : ℕ) (r : ObjectRecord) → slice_get rs n ≡ Some r → length (take n rs) ≡ n
take_low [] n r e = cc e
take_low (x ∷ rs) zero r e = refl
take_low (x ∷ rs) (suc n) r e = ap suc (take_low rs n r e)

owned_snoc : (t : ObjectType) (place : ℕ) (rs : List ObjectRecord) (r : ObjectRecord)
    → owned_of_type (rs ++ r ∷ []) t place ≡ owned_of_type rs t place ++ cond (same_type r.object.ty t && is_owner_at place r.owner) (r.object ∷ []) []
owned_snoc t place [] r = go (same_type r.object.ty t && is_owner_at place r.owner)
  where
    go : (u : Bool) → map (λ (x : ObjectRecord). x.object) (cond u (r ∷ []) []) ≡ [] ++ cond u (r.object ∷ []) []
    go true = refl
    go false = refl
owned_snoc t place (x ∷ rs) r = go (is_owned_there t place x) (owned_snoc t place rs r)
  where
    go : (u : Bool) → owned_of_type (rs ++ r ∷ []) t place ≡ owned_of_type rs t place ++ cond (same_type r.object.ty t && is_owner_at place r.owner) (r.object ∷ []) []
        → map (λ (y : ObjectRecord). y.object) (cond u (x ∷ filter (is_owned_there t place) (rs ++ r ∷ [])) (filter (is_owned_there t place) (rs ++ r ∷ [])))
        ≡ map (λ (y : ObjectRecord). y.object) (cond u (x ∷ filter (is_owned_there t place) rs) (filter (is_owned_there t place) rs)) ++ cond (same_type r.object.ty t && is_owner_at place r.owner) (r.object ∷ []) []
    go true ih = ap (λ (os : List Object). x.object ∷ os) ih
    go false ih = ih

and_false : (a : Bool) → (a && false) ≡ false
and_false true = refl
and_false false = refl

and_true : (a : Bool) → (a && true) ≡ a
and_true true = refl
and_true false = refl

none_there : (t : ObjectType) (k place : ℕ) (rs : List ObjectRecord) → last_from k 0 place rs ≡ 0 → owned_of_type rs t place ≡ []
none_there t k place [] e = refl
none_there t k place (x ∷ rs) e = go (is_owner_at place x.owner) e (λ f. none_there t (suc k) place rs f)
  where
    go : (u : Bool) → last_from (suc k) (cond u (suc k) 0) place rs ≡ 0 → (last_from (suc k) 0 place rs ≡ 0 → owned_of_type rs t place ≡ [])
        → map (λ (y : ObjectRecord). y.object) (cond (same_type x.object.ty t && u) (x ∷ filter (is_owned_there t place) rs) (filter (is_owned_there t place) rs)) ≡ []
    go true f behind = absurd (last_some (suc k) k place rs f)
    go false f behind = ap (λ u. map (λ (y : ObjectRecord). y.object) (cond u (x ∷ filter (is_owned_there t place) rs) (filter (is_owned_there t place) rs))) (and_false (same_type x.object.ty t)) ∙ behind f

-- ---- a step

-- the owner whose place it is
pub is_at : (place : ℕ) (w : KeptOwner) → is_owner_at place w ≡ true → w ≡ At place
is_at place Nobody e = cc e
is_at place (Unborn o) e = cc e
is_at place (At q) e = ap (λ (n : ℕ). At n) (eqb-true q place e)

-- the latest of the first n records with its owner at a place stands at j
pub record IsLatest (rs : List ObjectRecord) (t : ObjectType) (place n j : ℕ) : Type 0 where
  pub kept : ObjectRecord
  pub here : slice_get rs j ≡ Some kept
  pub owner : kept.owner ≡ At place
  pub owned : owned_of_type (take n rs) t place ≡ owned_of_type (take j rs) t place ++ alone_if t kept.object

pub latest : (rs : List ObjectRecord) (t : ObjectType) (place n j : ℕ) → last_link (take n rs) place ≡ suc j → IsLatest rs t place n j
latest rs t place zero j e = absurd (omega (arith, e))
latest rs t place (suc n) j e = split (slice_get rs n) refl (λ f. latest rs t place n j f)
  where
    split : (x : Option ObjectRecord) → slice_get rs n ≡ x → (last_link (take n rs) place ≡ suc j → IsLatest rs t place n j) → IsLatest rs t place (suc n) j
    split None f behind =
        let rest = behind (ap (λ (xs : List ObjectRecord). last_link xs place) (sym (take_past rs n f)) ∙ e) in record {
          kept = rest.kept;
          here = rest.here;
          owner = rest.owner;
          owned = ap (λ (xs : List ObjectRecord). owned_of_type xs t place) (take_past rs n f) ∙ rest.owned;
        }
    split (Some r) f behind = found (is_owner_at place r.owner) refl
      where
        more : last_link (take (suc n) rs) place ≡ cond (is_owner_at place r.owner) (suc (0 + length (take n rs))) (last_link (take n rs) place)
        more = ap (λ (xs : List ObjectRecord). last_link xs place) (take_more rs n r f) ∙ last_snoc 0 0 place (take n rs) r

        owned : owned_of_type (take (suc n) rs) t place ≡ owned_of_type (take n rs) t place ++ cond (same_type r.object.ty t && is_owner_at place r.owner) (r.object ∷ []) []
        owned = ap (λ (xs : List ObjectRecord). owned_of_type xs t place) (take_more rs n r f) ∙ owned_snoc t place (take n rs) r

        found : (u : Bool) → is_owner_at place r.owner ≡ u → IsLatest rs t place (suc n) j
        found true is =
            let link : suc (0 + length (take n rs)) ≡ suc j = sym (more ∙ ap (λ u. cond u (suc (0 + length (take n rs))) (last_link (take n rs) place)) is) ∙ e in
            let at : n ≡ j = omega (arith, link, take_low rs n r f) in record {
              kept = r;
              here = ap (λ (m : ℕ). slice_get rs m) (sym at) ∙ f;
              owner = is_at place r.owner is;
              owned = owned
                  ∙ (ap (λ u. owned_of_type (take n rs) t place ++ cond (same_type r.object.ty t && u) (r.object ∷ []) []) is
                  ∙ (ap (λ u. owned_of_type (take n rs) t place ++ cond u (r.object ∷ []) []) (and_true (same_type r.object.ty t)) ∙ ap (λ (m : ℕ). owned_of_type (take m rs) t place ++ alone_if t r.object) at));
            }
        found false is =
            let rest = behind (sym (more ∙ ap (λ u. cond u (suc (0 + length (take n rs))) (last_link (take n rs) place)) is) ∙ e) in record {
              kept = rest.kept;
              here = rest.here;
              owner = rest.owner;
              owned = owned
                  ∙ (ap (λ u. owned_of_type (take n rs) t place ++ cond (same_type r.object.ty t && u) (r.object ∷ []) []) is
                  ∙ (ap (λ u. owned_of_type (take n rs) t place ++ cond u (r.object ∷ []) []) (and_false (same_type r.object.ty t)) ∙ (append-nil (owned_of_type (take n rs) t place) ∙ rest.owned)));
            }

-- ---- the walk

-- so far was walked: of what is owned there, only that among the first records is left
pub record IsWalked (rs : List ObjectRecord) (t : ObjectType) (place : ℕ) (start now : List Object) (link : ℕ) : Type 0 where
  pub left : ℕ
  pub next : link ≡ last_link (take left rs) place
  pub added : now ++ reverse (owned_of_type (take left rs) t place) ≡ start ++ reverse (owned_of_type rs t place)

pub walk_begins : (rs : List ObjectRecord) (t : ObjectType) (place : ℕ) (start : List Object) (link : ℕ) → link ≡ last_link rs place → IsWalked rs t place start start link
walk_begins rs t place start link is = record {
  left = length rs;
  next = is ∙ ap (λ (xs : List ObjectRecord). last_link xs place) (sym (take_all rs (length rs) refl));
  added = ap (λ (xs : List ObjectRecord). start ++ reverse (owned_of_type xs t place)) (take_all rs (length rs) refl);
}

pub walk_within : (rs : List ObjectRecord) (t : ObjectType) (place : ℕ) (start now : List Object) (link at : ℕ) → IsWalked rs t place start now link → link ≡ suc at → at < length rs
walk_within rs t place start now link at w is =
    let step = latest rs t place w.left at (sym w.next ∙ is) in get_low rs step.kept at step.here

reverse_alone : (t : ObjectType) (o : Object) → reverse (alone_if t o) ≡ alone_if t o
reverse_alone t o = go (same_type o.ty t)
  where
    go : (u : Bool) → reverse (cond u (o ∷ []) []) ≡ cond u (o ∷ []) []
    go true = refl
    go false = refl

pub walk_goes : (rs : List ObjectRecord) (t : ObjectType) (place : ℕ) (start now next : List Object) (link at before : ℕ) (r : ObjectRecord) → IsWalked rs t place start now link → link ≡ suc at
    → slice_get rs at ≡ Some r → IsPrevious rs at before → next ≡ now ++ alone_if t r.object → IsWalked rs t place start next before
walk_goes rs t place start now next link at before r w is here previous more =
    let step = latest rs t place w.left at (sym w.next ∙ is) in
    let same : step.kept ≡ r = same_Some step.kept r (sym step.here ∙ here) in
    let owned : owned_of_type (take w.left rs) t place ≡ owned_of_type (take at rs) t place ++ alone_if t r.object
    = step.owned ∙ ap (λ (y : ObjectRecord). owned_of_type (take at rs) t place ++ alone_if t y.object) same in
    let rest : List Object = reverse (owned_of_type (take at rs) t place) in record {
      left = at;
      next = previous r here ∙ ap (λ (k : KeptOwner). link_by (take at rs) k) (ap (λ (y : ObjectRecord). y.owner) (sym same) ∙ step.owner);
      added = ap (λ (os : List Object). os ++ rest) more
          ∙ (append_assoc now (alone_if t r.object) rest
          ∙ (ap (λ (os : List Object). now ++ (os ++ rest)) (sym (reverse_alone t r.object))
          ∙ (ap (λ (os : List Object). now ++ os) (sym (ap (λ (os : List Object). reverse os) owned ∙ reverse-append (owned_of_type (take at rs) t place) (alone_if t r.object))) ∙ w.added)));
    }

last_high : (k found place : ℕ) (rs : List ObjectRecord) → found ≤ k → last_from k found place rs ≤ k + length rs
last_high k found place [] low = omega (arith, low)
last_high k found place (r ∷ rs) low = go (is_owner_at place r.owner) (last_high (suc k) (suc k) place rs (omega arith)) (last_high (suc k) found place rs (omega (arith, low)))
  where
    go : (u : Bool) → last_from (suc k) (suc k) place rs ≤ suc k + length rs → last_from (suc k) found place rs ≤ suc k + length rs → last_from (suc k) (cond u (suc k) found) place rs ≤ k + suc (length rs)
    go true a b = omega (arith, a)
    go false a b = omega (arith, b)

few : (rs : List ObjectRecord) (n : ℕ) → length (take n rs) ≤ n
few rs zero = omega arith
few [] (suc n) = omega arith
few (r ∷ rs) (suc n) = omega (arith, few rs n)

link_low : (rs : List ObjectRecord) (n : ℕ) (w : KeptOwner) → link_by (take n rs) w ≤ n
link_low rs n Nobody = omega arith
link_low rs n (Unborn o) = omega arith
link_low rs n (At place) = omega (arith, last_high 0 0 place (take n rs) (omega arith), few rs n)

-- the way on goes back
pub walk_back : (rs : List ObjectRecord) (at before : ℕ) (r : ObjectRecord) → slice_get rs at ≡ Some r → IsPrevious rs at before → before ≤ at
walk_back rs at before r here previous = omega (arith, previous r here, link_low rs at r.owner)

pub walk_ends : (rs : List ObjectRecord) (t : ObjectType) (place : ℕ) (start now : List Object) (link : ℕ) → IsWalked rs t place start now link → link ≡ 0 → now ≡ start ++ reverse (owned_of_type rs t place)
walk_ends rs t place start now link w is =
    sym (append-nil now) ∙ (ap (λ (os : List Object). now ++ reverse os) (sym (none_there t 0 place (take w.left rs) (sym w.next ∙ is))) ∙ w.added)

-- ---- births and records

owned_same : (rs : List ObjectRecord) (t : ObjectType) (o : Object) → AreOwnersBefore 0 rs → AreOnce (objects_kept rs) → has_strays_in rs ≡ false
    → owned_in (births_kept rs) t o ≡ map (λ (r : ObjectRecord). r.object) (filter (λ (r : ObjectRecord). same_type r.object.ty t && option_map_or (λ place. is_owner_at place r.owner) (place_in rs o) false) rs)
owned_same rs t o all once none =
    objects_same (births_kept rs) (λ (b : Birth). same_type b.object.ty t && is_owned_by o b) (λ (r : ObjectRecord). same_type r.object.ty t && option_map_or (λ place. is_owner_at place r.owner) (place_in rs o) false) (births_kept rs) rs (births_counted rs)
    (λ n r e. (birth_at rs n r all e, ap (λ u. same_type r.object.ty t && u) (owner_same rs o r.owner all once (owner_low rs n r all e (get_low rs r n e)) (born_owner rs n r none e))))

-- what an object owns is what has its owner at the object's place
pub owned_linked : (rs : List ObjectRecord) (t : ObjectType) (o : Object) (place : ℕ) → AreOwnersBefore 0 rs → AreOnce (objects_kept rs) → has_strays_in rs ≡ false → place_in rs o ≡ Some place
    → owned_in (births_kept rs) t o ≡ owned_of_type rs t place
owned_linked rs t o place all once none e =
    owned_same rs t o all once none
    ∙ ap (λ p. map (λ (r : ObjectRecord). r.object) (filter (λ (r : ObjectRecord). same_type r.object.ty t && option_map_or (λ q. is_owner_at q r.owner) p false) rs)) e

-- an object that isn't born owns nothing
pub none_owned_unborn : (rs : List ObjectRecord) (t : ObjectType) (o : Object) → AreOwnersBefore 0 rs → AreOnce (objects_kept rs) → has_strays_in rs ≡ false → place_in rs o ≡ None → owned_in (births_kept rs) t o ≡ []
none_owned_unborn rs t o all once none e =
    owned_same rs t o all once none
    ∙ (ap (λ p. map (λ (r : ObjectRecord). r.object) (filter (λ (r : ObjectRecord). same_type r.object.ty t && option_map_or (λ q. is_owner_at q r.owner) p false) rs)) e ∙ go rs)
  where
    go : (xs : List ObjectRecord) → map (λ (r : ObjectRecord). r.object) (filter (λ (r : ObjectRecord). same_type r.object.ty t && false) xs) ≡ []
    go [] = refl
    go (x ∷ xs) = ap (λ u. map (λ (r : ObjectRecord). r.object) (cond u (x ∷ filter (λ (r : ObjectRecord). same_type r.object.ty t && false) xs) (filter (λ (r : ObjectRecord). same_type r.object.ty t && false) xs))) (and_false (same_type x.object.ty t)) ∙ go xs
