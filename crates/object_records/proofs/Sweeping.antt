-- Ends of what an object owns, one after the other.
use Rattle.std.proofs.Common.{◌≡◌, ◌≢◌, ◌≤◌, ◌<◌, ◌∙◌, ◌&&◌, ◌||◌, ◌==◌, ◌+◌, ℕ, zero, suc, cond, Bool, true, false, Option, Some, None, List, [], ◌∷◌, length, map, take, get_or, refl, sym, ap, subst, arith, eq-eqb}
use Rattle.std.specs.Prelude.{filter, nat_lt, slice_get}
use Rattle.std.specs.List.{list_any}
use Rattle.std.specs.Option.{option_map_or}
use Rattle.std.proofs.lemmas.List.Folds.{list_any_more}
use Rattle.std.proofs.lemmas.Bool.{eqb-true, ltb-true}
use Rattle.std.proofs.lemmas.Option.{same_Some}
use Rattle.command_tables.specs.Handles.{list_at}
use Rattle.command_tables.specs.declared.types.ObjectType.TheVariants as ty
use Rattle.command_tables.specs.declared.types.Effect.{Effect}
use Rattle.object_model.specs.declared.Object.{Object}
use Rattle.object_model.specs.declared.Argument.{Argument}
use Rattle.object_model.specs.declared.Argument.TheVariants.{Null}
use Rattle.object_model.specs.Objects.{is_in, object_of, objects_in, same}
use Rattle.object_model.specs.History.{Birth, created_in, ends_by, ends_with, owners_in}
use Rattle.layer_model.proofs.Same.{same_is}
use Rattle.object_records.specs.declared.kept_owner.KeptOwner.{KeptOwner}
use Rattle.object_records.specs.declared.kept_owner.KeptOwner.TheVariants.{Nobody, At, Unborn}
use Rattle.object_records.specs.declared.record.ObjectRecord.{ObjectRecord}
use Rattle.object_records.specs.Links.{IsPrevious, has_strays_in, is_owner_at, is_unborn, last_from, last_link, link_by}
use Rattle.object_records.specs.Passed.{IsPassed}
use Rattle.object_records.specs.Records.{DoesNotEnd, IsEndedBelow, PassesOnly, births_kept, living_kept, swept}
use Rattle.object_records.specs.Table.{AreOnce, AreOwnersBefore, before_owned, objects_kept, place_from, place_in, record_in}
use Rattle.object_records.proofs.Below.{all_kept, all_walked, is_walked, none_walked, nothing_owned, one_walked, owned_there, past_last, take_get}
use Rattle.object_records.proofs.Born.{any_in}
use Rattle.object_records.proofs.Kept.{created_found, no_record, owner_below, place_within, record_found}
use Rattle.object_records.proofs.Linking.{get_low, take_all}
use Rattle.object_records.proofs.Owned.{at_place, none_swept, past, place_once}
use Rattle.object_records.proofs.Swept.{births_swept, swept_length}
use Rattle.object_records.proofs.Walked.{IsLatest, is_at, latest, walk_back}

-- ---- what an end leaves as it was

pub swept_objects : (q : Object → Bool) (n : ℕ) (rs : List ObjectRecord) → objects_kept (swept q n rs) ≡ objects_kept rs
swept_objects q zero rs = refl
swept_objects q (suc n) [] = refl
swept_objects q (suc n) (r ∷ rs) = go (r.lives && q r.object) (swept_objects q n rs)
  where
    go : (u : Bool) → objects_kept (swept q n rs) ≡ objects_kept rs → objects_kept (cond u (record r { lives = false }) r ∷ swept q n rs) ≡ objects_kept (r ∷ rs)
    go true ih = ap (λ (os : List Object). r.object ∷ os) ih
    go false ih = ap (λ (os : List Object). r.object ∷ os) ih

pub swept_strays : (q : Object → Bool) (n : ℕ) (rs : List ObjectRecord) → has_strays_in (swept q n rs) ≡ has_strays_in rs
swept_strays q zero rs = refl
swept_strays q (suc n) [] = refl
swept_strays q (suc n) (r ∷ rs) = go (r.lives && q r.object) (swept_strays q n rs)
  where
    go : (u : Bool) → has_strays_in (swept q n rs) ≡ has_strays_in rs → has_strays_in (cond u (record r { lives = false }) r ∷ swept q n rs) ≡ has_strays_in (r ∷ rs)
    go true ih = ap (λ v. is_unborn r.owner || v) ih
    go false ih = ap (λ v. is_unborn r.owner || v) ih

-- the record at a place has the object and the owner of this one
record IsThere (now : List ObjectRecord) (m : ℕ) (r : ObjectRecord) : Type 0 where
  kept : ObjectRecord
  here : slice_get now m ≡ Some kept
  object : kept.object ≡ r.object
  owner : kept.owner ≡ r.owner

swept_get : (q : Object → Bool) (n : ℕ) (rs : List ObjectRecord) (m : ℕ) (r : ObjectRecord) → slice_get rs m ≡ Some r → IsThere (swept q n rs) m r
swept_get q zero rs m r e = record { kept = r; here = e; object = refl; owner = refl }
swept_get q (suc n) [] m r e = cc e
swept_get q (suc n) (x ∷ rs) zero r e = let is : x ≡ r = same_Some x r e in record {
  kept = cond (x.lives && q x.object) (record x { lives = false }) x;
  here = refl;
  object = object (x.lives && q x.object) ∙ ap (λ (y : ObjectRecord). y.object) is;
  owner = owner (x.lives && q x.object) ∙ ap (λ (y : ObjectRecord). y.owner) is;
}
  where
    object : (u : Bool) → (cond u (record x { lives = false }) x).object ≡ x.object
    object true = refl
    object false = refl

    owner : (u : Bool) → (cond u (record x { lives = false }) x).owner ≡ x.owner
    owner true = refl
    owner false = refl
swept_get q (suc n) (x ∷ rs) (suc m) r e = let rest = swept_get q n rs m r e in record { kept = rest.kept; here = rest.here; object = rest.object; owner = rest.owner }

swept_last : (k found place m : ℕ) (q : Object → Bool) (n : ℕ) (rs : List ObjectRecord) → last_from k found place (take m (swept q n rs)) ≡ last_from k found place (take m rs)
swept_last k found place zero q n rs = refl
swept_last k found place (suc m) q zero rs = refl
swept_last k found place (suc m) q (suc n) [] = refl
swept_last k found place (suc m) q (suc n) (r ∷ rs) = go (r.lives && q r.object) (swept_last (suc k) (cond (is_owner_at place r.owner) (suc k) found) place m q n rs)
  where
    go : (u : Bool) → last_from (suc k) (cond (is_owner_at place r.owner) (suc k) found) place (take m (swept q n rs)) ≡ last_from (suc k) (cond (is_owner_at place r.owner) (suc k) found) place (take m rs)
        → last_from k found place (cond u (record r { lives = false }) r ∷ take m (swept q n rs)) ≡ last_from k found place (r ∷ take m rs)
    go true ih = ih
    go false ih = ih

swept_link : (m : ℕ) (q : Object → Bool) (n : ℕ) (rs : List ObjectRecord) (w : KeptOwner) → link_by (take m (swept q n rs)) w ≡ link_by (take m rs) w
swept_link m q n rs Nobody = refl
swept_link m q n rs (Unborn o) = refl
swept_link m q n rs (At place) = swept_last 0 0 place m q n rs

swept_previous : (q : Object → Bool) (n : ℕ) (rs now : List ObjectRecord) (at before : ℕ) → now ≡ swept q n rs → IsPrevious now at before → IsPrevious rs at before
swept_previous q n rs now at before is previous =
    λ r e. let there = swept_get q n rs at r e in
    previous there.kept (ap (λ (xs : List ObjectRecord). slice_get xs at) is ∙ there.here)
    ∙ (ap (λ (xs : List ObjectRecord). link_by (take at xs) there.kept.owner) is ∙ (swept_link at q n rs there.kept.owner ∙ ap (λ (w : KeptOwner). link_by (take at rs) w) there.owner))

-- ---- two ends make one

swept_twice : (p q : Object → Bool) (rs : List ObjectRecord) → swept q (length rs) (swept p (length rs) rs) ≡ swept (λ o. p o || q o) (length rs) rs
swept_twice p q [] = refl
swept_twice p q (r ∷ rs) =
    ap (λ (x : ObjectRecord). x ∷ swept q (length rs) (swept p (length rs) rs)) (head r.lives refl (p r.object) (q r.object) refl)
    ∙ ap (λ (xs : List ObjectRecord). cond (r.lives && (p r.object || q r.object)) (record r { lives = false }) r ∷ xs) (swept_twice p q rs)
  where
    ended : ObjectRecord → ObjectRecord
    ended x = cond (x.lives && q x.object) (record x { lives = false }) x

    head : (a : Bool) → r.lives ≡ a → (b c : Bool) → q r.object ≡ c
        → cond ((cond (a && b) (record r { lives = false }) r).lives && q (cond (a && b) (record r { lives = false }) r).object) (record (cond (a && b) (record r { lives = false }) r) { lives = false }) (cond (a && b) (record r { lives = false }) r)
        ≡ cond (a && (b || c)) (record r { lives = false }) r
    head true e true c f = refl
    head true e false c f = ap (λ u. cond u (record r { lives = false }) r) (ap (λ u. u && q r.object) e ∙ f)
    head false e b c f = ap (λ u. cond (u && q r.object) (record r { lives = false }) r) e

swept_again : (p q : Object → Bool) (rs mid next : List ObjectRecord) → mid ≡ swept p (length rs) rs → next ≡ swept q (length mid) mid → next ≡ swept (λ o. p o || q o) (length rs) rs
swept_again p q rs mid next first second =
    second
    ∙ (ap (λ (xs : List ObjectRecord). swept q (length xs) xs) first
    ∙ (ap (λ n. swept q n (swept p (length rs) rs)) (swept_length p (length rs) rs) ∙ swept_twice p q rs))

-- tests that pass the same records
swept_same : (p q : Object → Bool) (rs : List ObjectRecord) → ((n : ℕ) (r : ObjectRecord) → slice_get rs n ≡ Some r → p r.object ≡ q r.object) → swept p (length rs) rs ≡ swept q (length rs) rs
swept_same p q [] h = refl
swept_same p q (r ∷ rs) h =
    ap (λ u. cond (r.lives && u) (record r { lives = false }) r ∷ swept p (length rs) rs) (h 0 r refl)
    ∙ ap (λ (xs : List ObjectRecord). cond (r.lives && q r.object) (record r { lives = false }) r ∷ xs) (swept_same p q rs (λ n x e. h (suc n) x e))

any_or : (t s : Object → Bool) (os : List Object) → list_any (λ y. t y || s y) os ≡ (list_any t os || list_any s os)
any_or t s [] = refl
any_or t s (o ∷ os) = ap (λ u. (t o || s o) || u) (any_or t s os) ∙ turned (t o) (s o) (list_any t os) (list_any s os)
  where
    turned : (a b c d : Bool) → ((a || b) || (c || d)) ≡ ((a || c) || (b || d))
    turned true b c d = refl
    turned false true true d = refl
    turned false true false d = refl
    turned false false c d = refl

any_same : (t s : Object → Bool) (os : List Object) → ((o : Object) → t o ≡ s o) → list_any t os ≡ list_any s os
any_same t s [] h = refl
any_same t s (o ∷ os) h = ap (λ u. u || list_any t os) (h o) ∙ ap (λ u. s o || u) (any_same t s os h)

-- ---- the walk over what an object owns

-- what was walked, with all that it owns, lives no longer
pub record IsSweeping (rs now : List ObjectRecord) (place link : ℕ) : Type 0 where
  pub left : ℕ
  pub next : link ≡ last_link (take left rs) place
  pub records : now ≡ swept (λ o. list_any (is_walked rs place link) (o ∷ owners_in (births_kept rs) o)) (length rs) rs

none_any : (t : Object → Bool) (os : List Object) → ((o : Object) → t o ≡ false) → list_any t os ≡ false
none_any t [] h = refl
none_any t (o ∷ os) h = ap (λ u. u || list_any t os) (h o) ∙ none_any t os h

pub sweep_begins : (rs : List ObjectRecord) (place link : ℕ) → link ≡ last_link rs place → IsSweeping rs rs place link
sweep_begins rs place link is = record {
  left = length rs;
  next = is ∙ ap (λ (xs : List ObjectRecord). last_link xs place) (sym (take_all rs (length rs) refl));
  records = sym (none_swept (λ o. list_any (is_walked rs place link) (o ∷ owners_in (births_kept rs) o)) rs
      (λ n r e. none_any (is_walked rs place link) (r.object ∷ owners_in (births_kept rs) r.object) (λ o. none_walked rs place link o is)));
}

-- the link leads to a record behind the owner's
pub sweep_leads : (rs now : List ObjectRecord) (place link at : ℕ) → AreOwnersBefore 0 rs → IsSweeping rs now place link → link ≡ suc at → (place < at) × (at < length rs)
sweep_leads rs now place link at all w is =
    let step = latest rs ty.Device place w.left at (sym w.next ∙ is) in
    let below : before_owned step.kept.owner ≤ at = owner_below rs at step.kept all step.here in
    (omega (arith, below, ap (λ (x : KeptOwner). before_owned x) step.owner), get_low rs step.kept at step.here)

-- among records of which some ended, only that at a place has this object
pub passes_at : (q : Object → Bool) (rs now : List ObjectRecord) (at : ℕ) (r : ObjectRecord) → now ≡ swept q (length rs) rs → AreOnce (objects_kept rs) → slice_get rs at ≡ Some r → PassesOnly now at (λ o. same o r.object)
passes_at q rs now at r is once e =
    let objects : objects_kept now ≡ objects_kept rs = ap (λ (xs : List ObjectRecord). objects_kept xs) is ∙ swept_objects q (length rs) rs in
    let same_place : 0 + at ≡ at = omega arith in
    let there : place_in now r.object ≡ Some at = ap (λ (os : List Object). place_from 0 os r.object) objects ∙ (place_once 0 rs at r once e ∙ ap (λ (m : ℕ). Some m) same_place) in
    let once_now : AreOnce (objects_kept now) = subst (λ (os : List Object). AreOnce os) (sym objects) once in
    (place_within now r.object at there, λ n x f. at_place now r.object n x once_now f ∙ ap (λ p. option_map_or (λ m. n == m) p false) there)

-- one record more, with all that it owns
pub sweep_goes : (rs now mid next : List ObjectRecord) (place link at before : ℕ) → AreOnce (objects_kept rs) → IsSweeping rs now place link → link ≡ suc at → IsPrevious now at before → IsEndedBelow now at mid
    → ((ends : Object → Bool) → PassesOnly mid at ends → next ≡ swept ends (length mid) mid) → IsSweeping rs next place before
sweep_goes rs now mid next place link at before once w is previous below ended = record {
  left = at;
  next = latest_is;
  records = swept_again p2 (λ o. same o step.kept.object) rs mid next mid_is (ended (λ o. same o step.kept.object) (passes_at p2 rs mid at step.kept mid_is once step.here))
      ∙ swept_same (λ o. p2 o || same o step.kept.object) (λ o. list_any (is_walked rs place before) (o ∷ owners_in births o)) rs (λ n r e. sym (pointwise r.object));
}
  where
    births : List Birth
    births = births_kept rs

    step : IsLatest rs ty.Device place w.left at
    step = latest rs ty.Device place w.left at (sym w.next ∙ is)

    p : Object → Bool
    p o = list_any (is_walked rs place link) (o ∷ owners_in births o)

    p2 : Object → Bool
    p2 o = p o || is_in (owners_in births o) step.kept.object

    previous_is : IsPrevious rs at before
    previous_is = swept_previous p (length rs) rs now at before w.records previous

    latest_is : before ≡ last_link (take at rs) place
    latest_is = previous_is step.kept step.here ∙ ap (λ (k : KeptOwner). link_by (take at rs) k) step.owner

    there : IsThere (swept p (length rs) rs) at step.kept
    there = swept_get p (length rs) rs at step.kept step.here

    births_same : births_kept now ≡ births
    births_same = ap (λ (xs : List ObjectRecord). births_kept xs) w.records ∙ births_swept p (length rs) rs

    mid_is : mid ≡ swept p2 (length rs) rs
    mid_is = swept_again p (λ o. is_in (owners_in births o) step.kept.object) rs now mid w.records
        (below there.kept (ap (λ (xs : List ObjectRecord). slice_get xs at) w.records ∙ there.here)
        ∙ (ap (λ (bs : List Birth). swept (λ o. is_in (owners_in bs o) there.kept.object) (length now) now) births_same ∙ ap (λ x. swept (λ o. is_in (owners_in births o) x) (length now) now) there.object))

    turned : (a b c : Bool) → (a || (b || c)) ≡ ((a || c) || b)
    turned true b c = refl
    turned false true true = refl
    turned false true false = refl
    turned false false true = refl
    turned false false false = refl

    pointwise : (o : Object) → list_any (is_walked rs place before) (o ∷ owners_in births o) ≡ (p2 o || same o step.kept.object)
    pointwise o =
        any_same (is_walked rs place before) (λ y. is_walked rs place link y || same y step.kept.object) (o ∷ owners_in births o)
        (λ y. one_walked rs place at before step.kept y (walk_back rs at before step.kept step.here previous_is) latest_is step.here step.owner ∙ ap (λ m. is_walked rs place m y || same y step.kept.object) (sym is))
        ∙ (any_or (is_walked rs place link) (λ y. same y step.kept.object) (o ∷ owners_in births o) ∙ turned (p o) (same o step.kept.object) (is_in (owners_in births o) step.kept.object))

-- tests that pass the same records that live
swept_alike : (p q : Object → Bool) (rs : List ObjectRecord) → ((n : ℕ) (r : ObjectRecord) → slice_get rs n ≡ Some r → r.lives ≡ true → p r.object ≡ q r.object) → swept p (length rs) rs ≡ swept q (length rs) rs
swept_alike p q [] h = refl
swept_alike p q (r ∷ rs) h =
    ap (λ u. cond u (record r { lives = false }) r ∷ swept p (length rs) rs) (go r.lives refl)
    ∙ ap (λ (xs : List ObjectRecord). cond (r.lives && q r.object) (record r { lives = false }) r ∷ xs) (swept_alike p q rs (λ n x e. h (suc n) x e))
  where
    go : (u : Bool) → r.lives ≡ u → (u && p r.object) ≡ (u && q r.object)
    go true lives = h 0 r refl lives
    go false lives = refl

-- past what is passed over all was walked
pub sweep_ends : (rs now : List ObjectRecord) (place link before : ℕ) → AreOwnersBefore 0 rs → AreOnce (objects_kept rs) → has_strays_in rs ≡ false → IsSweeping rs now place link → IsPassed rs place before → link ≤ before → IsEndedBelow rs place now
sweep_ends rs now place link before all once none w passed high =
    λ p e. w.records
    ∙ (swept_alike (λ o. list_any (is_walked rs place link) (o ∷ owners_in (births_kept rs) o)) (λ o. list_any (is_walked rs place 0) (o ∷ owners_in (births_kept rs) o)) rs (λ n r f lives. all_kept rs place link before n r all once none passed high f lives)
    ∙ swept_same (λ o. list_any (is_walked rs place 0) (o ∷ owners_in (births_kept rs) o)) (λ o. is_in (owners_in (births_kept rs) o) p.object) rs (λ n r f. all_walked rs place p n r all once none e f))

-- what was walked owns nothing
abbrev pub AreLeaves : List ObjectRecord → ℕ → ℕ → Type 0
AreLeaves rs place link = (n : ℕ) (r : ObjectRecord) → link ≤ n → slice_get rs n ≡ Some r → is_owner_at place r.owner ≡ true → last_link rs n ≡ 0

pub leaves_begin : (rs : List ObjectRecord) (place link : ℕ) → link ≡ last_link rs place → AreLeaves rs place link
leaves_begin rs place link is = λ n r low e there. cc (sym there ∙ past_last rs place n r (omega (arith, low, is)) e)

same_last : (q : Object → Bool) (rs now : List ObjectRecord) (n : ℕ) → now ≡ swept q (length rs) rs → last_link now n ≡ last_link rs n
same_last q rs now n is =
    ap (λ (xs : List ObjectRecord). last_link xs n) is
    ∙ (ap (λ (xs : List ObjectRecord). last_link xs n) (sym (take_all (swept q (length rs) rs) (length rs) (sym (swept_length q (length rs) rs))))
    ∙ (swept_last 0 0 n (length rs) q (length rs) rs ∙ ap (λ (xs : List ObjectRecord). last_link xs n) (take_all rs (length rs) refl)))

pub leaves_go : (rs now : List ObjectRecord) (place link at before : ℕ) → IsSweeping rs now place link → link ≡ suc at → IsPrevious now at before → AreLeaves rs place link → last_link now at ≡ 0 → AreLeaves rs place before
leaves_go rs now place link at before w is previous leaves leaf = λ n r low e there. split n r low e there (nat_lt n at) refl (n == at) refl
  where
    p : Object → Bool
    p o = list_any (is_walked rs place link) (o ∷ owners_in (births_kept rs) o)

    step : IsLatest rs ty.Device place w.left at
    step = latest rs ty.Device place w.left at (sym w.next ∙ is)

    latest_is : before ≡ last_link (take at rs) place
    latest_is = swept_previous p (length rs) rs now at before w.records previous step.kept step.here ∙ ap (λ (k : KeptOwner). link_by (take at rs) k) step.owner

    split : (n : ℕ) (r : ObjectRecord) → before ≤ n → slice_get rs n ≡ Some r → is_owner_at place r.owner ≡ true → (u : Bool) → nat_lt n at ≡ u → (v : Bool) → (n == at) ≡ v → last_link rs n ≡ 0
    split n r low e there true less v here =
        let under : n < at = ltb-true n at less in cc (sym there ∙ past_last (take at rs) place n r (omega (arith, low, latest_is)) (take_get rs at n r under e))
    split n r low e there false less true here =
        let same_place : n ≡ at = eqb-true n at here in ap (λ m. last_link rs m) same_place ∙ (sym (same_last p rs now at w.records) ∙ leaf)
    split n r low e there false less false here =
        let least : at ≤ n = grind (arith, less) in
        leaves n r (omega (arith, least, is, apart n here)) e there
      where
        apart : (m : ℕ) → (m == at) ≡ false → m ≢ at
        apart m f = λ g. cc (sym f ∙ eq-eqb m at g)

-- the record at a place before an end
record WasThere (q : Object → Bool) (rs : List ObjectRecord) (n : ℕ) (r : ObjectRecord) : Type 0 where
  old : ObjectRecord
  here : slice_get rs n ≡ Some old
  owner : old.owner ≡ r.owner
  dead : q old.object ≡ true → r.lives ≡ false

swept_was : (q : Object → Bool) (rs : List ObjectRecord) (n : ℕ) (r : ObjectRecord) → slice_get (swept q (length rs) rs) n ≡ Some r → WasThere q rs n r
swept_was q [] n r e = cc e
swept_was q (x ∷ rs) zero r e =
    let is : cond (x.lives && q x.object) (record x { lives = false }) x ≡ r = same_Some (cond (x.lives && q x.object) (record x { lives = false }) x) r e in record {
      old = x;
      here = refl;
      owner = owner (x.lives && q x.object) ∙ ap (λ (y : ObjectRecord). y.owner) is;
      dead = λ pass. sym (ap (λ (y : ObjectRecord). y.lives) is) ∙ (ap (λ u. (cond (x.lives && u) (record x { lives = false }) x).lives) pass ∙ dead x.lives refl);
    }
  where
    owner : (u : Bool) → x.owner ≡ (cond u (record x { lives = false }) x).owner
    owner true = refl
    owner false = refl

    dead : (u : Bool) → x.lives ≡ u → (cond (u && true) (record x { lives = false }) x).lives ≡ false
    dead true is = refl
    dead false is = is
swept_was q (x ∷ rs) (suc n) r e = let rest = swept_was q rs n r e in record { old = rest.old; here = rest.here; owner = rest.owner; dead = rest.dead }

-- after a walk over leaves all that is owned there can be passed over
pub leaves_end : (rs now : List ObjectRecord) (place link before : ℕ) → AreOwnersBefore 0 rs → AreOnce (objects_kept rs) → place < length rs → IsEndedBelow rs place now → IsPassed rs place before → link ≤ before → AreLeaves rs place link → IsPassed now place (length now)
leaves_end rs now place link before all once low ended passed high leaves = go (slice_get rs place) refl
  where
    leaf : (n : ℕ) (r : ObjectRecord) → slice_get rs n ≡ Some r → is_owner_at place r.owner ≡ true → (u : Bool) → nat_lt n link ≡ u → last_link rs n ≡ 0
    leaf n r e there true less = let under : n < link = ltb-true n link less in passed.leaf n r (omega (arith, under, high)) e there
    leaf n r e there false less = let least : link ≤ n = grind (arith, less) in leaves n r least e there

    go : (x : Option ObjectRecord) → slice_get rs place ≡ x → IsPassed now place (length now)
    go None e = absurd (past rs place low e)
    go (Some p) e =
        let q : Object → Bool = λ o. is_in (owners_in (births_kept rs) o) p.object in
        let is : now ≡ swept q (length rs) rs = ended p e in record {
          within = omega arith;
          dead = λ n r less f there.
              let was = swept_was q rs n r (ap (λ (xs : List ObjectRecord). slice_get xs n) (sym is) ∙ f) in
              was.dead (owned_there rs place p n was.old all once e was.here (is_at place was.old.owner (ap (λ (w : KeptOwner). is_owner_at place w) was.owner ∙ there)));
          leaf = λ n r less f there.
              let was = swept_was q rs n r (ap (λ (xs : List ObjectRecord). slice_get xs n) (sym is) ∙ f) in
              same_last q rs now n is ∙ leaf n was.old was.here (ap (λ (w : KeptOwner). is_owner_at place w) was.owner ∙ there) (nat_lt n link) refl;
        }

-- what a walk so far leaves as it was
pub sweep_strays : (rs now : List ObjectRecord) (place link : ℕ) → IsSweeping rs now place link → has_strays_in now ≡ has_strays_in rs
sweep_strays rs now place link w = ap (λ (xs : List ObjectRecord). has_strays_in xs) w.records ∙ swept_strays (λ o. list_any (is_walked rs place link) (o ∷ owners_in (births_kept rs) o)) (length rs) rs

pub sweep_length : (rs now : List ObjectRecord) (place link : ℕ) → IsSweeping rs now place link → length now ≡ length rs
sweep_length rs now place link w = ap (λ (xs : List ObjectRecord). length xs) w.records ∙ swept_length (λ o. list_any (is_walked rs place link) (o ∷ owners_in (births_kept rs) o)) (length rs) rs

-- the way on goes back
pub sweep_back : (rs now : List ObjectRecord) (place link at before : ℕ) → IsSweeping rs now place link → link ≡ suc at → IsPrevious now at before → before ≤ at
sweep_back rs now place link at before w is previous =
    let step = latest rs ty.Device place w.left at (sym w.next ∙ is) in
    let p : Object → Bool = λ o. list_any (is_walked rs place link) (o ∷ owners_in (births_kept rs) o) in
    walk_back rs at before step.kept step.here (swept_previous p (length rs) rs now at before w.records previous)

-- as many records as before
pub below_length : (rs next : List ObjectRecord) (place : ℕ) → place < length rs → IsEndedBelow rs place next → length next ≡ length rs
below_length rs next place low below = go (slice_get rs place) refl
  where
    go : (x : Option ObjectRecord) → slice_get rs place ≡ x → length next ≡ length rs
    go None e = absurd (past rs place low e)
    go (Some r) e = ap (λ (xs : List ObjectRecord). length xs) (below r e) ∙ swept_length (λ o. is_in (owners_in (births_kept rs) o) r.object) (length rs) rs

-- ---- ends of what is named

-- the record at the place of an object
pub record_there : (rs : List ObjectRecord) (o : Object) (place : ℕ) → place_in rs o ≡ Some place → (r : ObjectRecord) × (slice_get rs place ≡ Some r) × (r.object ≡ o)
record_there rs o place e = go (slice_get rs place) refl
  where
    low : place < length rs
    low = place_within rs o place e

    found : (xs : List ObjectRecord) (r : ObjectRecord) → record_in xs o ≡ Some r → same r.object o ≡ true
    found [] r h = cc h
    found (x ∷ xs) r h = first (same x.object o) refl h (λ i. found xs r i)
      where
        first : (v : Bool) → same x.object o ≡ v → cond v (Some x) (record_in xs o) ≡ Some r → (record_in xs o ≡ Some r → same r.object o ≡ true) → same r.object o ≡ true
        first true s i behind = ap (λ (y : ObjectRecord). same y.object o) (sym (same_Some x r i)) ∙ s
        first false s i behind = behind i

    go : (x : Option ObjectRecord) → slice_get rs place ≡ x → (r : ObjectRecord) × (slice_get rs place ≡ Some r) × (r.object ≡ o)
    go None f = absurd (past rs place low f)
    go (Some r) f = (r, f, same_is r.object o (found rs r (record_found rs o place e ∙ f)))

-- what a born object owns
pub ended_owned : (rs next : List ObjectRecord) (o : Object) (place : ℕ) → place_in rs o ≡ Some place → IsEndedBelow rs place next → next ≡ swept (λ x. is_in (owners_in (births_kept rs) x) o) (length rs) rs
ended_owned rs next o place e below = let there = record_there rs o place e in below there.0 there.1 ∙ ap (λ y. swept (λ x. is_in (owners_in (births_kept rs) x) y) (length rs) rs) there.2

-- what wasn't born owns nothing
pub ended_unborn : (rs : List ObjectRecord) (o : Object) → AreOwnersBefore 0 rs → AreOnce (objects_kept rs) → has_strays_in rs ≡ false → place_in rs o ≡ None → rs ≡ swept (λ x. is_in (owners_in (births_kept rs) x) o) (length rs) rs
ended_unborn rs o all once none e = sym (none_swept (λ x. is_in (owners_in (births_kept rs) x) o) rs (λ n r f. nothing_owned rs o n r all once none e f))

-- a created object with all that it owns
pub ended_named : (rs mid next : List ObjectRecord) (o : Object) (place : ℕ) → AreOnce (objects_kept rs) → created_in (births_kept rs) o ≡ true → place_in rs o ≡ Some place → IsEndedBelow rs place mid
    → ((ends : Object → Bool) → PassesOnly mid place ends → next ≡ swept ends (length mid) mid) → next ≡ swept (λ x. ends_with (births_kept rs) x o) (length rs) rs
ended_named rs mid next o place once made e below ended =
    swept_again owned (λ x. same x there.0.object) rs mid next mid_is (ended (λ x. same x there.0.object) (passes_at owned rs mid place there.0 mid_is once there.1))
    ∙ swept_same (λ x. owned x || same x there.0.object) (λ x. ends_with (births_kept rs) x o) rs
    (λ n r f. turned (owned r.object) (same r.object there.0.object) ∙ (ap (λ y. same r.object y || owned r.object) there.2 ∙ ap (λ u. u && (same r.object o || owned r.object)) (sym made)))
  where
    there : (r : ObjectRecord) × (slice_get rs place ≡ Some r) × (r.object ≡ o)
    there = record_there rs o place e

    owned : Object → Bool
    owned x = is_in (owners_in (births_kept rs) x) o

    mid_is : mid ≡ swept owned (length rs) rs
    mid_is = ended_owned rs mid o place e below

    turned : (a b : Bool) → (a || b) ≡ (b || a)
    turned true true = refl
    turned true false = refl
    turned false true = refl
    turned false false = refl

-- one that wasn't created stays with all that it owns
pub ended_given : (rs : List ObjectRecord) (o : Object) → created_in (births_kept rs) o ≡ false → rs ≡ swept (λ x. ends_with (births_kept rs) x o) (length rs) rs
ended_given rs o given = sym (none_swept (λ x. ends_with (births_kept rs) x o) rs (λ n r f. ap (λ u. u && (same r.object o || is_in (owners_in (births_kept rs) r.object) o)) given))

-- what was created was born
pub created_born : (rs : List ObjectRecord) (o : Object) → AreOnce (objects_kept rs) → created_in (births_kept rs) o ≡ true → place_in rs o ≡ None → ⊥
created_born rs o once made e = cc (sym made ∙ (created_found rs o once ∙ ap (λ x. option_map_or (λ (r : ObjectRecord). r.is_created) x false) (no_record rs o e)))

-- ---- ends of several

-- what goes with one of the first so many arguments lives no longer
pub record IsEnding (goes : List Birth → Object → Object → Bool) (rs now : List ObjectRecord) (places : List Argument) (k : ℕ) : Type 0 where
  pub records : now ≡ swept (λ o. list_any (λ a. option_map_or (goes (births_kept rs) o) (object_of a) false) (take k places)) (length rs) rs

pub ending_begins : (goes : List Birth → Object → Object → Bool) (rs : List ObjectRecord) (places : List Argument) → IsEnding goes rs rs places 0
ending_begins goes rs places = record { records = sym (none_swept (λ o. list_any (λ a. option_map_or (goes (births_kept rs) o) (object_of a) false) (take 0 places)) rs (λ n r e. refl)) }

pub ending_goes : (goes : List Birth → Object → Object → Bool) (rs now next : List ObjectRecord) (places : List Argument) (k : ℕ) → IsEnding goes rs now places k → k < length places
    → next ≡ swept (λ o. option_map_or (goes (births_kept now) o) (object_of (get_or places k Null)) false) (length now) now → IsEnding goes rs next places (k + 1)
ending_goes goes rs now next places k w less more = record {
  records = swept_again before here rs now next w.records (more ∙ ap (λ (bs : List Birth). swept (λ o. option_map_or (goes bs o) (object_of (get_or places k Null)) false) (length now) now) births_same)
      ∙ swept_same (λ o. before o || here o) (λ o. list_any (λ a. option_map_or (goes (births_kept rs) o) (object_of a) false) (take (k + 1) places)) rs
      (λ n r e. sym (list_any_more (λ a. option_map_or (goes (births_kept rs) r.object) (object_of a) false) places k Null less));
}
  where
    before : Object → Bool
    before o = list_any (λ a. option_map_or (goes (births_kept rs) o) (object_of a) false) (take k places)

    here : Object → Bool
    here o = option_map_or (goes (births_kept rs) o) (object_of (get_or places k Null)) false

    births_same : births_kept now ≡ births_kept rs
    births_same = ap (λ (xs : List ObjectRecord). births_kept xs) w.records ∙ births_swept before (length rs) rs

pub ending_ends : (goes : List Birth → Object → Object → Bool) (rs now : List ObjectRecord) (args : List (List Argument)) (p k : ℕ) → IsEnding goes rs now (list_at args p) k → length (list_at args p) ≤ k
    → now ≡ swept (λ o. list_any (goes (births_kept rs) o) (objects_in args p)) (length rs) rs
ending_ends goes rs now args p k w high =
    w.records
    ∙ swept_same (λ o. list_any (λ a. option_map_or (goes (births_kept rs) o) (object_of a) false) (take k (list_at args p))) (λ o. list_any (goes (births_kept rs) o) (objects_in args p)) rs
    (λ n r e. ap (λ (xs : List Argument). list_any (λ a. option_map_or (goes (births_kept rs) r.object) (object_of a) false) xs) (whole (list_at args p) k high) ∙ sym (any_in (goes (births_kept rs) r.object) args p))
  where
    whole : (xs : List Argument) (n : ℕ) → length xs ≤ n → take n xs ≡ xs
    whole [] zero l = refl
    whole [] (suc n) l = refl
    whole (x ∷ xs) zero l = absurd (omega (arith, l))
    whole (x ∷ xs) (suc n) l = ap (λ ys. x ∷ ys) (whole xs n (omega (arith, l)))

pub ending_strays : (goes : List Birth → Object → Object → Bool) (rs now : List ObjectRecord) (places : List Argument) (k : ℕ) → IsEnding goes rs now places k → has_strays_in now ≡ has_strays_in rs
ending_strays goes rs now places k w =
    ap (λ (xs : List ObjectRecord). has_strays_in xs) w.records ∙ swept_strays (λ o. list_any (λ a. option_map_or (goes (births_kept rs) o) (object_of a) false) (take k places)) (length rs) rs

-- an argument that stands for no object ends nothing
pub nothing_named : (goes : List Birth → Object → Object → Bool) (rs : List ObjectRecord) (a : Argument) → None ≡ object_of a → rs ≡ swept (λ o. option_map_or (goes (births_kept rs) o) (object_of a) false) (length rs) rs
nothing_named goes rs a is = sym (none_swept (λ o. option_map_or (goes (births_kept rs) o) (object_of a) false) rs (λ n r e. ap (λ x. option_map_or (goes (births_kept rs) r.object) x false) (sym is)))

-- one that stands for an object ends what goes with it
pub one_named : (goes : List Birth → Object → Object → Bool) (rs next : List ObjectRecord) (a : Argument) (o : Object) → Some o ≡ object_of a → next ≡ swept (λ x. goes (births_kept rs) x o) (length rs) rs
    → next ≡ swept (λ x. option_map_or (goes (births_kept rs) x) (object_of a) false) (length rs) rs
one_named goes rs next a o is ended = ended ∙ ap (λ y. swept (λ x. option_map_or (goes (births_kept rs) x) y false) (length rs) rs) is

living_few : (rs : List ObjectRecord) → length (living_kept rs) ≤ length rs
living_few [] = omega arith
living_few (r ∷ rs) = go r.lives (living_few rs)
  where
    go : (u : Bool) → length (living_kept rs) ≤ length rs → length (map (λ (x : ObjectRecord). x.object) (cond u (r ∷ filter (λ (x : ObjectRecord). x.lives) rs) (filter (λ (x : ObjectRecord). x.lives) rs))) ≤ suc (length rs)
    go true ih = omega (arith, ih)
    go false ih = omega (arith, ih)

-- as many ends as this can be counted
pub ends_fit : (rs : List ObjectRecord) (ended left count : ℕ) → count < 18446744073709551616 → count ≡ length rs → ended + left ≡ length (living_kept rs) → ended < 18446744073709551616
ends_fit rs ended left count fits counted is = omega (arith, living_few rs, fits, counted, is)

-- a call whose effect ends nothing
pub none_ended : (rs : List ObjectRecord) (args : List (List Argument)) (effect : Effect) → DoesNotEnd effect → rs ≡ swept (ends_by (births_kept rs) args effect) (length rs) rs
none_ended rs args effect quiet = sym (none_swept (ends_by (births_kept rs) args effect) rs (λ n r e. quiet (births_kept rs) args r.object))
