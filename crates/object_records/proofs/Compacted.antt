-- The records as they are kept.
use Rattle.std.proofs.Common.{◌≡◌, ◌≤◌, ◌<◌, ◌∙◌, ◌||◌, ◌+◌, ℕ, zero, suc, cond, Bool, true, false, Option, Some, None, List, [], ◌∷◌, ◌++◌, length, get_or, refl, sym, ap, subst, arith, length-append}
use Rattle.std.specs.Prelude.{slice_get}
use Rattle.std.specs.List.{list_any}
use Rattle.std.specs.Option.{option_map_or}
use Rattle.std.proofs.Math.ListN.{set}
use Rattle.std.proofs.lemmas.Option.{slice_get-get_or}
use Rattle.handle_map.specs.Pairs.{AreDistinct, Pair, has_pair, pair, place_from as pair_place, place_of}
use Rattle.object_model.specs.declared.Object.{Object}
use Rattle.object_model.specs.Objects.{same}
use Rattle.object_records.specs.declared.kept_owner.KeptOwner.{KeptOwner}
use Rattle.object_records.specs.declared.kept_owner.KeptOwner.TheVariants.{Nobody, At, Unborn}
use Rattle.object_records.specs.declared.kept_record.KeptRecord.{KeptRecord}
use Rattle.object_records.specs.declared.kept_record.OwnerKind.{OwnerKind}
use Rattle.object_records.specs.declared.kept_record.OwnerKind.TheVariants as kind
use Rattle.object_records.specs.declared.record.ObjectRecord.{ObjectRecord}
use Rattle.object_records.specs.Compact.{AreWithin, IsCompact, IsKept, IsWithin, owner_of, record_read, records_read, strays_with}
use Rattle.object_records.specs.Passed.{owner_above}
use Rattle.object_records.specs.Table.{AreOnce, ended_at, objects_kept, pairs_kept, place_from, place_in}

-- ---- what is read of the pairs

-- the pairs of the records are those of the index
pub pairs_back : (strays : List Object) (ps : List Pair) (ks : List KeptRecord) → length ks ≡ length ps → pairs_kept (records_read strays ps ks) ≡ ps
pairs_back strays [] ks e = refl
pairs_back strays (p ∷ ps) [] e = absurd (omega (arith, e))
pairs_back strays (p ∷ ps) (k ∷ ks) e = ap (λ (xs : List Pair). p ∷ xs) (pairs_back strays ps ks (omega (arith, e)))

pub read_length : (strays : List Object) (ps : List Pair) (ks : List KeptRecord) → length ks ≡ length ps → length (records_read strays ps ks) ≡ length ks
read_length strays [] [] e = refl
read_length strays [] (k ∷ ks) e = absurd (omega (arith, e))
read_length strays (p ∷ ps) [] e = refl
read_length strays (p ∷ ps) (k ∷ ks) e = ap suc (read_length strays ps ks (omega (arith, e)))

-- the place of an object's pair is that of its record
placed_from : (k : ℕ) (rs : List ObjectRecord) (o : Object) → pair_place k (pairs_kept rs) o.ty o.number ≡ place_from k (objects_kept rs) o
placed_from k [] o = refl
placed_from k (r ∷ rs) o = ap (λ (x : Option ℕ). cond (same r.object o) (Some k) x) (placed_from (suc k) rs o)

pub place_read : (strays : List Object) (ps : List Pair) (ks : List KeptRecord) (o : Object) → length ks ≡ length ps → place_of ps o.ty o.number ≡ place_in (records_read strays ps ks) o
place_read strays ps ks o e = ap (λ (xs : List Pair). place_of xs o.ty o.number) (sym (pairs_back strays ps ks e)) ∙ placed_from 0 (records_read strays ps ks) o

-- an object without a record has no pair in the index
unplaced_from : (k : ℕ) (rs : List ObjectRecord) (o : Object) → place_from k (objects_kept rs) o ≡ None → has_pair (pairs_kept rs) o.ty o.number ≡ false
unplaced_from k [] o none = refl
unplaced_from k (r ∷ rs) o none = go (same r.object o) none (unplaced_from (suc k) rs o)
  where
    go : (u : Bool) → cond u (Some k) (place_from (suc k) (objects_kept rs) o) ≡ None → (place_from (suc k) (objects_kept rs) o ≡ None → has_pair (pairs_kept rs) o.ty o.number ≡ false) → (u || has_pair (pairs_kept rs) o.ty o.number) ≡ false
    go true e rest = cc e
    go false e rest = rest e

pub new_pair : (strays : List Object) (ps : List Pair) (ks : List KeptRecord) (o : Object) → length ks ≡ length ps → place_in (records_read strays ps ks) o ≡ None → has_pair ps o.ty o.number ≡ false
new_pair strays ps ks o e none = ap (λ (xs : List Pair). has_pair xs o.ty o.number) (sym (pairs_back strays ps ks e)) ∙ unplaced_from 0 (records_read strays ps ks) o none

-- the index holds each pair once, so no object stands twice
once_from : (rs : List ObjectRecord) → AreDistinct (pairs_kept rs) → AreOnce (objects_kept rs)
once_from [] d = tt
once_from (r ∷ rs) d = (sym (pairs rs) ∙ d.0, once_from rs d.1)
  where
    pairs : (xs : List ObjectRecord) → has_pair (pairs_kept xs) r.object.ty r.object.number ≡ list_any (λ y. same y r.object) (objects_kept xs)
    pairs [] = refl
    pairs (x ∷ xs) = ap (λ t. same x.object r.object || t) (pairs xs)

pub once_read : (strays : List Object) (ps : List Pair) (ks : List KeptRecord) → length ks ≡ length ps → AreDistinct ps → AreOnce (objects_kept (records_read strays ps ks))
once_read strays ps ks e d = once_from (records_read strays ps ks) (subst (λ (xs : List Pair). AreDistinct xs) (sym (pairs_back strays ps ks e)) d)

-- the record at a place is that of the pair there
read_there : (strays : List Object) (ps : List Pair) (ks : List KeptRecord) (place : ℕ) (p : Pair) (k : KeptRecord) → slice_get ps place ≡ Some p → slice_get ks place ≡ Some k → slice_get (records_read strays ps ks) place ≡ Some (record_read strays p k)
read_there strays [] ks place p k e f = cc e
read_there strays (q ∷ ps) [] place p k e f = cc f
read_there strays (q ∷ ps) (l ∷ ks) zero p k e f = cc (e, f)
read_there strays (q ∷ ps) (l ∷ ks) (suc place) p k e f = read_there strays ps ks place p k e f

pub record_there : (strays : List Object) (ps : List Pair) (ks : List KeptRecord) (place : ℕ) (p : Pair) (k : KeptRecord) → slice_get ps place ≡ Some p → place < length ks → k ≡ get_or ks place k → slice_get (records_read strays ps ks) place ≡ Some (record_read strays p k)
record_there strays ps ks place p k e less is = read_there strays ps ks place p k e (slice_get-get_or ks place k less ∙ ap Some (sym is))

-- the owner of an owner's record
pub above_there : (rs : List ObjectRecord) (w : KeptOwner) (place : ℕ) (r : ObjectRecord) → w ≡ At place → slice_get rs place ≡ Some r → r.owner ≡ owner_above rs w
above_there rs w place r is e = ap (λ x. option_map_or (λ (q : ObjectRecord). q.owner) x Nobody) (sym e) ∙ ap (owner_above rs) (sym is)

-- ---- a further record

-- the last of a list
last_there : (xs : List Object) (o : Object) → slice_get (xs ++ o ∷ []) (length xs) ≡ Some o
last_there [] o = refl
last_there (x ∷ xs) o = last_there xs o

front_there : (xs : List Object) (o : Object) (n : ℕ) → n < length xs → slice_get (xs ++ o ∷ []) n ≡ slice_get xs n
front_there [] o n less = absurd (omega (arith, less))
front_there (x ∷ xs) o zero less = refl
front_there (x ∷ xs) o (suc n) less = front_there xs o n (omega (arith, less))

-- an owner that wasn't born is found last
pub stray_read : (strays next : List Object) (o : Object) (place : ℕ) → next ≡ strays ++ o ∷ [] → place ≡ length strays → owner_of next place kind.Unborn ≡ Unborn o
stray_read strays next o place is at = ap (λ (xs : List Object). owner_of xs place kind.Unborn) is ∙ (ap (λ n. owner_of (strays ++ o ∷ []) n kind.Unborn) at ∙ ap (λ x. option_map_or Unborn x Nobody) (last_there strays o))

-- so many are no fewer with one more
strays_more : (strays : List Object) (w : KeptOwner) → length strays ≤ length (strays_with strays w)
strays_more strays Nobody = omega arith
strays_more strays (At place) = omega arith
strays_more strays (Unborn o) = omega (arith, length-append strays (o ∷ []))

strays_few : (strays : List Object) (w : KeptOwner) → length (strays_with strays w) ≤ suc (length strays)
strays_few strays Nobody = omega arith
strays_few strays (At place) = omega arith
strays_few strays (Unborn o) = omega (arith, length-append strays (o ∷ []))

-- what is kept is read as before
owner_same : (strays : List Object) (w : KeptOwner) (place : ℕ) (u : OwnerKind) → (u ≡ kind.Unborn → place < length strays) → owner_of (strays_with strays w) place u ≡ owner_of strays place u
owner_same strays Nobody place u inner = refl
owner_same strays (At other) place u inner = refl
owner_same strays (Unborn o) place kind.Nobody inner = refl
owner_same strays (Unborn o) place kind.Born inner = refl
owner_same strays (Unborn o) place kind.Unborn inner = ap (λ x. option_map_or Unborn x Nobody) (front_there strays o place (inner refl))

read_more : (strays : List Object) (w : KeptOwner) (ps : List Pair) (ks : List KeptRecord) (p : Pair) (k : KeptRecord) → length ks ≡ length ps → AreWithin (length strays) ks
    → records_read (strays_with strays w) (ps ++ p ∷ []) (ks ++ k ∷ []) ≡ records_read strays ps ks ++ record_read (strays_with strays w) p k ∷ []
read_more strays w [] [] p k e inner = refl
read_more strays w [] (l ∷ ks) p k e inner = absurd (omega (arith, e))
read_more strays w (q ∷ ps) [] p k e inner = absurd (omega (arith, e))
read_more strays w (q ∷ ps) (l ∷ ks) p k e inner =
    ap (λ (v : KeptOwner). record { object = record { ty = q.ty; number = q.id }; is_created = l.is_created; lives = l.lives; owner = v } ∷ records_read (strays_with strays w) (ps ++ p ∷ []) (ks ++ k ∷ [])) (owner_same strays w l.owner l.kind inner.0)
    ∙ ap (λ (rs : List ObjectRecord). record_read strays q l ∷ rs) (read_more strays w ps ks p k (omega (arith, e)) inner.1)

within_more : (n m : ℕ) (ks : List KeptRecord) (k : KeptRecord) → n ≤ m → AreWithin n ks → IsWithin m k → AreWithin m (ks ++ k ∷ [])
within_more n m [] k less inner is = (is, tt)
within_more n m (l ∷ ks) k less inner is = ((λ u. omega (arith, less, inner.0 u)), within_more n m ks k less inner.1 is)

-- what a further record makes of each part
pub record Pushes (strays next : List Object) (ps pairs : List Pair) (ks kept : List KeptRecord) (r : ObjectRecord) : Type 0 where
  pub strays_are : next ≡ strays_with strays r.owner
  pub pairs_are : pairs ≡ ps ++ pair r.object.ty r.object.number ∷ []
  pub one : KeptRecord
  pub one_is : IsKept next r one
  pub kept_are : kept ≡ ks ++ one ∷ []

-- the further record is read as it was given
one_read : (strays : List Object) (r : ObjectRecord) (k : KeptRecord) → IsKept strays r k → record_read strays (pair r.object.ty r.object.number) k ≡ r
one_read strays r k is =
    ap (λ (w : KeptOwner). record { object = r.object; is_created = k.is_created; lives = k.lives; owner = w }) is.owner
    ∙ (ap (λ u. record { object = r.object; is_created = u; lives = k.lives; owner = r.owner }) is.created ∙ ap (λ u. record { object = r.object; is_created = r.is_created; lives = u; owner = r.owner }) is.lives)

pub pushed_records : (strays next : List Object) (ps pairs : List Pair) (ks kept : List KeptRecord) (r : ObjectRecord) → IsCompact strays ps ks → Pushes strays next ps pairs ks kept r → records_read next pairs kept ≡ records_read strays ps ks ++ r ∷ []
pushed_records strays next ps pairs ks kept r is push =
    rw push.pairs_are (rw push.kept_are (
    ap (λ (xs : List Object). records_read xs (ps ++ pair r.object.ty r.object.number ∷ []) (ks ++ push.one ∷ [])) push.strays_are
    ∙ (read_more strays r.owner ps ks (pair r.object.ty r.object.number) push.one is.count is.within
    ∙ ap (λ (q : ObjectRecord). records_read strays ps ks ++ q ∷ []) (ap (λ (xs : List Object). record_read xs (pair r.object.ty r.object.number) push.one) (sym push.strays_are) ∙ one_read next r push.one push.one_is))))

pub pushed_compact : (strays next : List Object) (ps pairs : List Pair) (ks kept : List KeptRecord) (r : ObjectRecord) → IsCompact strays ps ks → Pushes strays next ps pairs ks kept r → IsCompact next pairs kept
pushed_compact strays next ps pairs ks kept r is push =
    let ones : length kept ≡ length ks + 1 = ap length push.kept_are ∙ length-append ks (push.one ∷ []) in
    let more : length pairs ≡ length ps + 1 = ap length push.pairs_are ∙ length-append ps (pair r.object.ty r.object.number ∷ []) in
    let grown : length next ≡ length (strays_with strays r.owner) = ap length push.strays_are in
    record {
      count = omega (arith, ones, more, is.count);
      within = subst (λ (xs : List KeptRecord). AreWithin (length next) xs) (sym push.kept_are) (within_more (length strays) (length next) ks push.one (omega (arith, grown, strays_more strays r.owner)) is.within push.one_is.within);
      few = omega (arith, ones, grown, strays_few strays r.owner, is.few);
    }

-- ---- an end

-- what is kept of a record is written over
pub ended_read : (strays : List Object) (ps : List Pair) (ks : List KeptRecord) (place : ℕ) (k : KeptRecord) → k ≡ get_or ks place k → records_read strays ps (set ks place (record k { lives = false })) ≡ ended_at (records_read strays ps ks) place
ended_read strays [] ks place k is = refl
ended_read strays (p ∷ ps) [] place k is = refl
ended_read strays (p ∷ ps) (l ∷ ks) zero k is = ap (λ (x : KeptRecord). record (record_read strays p x) { lives = false } ∷ records_read strays ps ks) is
ended_read strays (p ∷ ps) (l ∷ ks) (suc place) k is = ap (λ (rs : List ObjectRecord). record_read strays p l ∷ rs) (ended_read strays ps ks place k is)

ended_within : (n : ℕ) (ks : List KeptRecord) (place : ℕ) (k : KeptRecord) → k ≡ get_or ks place k → AreWithin n ks → AreWithin n (set ks place (record k { lives = false }))
ended_within n [] place k is inner = tt
ended_within n (l ∷ ks) zero k is inner = (subst (λ (x : KeptRecord). IsWithin n x) (sym is) inner.0, inner.1)
ended_within n (l ∷ ks) (suc place) k is inner = (inner.0, ended_within n ks place k is inner.1)

ended_count : (ks : List KeptRecord) (place : ℕ) (k : KeptRecord) → length (set ks place k) ≡ length ks
ended_count [] place k = refl
ended_count (l ∷ ks) zero k = refl
ended_count (l ∷ ks) (suc place) k = ap suc (ended_count ks place k)

pub ended_compact : (strays : List Object) (ps : List Pair) (ks : List KeptRecord) (place : ℕ) (k : KeptRecord) → k ≡ get_or ks place k → IsCompact strays ps ks → IsCompact strays ps (set ks place (record k { lives = false }))
ended_compact strays ps ks place k is all =
    let many : length (set ks place (record k { lives = false })) ≡ length ks = ended_count ks place (record k { lives = false }) in
    record {
      count = omega (arith, many, all.count);
      within = ended_within (length strays) ks place k is all.within;
      few = omega (arith, many, all.few);
    }
