-- Records that are added by the results of a call.
use Rattle.std.proofs.Common.{◌≡◌, ◌<◌, ◌≤◌, ◌∙◌, ◌||◌, ◌==◌, ◌+◌, ℕ, zero, suc, cond, Bool, true, false, not, Option, Some, None, List, [], ◌∷◌, ◌++◌, map, length, drop, get_or, refl, sym, subst, ap, arith, add-one, length-append, append_assoc}
use Rattle.std.specs.Prelude.{filter, is_some, slice_get}
use Rattle.std.specs.List.{IsDistinct, AllByRecursion}
use Rattle.std.specs.Option.{option_map_or}
use Rattle.std.proofs.Math.Seq.{drop-cons}
use Rattle.std.proofs.lemmas.List.{append-nil}
use Rattle.std.proofs.lemmas.List.Folds.{list_any-append}
use Rattle.std.proofs.lemmas.Option.{same_Some, slice_get-get_or}
use Rattle.command_tables.specs.declared.types.ObjectType.{ObjectType}
use Rattle.object_model.specs.declared.Object.{Object}
use Rattle.object_model.specs.Objects.{same}
use Rattle.object_model.specs.History.{Birth, born_in, births_of, owners_in}
use Rattle.layer_model.specs.Reading.{read_results}
use Rattle.layer_model.proofs.Same.{same_is}
use Rattle.object_records.specs.declared.kept_owner.KeptOwner.{KeptOwner}
use Rattle.object_records.specs.declared.kept_owner.KeptOwner.TheVariants.{Nobody, At}
use Rattle.object_records.specs.declared.record.ObjectRecord.{ObjectRecord}
use Rattle.object_records.specs.Records.{birth_after, births_kept, births_on, line_kept, living_kept, new_record, new_records}
use Rattle.object_records.specs.Shape.{AreNewOnce}
use Rattle.object_records.specs.Table.{AreOwnersBefore, before_owned, place_in, record_in}
use Rattle.object_records.proofs.Kept.{births_counted, born_found, line_at, line_stays, no_record, owners_found, place_within, record_found}

-- ---- the owner

record_same : (rs : List ObjectRecord) (o : Object) (r : ObjectRecord) → record_in rs o ≡ Some r → r.object ≡ o
record_same [] o r e = cc e
record_same (x ∷ rs) o r e = go (same x.object o) refl e (λ f. record_same rs o r f)
  where
    go : (u : Bool) → same x.object o ≡ u → cond u (Some x) (record_in rs o) ≡ Some r → (record_in rs o ≡ Some r → r.object ≡ o) → r.object ≡ o
    go true is f rest = ap (λ (y : ObjectRecord). y.object) (sym (same_Some x r f)) ∙ same_is x.object o is
    go false is f rest = rest f

-- a born object stands with its owners at its place
pub owner_born : (rs : List ObjectRecord) (o : Object) (place : ℕ) → AreOwnersBefore 0 rs → place_in rs o ≡ Some place → line_kept (births_kept rs) (At place) ≡ o ∷ owners_in (births_kept rs) o
owner_born rs o place all e = go (slice_get rs place) refl (record_found rs o place e)
  where
    past : (xs : List ObjectRecord) (n : ℕ) → n < length xs → slice_get xs n ≡ None → line_kept (births_kept rs) (At place) ≡ o ∷ owners_in (births_kept rs) o
    past [] n low f = absurd (omega (arith, low))
    past (x ∷ xs) zero low f = cc f
    past (x ∷ xs) (suc n) low f = past xs n (omega (arith, low)) f

    go : (r : Option ObjectRecord) → slice_get rs place ≡ r → record_in rs o ≡ r → line_kept (births_kept rs) (At place) ≡ o ∷ owners_in (births_kept rs) o
    go None f g = past rs place (place_within rs o place e) f
    go (Some r) f g =
        line_at rs place r all f
        ∙ (ap (λ x. x ∷ line_kept (births_kept rs) r.owner) (record_same rs o r g)
        ∙ sym (ap (λ os. o ∷ os) (owners_found rs o all ∙ ap (λ x. option_map_or (λ (y : ObjectRecord). line_kept (births_kept rs) y.owner) x []) g)))

-- an object that isn't born has no owners
pub owner_unborn : (rs : List ObjectRecord) (o : Object) → AreOwnersBefore 0 rs → place_in rs o ≡ None → owners_in (births_kept rs) o ≡ []
owner_unborn rs o all e = owners_found rs o all ∙ ap (λ x. option_map_or (λ (y : ObjectRecord). line_kept (births_kept rs) y.owner) x []) (no_record rs o e)

-- ---- one result

-- a lost result makes nothing
pub none_lost : (c : Bool) (w : KeptOwner) (bs : List Birth) (t : ObjectType) (h : ℕ) → h ≡ 0 → new_records c w bs t (h ∷ []) ≡ []
none_lost c w bs t h e = ap (λ n. new_records c w bs t (n ∷ [])) e

one : (c : Bool) (w : KeptOwner) (bs : List Birth) (t : ObjectType) (h : ℕ) → (h == 0) ≡ false → new_records c w bs t (h ∷ []) ≡ map (new_record c w) (filter (λ o. not (born_in bs o)) (record { ty = t; number = h } ∷ []))
one c w bs t h e = ap (λ (u : Bool). map (new_record c w) (filter (λ o. not (born_in bs o)) (cond u [] (record { ty = t; number = h } ∷ [])))) e

-- nor does one that was born
pub none_again : (c : Bool) (w : KeptOwner) (bs : List Birth) (t : ObjectType) (h : ℕ) → (h == 0) ≡ false → born_in bs (record { ty = t; number = h }) ≡ true → new_records c w bs t (h ∷ []) ≡ []
none_again c w bs t h e born = one c w bs t h e ∙ ap (λ (u : Bool). map (new_record c w) (cond (not u) (record { ty = t; number = h } ∷ []) [])) born

-- any other makes one
pub one_new : (c : Bool) (w : KeptOwner) (bs : List Birth) (t : ObjectType) (h : ℕ) → (h == 0) ≡ false → born_in bs (record { ty = t; number = h }) ≡ false → new_records c w bs t (h ∷ []) ≡ new_record c w (record { ty = t; number = h }) ∷ []
one_new c w bs t h e born = one c w bs t h e ∙ ap (λ (u : Bool). map (new_record c w) (cond (not u) (record { ty = t; number = h } ∷ []) [])) born

-- what isn't born has no place
pub unborn_place : (rs : List ObjectRecord) (o : Object) → born_in (births_kept rs) o ≡ false → place_in rs o ≡ None
unborn_place rs o e = go (place_in rs o) refl
  where
    some : (place : ℕ) → place_in rs o ≡ Some place → slice_get rs place ≡ Some (get_or rs place (new_record true Nobody o)) → place_in rs o ≡ None
    some place f g = let both : true ≡ false = sym (born_found rs o ∙ ap is_some (record_found rs o place f ∙ g)) ∙ e in cc both

    go : (p : Option ℕ) → place_in rs o ≡ p → place_in rs o ≡ None
    go None f = f
    go (Some place) f = some place f (slice_get-get_or rs place (new_record true Nobody o) (place_within rs o place f))

-- ---- all results

births_last : (bs : List Birth) (rs : List ObjectRecord) (r : ObjectRecord) → births_on bs (rs ++ r ∷ []) ≡ births_on bs rs ++ birth_after (births_on bs rs) r ∷ []
births_last bs [] r = refl
births_last bs (x ∷ rs) r = births_last (bs ++ birth_after bs x ∷ []) rs r

born_last : (rs : List ObjectRecord) (r : ObjectRecord) (o : Object) → born_in (births_kept (rs ++ r ∷ [])) o ≡ (born_in (births_kept rs) o || (same r.object o || false))
born_last rs r o = ap (λ (bs : List Birth). born_in bs o) (births_last [] rs r) ∙ list_any-append (λ (b : Birth). same b.object o) (births_kept rs) (birth_after (births_kept rs) r ∷ [])

fresh : (old new : List Birth) (o : Object) → ((x : Object) → born_in new x ≡ (born_in old x || (same o x || false))) → (xs : List Object) → AllByRecursion (λ y. same o y ≡ false) (filter (λ x. not (born_in old x)) xs)
    → filter (λ x. not (born_in new x)) xs ≡ filter (λ x. not (born_in old x)) xs
fresh old new o also [] h = refl
fresh old new o also (x ∷ xs) h = go (born_in old x) (also x) h (λ k. fresh old new o also xs k)
  where
    go : (v : Bool) → born_in new x ≡ (v || (same o x || false)) → AllByRecursion (λ y. same o y ≡ false) (cond (not v) (x ∷ filter (λ y. not (born_in old y)) xs) (filter (λ y. not (born_in old y)) xs))
        → (AllByRecursion (λ y. same o y ≡ false) (filter (λ y. not (born_in old y)) xs) → filter (λ y. not (born_in new y)) xs ≡ filter (λ y. not (born_in old y)) xs)
        → cond (not (born_in new x)) (x ∷ filter (λ y. not (born_in new y)) xs) (filter (λ y. not (born_in new y)) xs) ≡ cond (not v) (x ∷ filter (λ y. not (born_in old y)) xs) (filter (λ y. not (born_in old y)) xs)
    go true e k rest = ap (λ u. cond (not u) (x ∷ filter (λ y. not (born_in new y)) xs) (filter (λ y. not (born_in new y)) xs)) e ∙ rest k
    go false e k rest =
        ap (λ u. cond (not u) (x ∷ filter (λ y. not (born_in new y)) xs) (filter (λ y. not (born_in new y)) xs)) (e ∙ ap (λ u. u || false) k.0) ∙ ap (λ ys. x ∷ ys) (rest k.1)

step : (c : Bool) (w : KeptOwner) (t : ObjectType) (h : ℕ) (hs : List ℕ) (rs next : List ObjectRecord) → next ≡ rs ++ new_records c w (births_kept rs) t (h ∷ []) → AreNewOnce (births_kept rs) (read_results t (h ∷ hs))
    → (next ++ new_records c w (births_kept next) t hs ≡ rs ++ new_records c w (births_kept rs) t (h ∷ hs)) × AreNewOnce (births_kept next) (read_results t hs)
unfolding IsDistinct
step c w t h hs rs next is once = go (h == 0) is once
  where
    same_again : next ≡ rs ++ [] → AreNewOnce (births_kept rs) (read_results t hs) → (next ++ new_records c w (births_kept next) t hs ≡ rs ++ new_records c w (births_kept rs) t hs) × AreNewOnce (births_kept next) (read_results t hs)
    same_again is once = let same_rs : next ≡ rs = is ∙ append-nil rs in rw same_rs (refl, once)

    new : (v : Bool) → next ≡ rs ++ map (new_record c w) (cond (not v) (record { ty = t; number = h } ∷ []) [])
        → IsDistinct same (cond (not v) (record { ty = t; number = h } ∷ filter (λ o. not (born_in (births_kept rs) o)) (read_results t hs)) (filter (λ o. not (born_in (births_kept rs) o)) (read_results t hs)))
        → (next ++ new_records c w (births_kept next) t hs ≡ rs ++ map (new_record c w) (cond (not v) (record { ty = t; number = h } ∷ filter (λ o. not (born_in (births_kept rs) o)) (read_results t hs)) (filter (λ o. not (born_in (births_kept rs) o)) (read_results t hs))))
        × AreNewOnce (births_kept next) (read_results t hs)
    new true is once = same_again is once
    new false is once =
        let o : Object = record { ty = t; number = h } in
        let also : (x : Object) → born_in (births_kept next) x ≡ (born_in (births_kept rs) x || (same o x || false)) = λ x. ap (λ (xs : List ObjectRecord). born_in (births_kept xs) x) is ∙ born_last rs (new_record c w o) x in
        let rest = fresh (births_kept rs) (births_kept next) o also (read_results t hs) once.0 in (
          ap (λ xs. xs ++ new_records c w (births_kept next) t hs) is
              ∙ (append_assoc rs (new_record c w o ∷ []) (new_records c w (births_kept next) t hs)
              ∙ ap (λ (os : List Object). rs ++ new_record c w o ∷ map (new_record c w) os) rest),
          rw rest once.1,
        )

    go : (u : Bool) → next ≡ rs ++ map (new_record c w) (filter (λ o. not (born_in (births_kept rs) o)) (cond u [] (record { ty = t; number = h } ∷ [])))
        → IsDistinct same (filter (λ o. not (born_in (births_kept rs) o)) (cond u (read_results t hs) (record { ty = t; number = h } ∷ read_results t hs)))
        → (next ++ new_records c w (births_kept next) t hs ≡ rs ++ map (new_record c w) (filter (λ o. not (born_in (births_kept rs) o)) (cond u (read_results t hs) (record { ty = t; number = h } ∷ read_results t hs))))
        × AreNewOnce (births_kept next) (read_results t hs)
    go true is once = same_again is once
    go false is once = new (born_in (births_kept rs) (record { ty = t; number = h })) is once

at_place : (c : Bool) (w : KeptOwner) (t : ObjectType) (hs : List ℕ) (k : ℕ) (rs next : List ObjectRecord) → k < length hs → next ≡ rs ++ new_records c w (births_kept rs) t (get_or hs k 0 ∷ []) → AreNewOnce (births_kept rs) (read_results t (drop k hs))
    → (next ++ new_records c w (births_kept next) t (drop (k + 1) hs) ≡ rs ++ new_records c w (births_kept rs) t (drop k hs)) × AreNewOnce (births_kept next) (read_results t (drop (k + 1) hs))
at_place c w t hs k rs next less is once =
    let cut : drop k hs ≡ get_or hs k 0 ∷ drop (k + 1) hs = drop-cons hs k 0 less ∙ ap (λ n. get_or hs k 0 ∷ drop n hs) (sym (add-one k)) in
    let parts = step c w t (get_or hs k 0) (drop (k + 1) hs) rs next is (subst (λ (xs : List ℕ). AreNewOnce (births_kept rs) (read_results t xs)) cut once) in
    (parts.0 ∙ ap (λ (xs : List ℕ). rs ++ new_records c w (births_kept rs) t xs) (sym cut), parts.1)

-- one result more
pub added_more : (c : Bool) (w : KeptOwner) (t : ObjectType) (hs : List ℕ) (k : ℕ) (rs next all : List ObjectRecord) → k < length hs → next ≡ rs ++ new_records c w (births_kept rs) t (get_or hs k 0 ∷ [])
    → AreNewOnce (births_kept rs) (read_results t (drop k hs)) → rs ++ new_records c w (births_kept rs) t (drop k hs) ≡ all → next ++ new_records c w (births_kept next) t (drop (k + 1) hs) ≡ all
added_more c w t hs k rs next all less is once so_far = (at_place c w t hs k rs next less is once).0 ∙ so_far

-- what is left is new only once
pub once_more : (c : Bool) (w : KeptOwner) (t : ObjectType) (hs : List ℕ) (k : ℕ) (rs next : List ObjectRecord) → k < length hs → next ≡ rs ++ new_records c w (births_kept rs) t (get_or hs k 0 ∷ [])
    → AreNewOnce (births_kept rs) (read_results t (drop k hs)) → AreNewOnce (births_kept next) (read_results t (drop (k + 1) hs))
once_more c w t hs k rs next less is once = (at_place c w t hs k rs next less is once).1

-- no record goes
pub added_longer : (rs next more : List ObjectRecord) (n : ℕ) → next ≡ rs ++ more → n ≤ length rs → n ≤ length next
added_longer rs next more n is low = omega (arith, low, ap length is, length-append rs more)

-- ---- what the further records show

births_added : (c : Bool) (w : KeptOwner) (os : List Object) (rs : List ObjectRecord) → before_owned w ≤ length rs
    → births_kept (rs ++ map (new_record c w) os) ≡ births_kept rs ++ map (λ o. record { object = o; created = c; owners = line_kept (births_kept rs) w }) os
births_added c w [] rs low = ap (λ (xs : List ObjectRecord). births_kept xs) (append-nil rs) ∙ sym (append-nil (births_kept rs))
births_added c w (o ∷ os) rs low =
    let r : ObjectRecord = new_record c w o in
    let b : Birth = record { object = o; created = c; owners = line_kept (births_kept rs) w } in
    let last : births_kept (rs ++ r ∷ []) ≡ births_kept rs ++ b ∷ [] = births_last [] rs r in
    let line : line_kept (births_kept (rs ++ r ∷ [])) w ≡ line_kept (births_kept rs) w = ap (λ (bs : List Birth). line_kept bs w) last ∙ line_stays (births_kept rs) (r ∷ []) w (omega (arith, low, births_counted rs)) in
    ap (λ (xs : List ObjectRecord). births_kept xs) (sym (append_assoc rs (r ∷ []) (map (new_record c w) os)))
    ∙ (births_added c w os (rs ++ r ∷ []) (omega (arith, low, length-append rs (r ∷ [])))
    ∙ (ap (λ (bs : List Birth). bs ++ map (λ x. record { object = x; created = c; owners = line_kept (births_kept (rs ++ r ∷ [])) w }) os) last
    ∙ (ap (λ (l : List Object). (births_kept rs ++ b ∷ []) ++ map (λ x. record { object = x; created = c; owners = l }) os) line
    ∙ append_assoc (births_kept rs) (b ∷ []) (map (λ x. record { object = x; created = c; owners = line_kept (births_kept rs) w }) os))))

-- the births with those of a call's results
pub births_more : (c : Bool) (w : KeptOwner) (t : ObjectType) (hs : List ℕ) (rs next : List ObjectRecord) (owners : List Object) → before_owned w ≤ length rs → line_kept (births_kept rs) w ≡ owners → next ≡ rs ++ new_records c w (births_kept rs) t hs
    → births_kept next ≡ births_kept rs ++ births_of (births_kept rs) c owners (read_results t hs)
births_more c w t hs rs next owners low line is =
    ap (λ (xs : List ObjectRecord). births_kept xs) is
    ∙ (births_added c w (filter (λ o. not (born_in (births_kept rs) o)) (read_results t hs)) rs low ∙ ap (λ (l : List Object). births_kept rs ++ births_of (births_kept rs) c l (read_results t hs)) line)

living_added : (c : Bool) (w : KeptOwner) (os : List Object) (rs : List ObjectRecord) → living_kept (rs ++ map (new_record c w) os) ≡ living_kept rs ++ os
living_added c w [] [] = refl
living_added c w (o ∷ os) [] = ap (λ xs. o ∷ xs) (living_added c w os [])
living_added c w os (r ∷ rs) = go r.lives (living_added c w os rs)
  where
    go : (u : Bool) → living_kept (rs ++ map (new_record c w) os) ≡ living_kept rs ++ os
        → map (λ (x : ObjectRecord). x.object) (cond u (r ∷ filter (λ (x : ObjectRecord). x.lives) (rs ++ map (new_record c w) os)) (filter (λ (x : ObjectRecord). x.lives) (rs ++ map (new_record c w) os)))
        ≡ map (λ (x : ObjectRecord). x.object) (cond u (r ∷ filter (λ (x : ObjectRecord). x.lives) rs) (filter (λ (x : ObjectRecord). x.lives) rs)) ++ os
    go true ih = ap (λ xs. r.object ∷ xs) ih
    go false ih = ih

-- the births of objects are of these objects
pub objects_of_births : (created : Bool) (owners objects : List Object) → map (λ (b : Birth). b.object) (map (λ o. record { object = o; created = created; owners = owners }) objects) ≡ objects
objects_of_births created owners [] = refl
objects_of_births created owners (o ∷ objects) = ap (λ os. o ∷ os) (objects_of_births created owners objects)

-- the living objects with those of a call's results
pub living_more : (c : Bool) (w : KeptOwner) (t : ObjectType) (hs : List ℕ) (rs next : List ObjectRecord) (owners : List Object) → next ≡ rs ++ new_records c w (births_kept rs) t hs
    → living_kept next ≡ living_kept rs ++ map (λ (b : Birth). b.object) (births_of (births_kept rs) c owners (read_results t hs))
living_more c w t hs rs next owners is =
    ap (λ (xs : List ObjectRecord). living_kept xs) is
    ∙ (living_added c w (filter (λ o. not (born_in (births_kept rs) o)) (read_results t hs)) rs
    ∙ ap (λ os. living_kept rs ++ os) (sym (objects_of_births c owners (filter (λ o. not (born_in (births_kept rs) o)) (read_results t hs)))))

length-map : (c : Bool) (w : KeptOwner) (os : List Object) → length (map (new_record c w) os) ≡ length os
length-map c w [] = refl
length-map c w (o ∷ os) = ap suc (length-map c w os)

-- each further record lives
pub living_count : (c : Bool) (w : KeptOwner) (t : ObjectType) (hs : List ℕ) (rs next : List ObjectRecord) → next ≡ rs ++ new_records c w (births_kept rs) t hs → length (living_kept next) + length rs ≡ length (living_kept rs) + length next
living_count c w t hs rs next is =
    let os : List Object = filter (λ o. not (born_in (births_kept rs) o)) (read_results t hs) in
    omega (arith, ap length is, length-append rs (map (new_record c w) os), length-map c w os, ap (λ (xs : List ObjectRecord). length (living_kept xs)) is, ap length (living_added c w os rs), length-append (living_kept rs) os)

-- no more live than were born
pub living_few : (rs : List ObjectRecord) → length (living_kept rs) ≤ length rs
living_few [] = omega arith
living_few (r ∷ rs) = go r.lives (living_few rs)
  where
    go : (u : Bool) → length (living_kept rs) ≤ length rs → length (map (λ (x : ObjectRecord). x.object) (cond u (r ∷ filter (λ (x : ObjectRecord). x.lives) rs) (filter (λ (x : ObjectRecord). x.lives) rs))) ≤ suc (length rs)
    go true ih = omega (arith, ih)
    go false ih = omega (arith, ih)
