-- What an object owns, by the place of its record.
use Rattle.std.proofs.Common.{◌≡◌, ◌≤◌, ◌<◌, ◌∙◌, ◌&&◌, ◌||◌, ◌==◌, ◌+◌, ℕ, zero, suc, cond, Bool, true, false, Option, Some, None, List, [], ◌∷◌, length, map, refl, sym, ap, arith, eq-eqb}
use Rattle.std.specs.Prelude.{filter, slice_get}
use Rattle.std.specs.List.{list_any}
use Rattle.std.specs.Option.{option_map_or}
use Rattle.std.proofs.lemmas.Bool.{eqb-true}
use Rattle.std.proofs.lemmas.Option.{same_Some}
use Rattle.object_model.specs.declared.Object.{Object}
use Rattle.object_model.specs.Objects.{are_same, is_in, same}
use Rattle.object_model.specs.History.{Birth, children_in}
use Rattle.layer_model.proofs.Same.{same_is, same_self, same_sym}
use Rattle.object_records.specs.declared.kept_owner.KeptOwner.{KeptOwner}
use Rattle.object_records.specs.declared.kept_owner.KeptOwner.TheVariants.{Nobody, At, Unborn}
use Rattle.object_records.specs.declared.record.ObjectRecord.{ObjectRecord}
use Rattle.object_records.specs.Links.{child_count, has_strays_in, is_child_of, is_owner_at, is_unborn, last_from}
use Rattle.object_records.specs.Records.{PassesOnly, birth_after, births_kept, is_child, line_kept, living_kept, swept}
use Rattle.object_records.specs.Table.{AreOnce, AreOwnersBefore, LivesAt, before_owned, ended_at, objects_kept, place_from, place_in, record_in}
use Rattle.object_records.proofs.Kept.{birth_at, births_counted, first_here, lives_at, owner_low, record_found}
use Rattle.object_records.proofs.Linking.{not_same, suc_same}

-- ---- places and objects

or_false : (a b : Bool) → (a || b) ≡ false → (a ≡ false) × (b ≡ false)
or_false true b e = cc e
or_false false b e = (refl, e)

-- a record that lives
pub lives_there : (rs : List ObjectRecord) (place : ℕ) (r : ObjectRecord) → slice_get rs place ≡ Some r → r.lives ≡ true → LivesAt rs place
lives_there rs place r e lives = ap (λ x. option_map_or (λ (y : ObjectRecord). y.lives) x false) e ∙ lives

-- the place of the object of a record
pub place_once : (k : ℕ) (rs : List ObjectRecord) (n : ℕ) (r : ObjectRecord) → AreOnce (objects_kept rs) → slice_get rs n ≡ Some r → place_from k (objects_kept rs) r.object ≡ Some (k + n)
place_once k [] n r once e = cc e
place_once k (x ∷ rs) zero r once e =
    let is : x ≡ r = same_Some x r e in
    ap (λ u. cond u (Some k) (place_from (suc k) (objects_kept rs) r.object)) (ap (λ (y : ObjectRecord). same y.object r.object) is ∙ same_self r.object) ∙ ap (λ (m : ℕ). Some m) (omega arith)
place_once k (x ∷ rs) (suc n) r once e =
    ap (λ u. cond u (Some k) (place_from (suc k) (objects_kept rs) r.object)) (apart rs n once.0 e) ∙ (place_once (suc k) rs n r once.1 e ∙ ap (λ (m : ℕ). Some m) (omega arith))
  where
    apart : (xs : List ObjectRecord) (m : ℕ) → list_any (λ y. same y x.object) (objects_kept xs) ≡ false → slice_get xs m ≡ Some r → same x.object r.object ≡ false
    apart [] m h f = cc f
    apart (y ∷ xs) zero h f = same_sym x.object r.object ∙ (ap (λ (z : ObjectRecord). same z.object x.object) (sym (same_Some y r f)) ∙ (or_false (same y.object x.object) _ h).0)
    apart (y ∷ xs) (suc m) h f = apart xs m (or_false (same y.object x.object) _ h).1 f

-- the object of the record at a place is this one just where this one's place is it
pub at_place : (rs : List ObjectRecord) (o : Object) (n : ℕ) (r : ObjectRecord) → AreOnce (objects_kept rs) → slice_get rs n ≡ Some r → same r.object o ≡ option_map_or (λ place. n == place) (place_in rs o) false
at_place rs o n r once e = go (same r.object o) refl
  where
    there : place_in rs r.object ≡ Some n
    there = place_once 0 rs n r once e ∙ ap (λ (m : ℕ). Some m) (omega arith)

    found : (p : Option ℕ) → place_in rs o ≡ p → same r.object o ≡ false → false ≡ option_map_or (λ place. n == place) p false
    found None f not = refl
    found (Some place) f not = other (n == place) refl
      where
        other : (u : Bool) → (n == place) ≡ u → false ≡ u
        other false g = refl
        other true g =
            let is : n ≡ place = eqb-true n place g in
            let here : record_in rs o ≡ Some r = record_found rs o place f ∙ (ap (λ m. slice_get rs m) (sym is) ∙ e) in
            sym not ∙ same_found rs here
          where
            same_found : (xs : List ObjectRecord) → record_in xs o ≡ Some r → same r.object o ≡ true
            same_found [] h = cc h
            same_found (x ∷ xs) h = first (same x.object o) refl h (λ i. same_found xs i)
              where
                first : (v : Bool) → same x.object o ≡ v → cond v (Some x) (record_in xs o) ≡ Some r → (record_in xs o ≡ Some r → same r.object o ≡ true) → same r.object o ≡ true
                first true s i behind = ap (λ (y : ObjectRecord). same y.object o) (sym (same_Some x r i)) ∙ s
                first false s i behind = behind i

    go : (u : Bool) → same r.object o ≡ u → u ≡ option_map_or (λ place. n == place) (place_in rs o) false
    go true is = sym (ap (λ p. option_map_or (λ place. n == place) p false) (ap (λ x. place_in rs x) (sym (same_is r.object o is)) ∙ there) ∙ eq-eqb n n refl)
    go false is = found (place_in rs o) refl is

-- ---- owners by their places

pub past : {X : Type 0} (xs : List X) (n : ℕ) → n < length xs → slice_get xs n ≡ None → ⊥
past [] n low e = absurd (omega (arith, low))
past (x ∷ xs) zero low e = cc e
past (x ∷ xs) (suc n) low e = past xs n (omega (arith, low)) e

-- an owner that was born is an object just where it stands at the object's place
pub owner_same : (rs : List ObjectRecord) (o : Object) (w : KeptOwner) → AreOwnersBefore 0 rs → AreOnce (objects_kept rs) → before_owned w ≤ length rs → is_unborn w ≡ false
    → are_same (slice_get (line_kept (births_kept rs) w) 0) (Some o) ≡ option_map_or (λ place. is_owner_at place w) (place_in rs o) false
owner_same rs o Nobody all once low born = none (place_in rs o)
  where
    none : (p : Option ℕ) → false ≡ option_map_or (λ place. is_owner_at place Nobody) p false
    none None = refl
    none (Some place) = refl
owner_same rs o (Unborn x) all once low born = cc born
owner_same rs o (At q) all once low born = go (slice_get rs q) refl
  where
    go : (x : Option ObjectRecord) → slice_get rs q ≡ x → are_same (slice_get (line_kept (births_kept rs) (At q)) 0) (Some o) ≡ option_map_or (λ place. q == place) (place_in rs o) false
    go None e = absurd (past rs q (omega (arith, low)) e)
    go (Some r) e = ap (λ x. are_same x (Some o)) (first_here rs q r all e) ∙ at_place rs o q r once e

-- no owner of a record is unborn
pub born_owner : (rs : List ObjectRecord) (n : ℕ) (r : ObjectRecord) → has_strays_in rs ≡ false → slice_get rs n ≡ Some r → is_unborn r.owner ≡ false
born_owner [] n r none e = cc e
born_owner (x ∷ rs) zero r none e = ap (λ (y : ObjectRecord). is_unborn y.owner) (sym (same_Some x r e)) ∙ (or_false (is_unborn x.owner) _ none).0
born_owner (x ∷ rs) (suc n) r none e = born_owner rs n r (or_false (is_unborn x.owner) _ none).1 e

-- ---- births and records

-- the objects of births that pass a test are those of the records that pass one
pub objects_same : (all : List Birth) (f : Birth → Bool) (g : ObjectRecord → Bool) (bs : List Birth) (rs : List ObjectRecord) → length bs ≡ length rs
    → ((n : ℕ) (r : ObjectRecord) → slice_get rs n ≡ Some r → (slice_get bs n ≡ Some (birth_after all r)) × (f (birth_after all r) ≡ g r))
    → map (λ (b : Birth). b.object) (filter f bs) ≡ map (λ (r : ObjectRecord). r.object) (filter g rs)
objects_same all f g [] [] count h = refl
objects_same all f g [] (r ∷ rs) count h = absurd (omega (arith, count))
objects_same all f g (b ∷ bs) [] count h = absurd (omega (arith, count))
objects_same all f g (b ∷ bs) (r ∷ rs) count h =
    let here = h 0 r refl in
    let is : b ≡ birth_after all r = same_Some b (birth_after all r) here.0 in
    ap (λ (x : Birth). map (λ (y : Birth). y.object) (cond (f x) (x ∷ filter f bs) (filter f bs))) is
    ∙ (ap (λ u. map (λ (y : Birth). y.object) (cond u (birth_after all r ∷ filter f bs) (filter f bs))) here.1
    ∙ go (g r) (objects_same all f g bs rs (omega (arith, count)) (λ n x e. h (suc n) x e)))
  where
    go : (u : Bool) → map (λ (y : Birth). y.object) (filter f bs) ≡ map (λ (x : ObjectRecord). x.object) (filter g rs)
        → map (λ (y : Birth). y.object) (cond u (birth_after all r ∷ filter f bs) (filter f bs)) ≡ map (λ (x : ObjectRecord). x.object) (cond u (r ∷ filter g rs) (filter g rs))
    go true ih = ap (λ os. r.object ∷ os) ih
    go false ih = ih

length_objects : (rs : List ObjectRecord) → length (map (λ (r : ObjectRecord). r.object) rs) ≡ length rs
length_objects [] = refl
length_objects (r ∷ rs) = ap suc (length_objects rs)

children_same : (rs : List ObjectRecord) (o : Object) → AreOwnersBefore 0 rs → AreOnce (objects_kept rs) → has_strays_in rs ≡ false
    → children_in (births_kept rs) (is_in (living_kept rs)) o ≡ map (λ (r : ObjectRecord). r.object) (filter (λ (r : ObjectRecord). r.is_created && r.lives && option_map_or (λ place. is_owner_at place r.owner) (place_in rs o) false) rs)
children_same rs o all once none =
    objects_same (births_kept rs) (is_child (is_in (living_kept rs)) o) (λ (r : ObjectRecord). r.is_created && r.lives && option_map_or (λ place. is_owner_at place r.owner) (place_in rs o) false) (births_kept rs) rs (births_counted rs)
    (λ n r e. (
      birth_at rs n r all e,
      ap (λ u. r.is_created && u && are_same (slice_get (line_kept (births_kept rs) r.owner) 0) (Some o)) (lives_at rs n r once e)
          ∙ ap (λ u. r.is_created && r.lives && u) (owner_same rs o r.owner all once (owner_low rs n r all e (low rs n r e)) (born_owner rs n r none e)),
    ))
  where
    low : (xs : List ObjectRecord) (n : ℕ) (r : ObjectRecord) → slice_get xs n ≡ Some r → n < length xs
    low [] n r e = cc e
    low (x ∷ xs) zero r e = omega arith
    low (x ∷ xs) (suc n) r e = omega (arith, low xs n r e)

-- the children of an object are those that its record counts
pub children_counted : (rs : List ObjectRecord) (o : Object) (place : ℕ) → AreOwnersBefore 0 rs → AreOnce (objects_kept rs) → has_strays_in rs ≡ false → place_in rs o ≡ Some place
    → length (children_in (births_kept rs) (is_in (living_kept rs)) o) ≡ child_count rs place
children_counted rs o place all once none e =
    ap length (children_same rs o all once none)
    ∙ (ap (λ p. length (map (λ (r : ObjectRecord). r.object) (filter (λ (r : ObjectRecord). r.is_created && r.lives && option_map_or (λ q. is_owner_at q r.owner) p false) rs))) e ∙ length_objects (filter (is_child_of place) rs))

-- an object that isn't born has none
pub no_children : (rs : List ObjectRecord) (o : Object) → AreOwnersBefore 0 rs → AreOnce (objects_kept rs) → has_strays_in rs ≡ false → place_in rs o ≡ None
    → length (children_in (births_kept rs) (is_in (living_kept rs)) o) ≡ 0
no_children rs o all once none e =
    ap length (children_same rs o all once none)
    ∙ (ap (λ p. length (map (λ (r : ObjectRecord). r.object) (filter (λ (r : ObjectRecord). r.is_created && r.lives && option_map_or (λ q. is_owner_at q r.owner) p false) rs))) e ∙ go rs)
  where
    and_false : (a b : Bool) → (a && b && false) ≡ false
    and_false true true = refl
    and_false true false = refl
    and_false false b = refl

    go : (xs : List ObjectRecord) → length (map (λ (r : ObjectRecord). r.object) (filter (λ (r : ObjectRecord). r.is_created && r.lives && false) xs)) ≡ 0
    go [] = refl
    go (x ∷ xs) = ap (λ u. length (map (λ (r : ObjectRecord). r.object) (cond u (x ∷ filter (λ (r : ObjectRecord). r.is_created && r.lives && false) xs) (filter (λ (r : ObjectRecord). r.is_created && r.lives && false) xs)))) (and_false x.is_created x.lives) ∙ go xs

-- ---- links that lead somewhere

pub last_some : (k found place : ℕ) (rs : List ObjectRecord) → last_from k (suc found) place rs ≡ 0 → ⊥
last_some k found place [] e = omega (arith, e)
last_some k found place (r ∷ rs) e = go (is_owner_at place r.owner) e (λ f. last_some (suc k) k place rs f) (λ f. last_some (suc k) found place rs f)
  where
    go : (u : Bool) → last_from (suc k) (cond u (suc k) (suc found)) place rs ≡ 0 → (last_from (suc k) (suc k) place rs ≡ 0 → ⊥) → (last_from (suc k) (suc found) place rs ≡ 0 → ⊥) → ⊥
    go true f here behind = here f
    go false f here behind = behind f

-- ---- an end of one

-- where none passes the test, all is as it was
pub none_swept : (q : Object → Bool) (rs : List ObjectRecord) → ((n : ℕ) (r : ObjectRecord) → slice_get rs n ≡ Some r → q r.object ≡ false) → swept q (length rs) rs ≡ rs
none_swept q [] h = refl
none_swept q (r ∷ rs) h =
    ap (λ u. cond u (record r { lives = false }) r ∷ swept q (length rs) rs) (ap (λ u. r.lives && u) (h 0 r refl) ∙ none r.lives) ∙ ap (λ (xs : List ObjectRecord). r ∷ xs) (none_swept q rs (λ n x e. h (suc n) x e))
  where
    none : (a : Bool) → (a && false) ≡ false
    none true = refl
    none false = refl

-- where one passes the test, it alone lives no longer
pub one_swept : (q : Object → Bool) (rs : List ObjectRecord) (place : ℕ) (r : ObjectRecord) → PassesOnly rs place q → slice_get rs place ≡ Some r → swept q (length rs) rs ≡ cond r.lives (ended_at rs place) rs
one_swept q rs place r only e = go rs place only.1 e
  where
    go : (xs : List ObjectRecord) (at : ℕ) → ((n : ℕ) (x : ObjectRecord) → slice_get xs n ≡ Some x → q x.object ≡ (n == at)) → slice_get xs at ≡ Some r → swept q (length xs) xs ≡ cond r.lives (ended_at xs at) xs
    go [] at h f = cc f
    go (x ∷ xs) zero h f =
        ap (λ u. cond u (record x { lives = false }) x ∷ swept q (length xs) xs) (ap (λ u. x.lives && u) (h 0 x refl ∙ eq-eqb 0 0 refl) ∙ yes x.lives)
        ∙ (ap (λ (ys : List ObjectRecord). cond x.lives (record x { lives = false }) x ∷ ys) (none_swept q xs (λ n y g. h (suc n) y g ∙ not_same (suc n) 0 (λ (i : suc n ≡ 0). omega (arith, i))))
        ∙ (out x.lives ∙ ap (λ (y : ObjectRecord). cond y.lives (record x { lives = false } ∷ xs) (x ∷ xs)) (same_Some x r f)))
      where
        yes : (a : Bool) → (a && true) ≡ a
        yes true = refl
        yes false = refl

        out : (u : Bool) → cond u (record x { lives = false }) x ∷ xs ≡ cond u (record x { lives = false } ∷ xs) (x ∷ xs)
        out true = refl
        out false = refl
    go (x ∷ xs) (suc at) h f =
        ap (λ u. cond u (record x { lives = false }) x ∷ swept q (length xs) xs) (ap (λ u. x.lives && u) (h 0 x refl ∙ not_same 0 (suc at) (λ (i : 0 ≡ suc at). omega (arith, i))) ∙ no x.lives)
        ∙ (ap (λ (ys : List ObjectRecord). x ∷ ys) (go xs at (λ n y g. h (suc n) y g ∙ suc_same n at) f) ∙ out r.lives)
      where
        no : (a : Bool) → (a && false) ≡ false
        no true = refl
        no false = refl

        out : (u : Bool) → x ∷ cond u (ended_at xs at) xs ≡ cond u (x ∷ ended_at xs at) (x ∷ xs)
        out true = refl
        out false = refl
