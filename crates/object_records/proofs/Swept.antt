-- Records whose objects live no longer.
use Rattle.std.proofs.Common.{◌≡◌, ◌<◌, ◌∙◌, ◌&&◌, ◌+◌, ℕ, zero, suc, cond, Bool, true, false, not, Some, List, [], ◌∷◌, ◌++◌, map, length, get_or, refl, sym, ap, arith, add-one}
use Rattle.std.specs.Prelude.{filter, slice_get}
use Rattle.std.proofs.lemmas.Option.{same_Some, slice_get-get_or}
use Rattle.object_model.specs.declared.Object.{Object}
use Rattle.object_model.specs.History.{Birth}
use Rattle.object_records.specs.declared.record.ObjectRecord.{ObjectRecord}
use Rattle.object_records.specs.Records.{EndsThere, birth_after, births_kept, births_on, living_kept, swept}
use Rattle.object_records.specs.Table.{ended_at}

swept_on : (q : Object → Bool) (n : ℕ) (bs : List Birth) (rs : List ObjectRecord) → births_on bs (swept q n rs) ≡ births_on bs rs
swept_on q zero bs rs = refl
swept_on q (suc n) bs [] = refl
swept_on q (suc n) bs (r ∷ rs) = go (r.lives && q r.object) (λ xs. swept_on q n xs rs)
  where
    go : (u : Bool) → ((xs : List Birth) → births_on xs (swept q n rs) ≡ births_on xs rs) → births_on (bs ++ birth_after bs (cond u (record r { lives = false }) r) ∷ []) (swept q n rs) ≡ births_on (bs ++ birth_after bs r ∷ []) rs
    go true behind = behind (bs ++ birth_after bs r ∷ [])
    go false behind = behind (bs ++ birth_after bs r ∷ [])

-- an end changes no birth
pub births_swept : (q : Object → Bool) (n : ℕ) (rs : List ObjectRecord) → births_kept (swept q n rs) ≡ births_kept rs
births_swept q n rs = swept_on q n [] rs

swept_there : (q : Object → Bool) (n : ℕ) (rs : List ObjectRecord) → slice_get (swept q n rs) n ≡ slice_get rs n
swept_there q zero rs = refl
swept_there q (suc n) [] = refl
swept_there q (suc n) (r ∷ rs) = swept_there q n rs

swept_next : (q : Object → Bool) (n : ℕ) (rs : List ObjectRecord) (r : ObjectRecord) → slice_get rs n ≡ Some r → swept q (suc n) rs ≡ cond (r.lives && q r.object) (ended_at (swept q n rs) n) (swept q n rs)
swept_next q n [] r e = cc e
swept_next q zero (x ∷ rs) r e = let is : x ≡ r = same_Some x r e in go (x.lives && q x.object) ∙ ap (λ (y : ObjectRecord). cond (y.lives && q y.object) (ended_at (x ∷ rs) 0) (x ∷ rs)) is
  where
    go : (u : Bool) → cond u (record x { lives = false }) x ∷ rs ≡ cond u (record x { lives = false } ∷ rs) (x ∷ rs)
    go true = refl
    go false = refl
swept_next q (suc n) (x ∷ rs) r e = ap (λ ys. cond (x.lives && q x.object) (record x { lives = false }) x ∷ ys) (swept_next q n rs r e) ∙ go (r.lives && q r.object)
  where
    go : (u : Bool) → cond (x.lives && q x.object) (record x { lives = false }) x ∷ cond u (ended_at (swept q n rs) n) (swept q n rs)
        ≡ cond u (cond (x.lives && q x.object) (record x { lives = false }) x ∷ ended_at (swept q n rs) n) (cond (x.lives && q x.object) (record x { lives = false }) x ∷ swept q n rs)
    go true = refl
    go false = refl

swept_all : (q : Object → Bool) (rs : List ObjectRecord) → living_kept (swept q (length rs) rs) ≡ filter (λ o. not (q o)) (living_kept rs)
swept_all q [] = refl
swept_all q (r ∷ rs) = go r.lives refl (q r.object) (swept_all q rs) ∙ back r.lives
  where
    back : (u : Bool) → cond u (cond (not (q r.object)) (r.object ∷ filter (λ o. not (q o)) (living_kept rs)) (filter (λ o. not (q o)) (living_kept rs))) (filter (λ o. not (q o)) (living_kept rs))
        ≡ filter (λ o. not (q o)) (map (λ (x : ObjectRecord). x.object) (cond u (r ∷ filter (λ (x : ObjectRecord). x.lives) rs) (filter (λ (x : ObjectRecord). x.lives) rs)))
    back true = refl
    back false = refl

    go : (u : Bool) → r.lives ≡ u → (v : Bool) → living_kept (swept q (length rs) rs) ≡ filter (λ o. not (q o)) (living_kept rs)
        → map (λ (x : ObjectRecord). x.object) (filter (λ (x : ObjectRecord). x.lives) (cond (u && v) (record r { lives = false }) r ∷ swept q (length rs) rs))
        ≡ cond u (cond (not v) (r.object ∷ filter (λ o. not (q o)) (living_kept rs)) (filter (λ o. not (q o)) (living_kept rs))) (filter (λ o. not (q o)) (living_kept rs))
    go true is true ih = ih
    go true is false ih = ap (λ (w : Bool). map (λ (x : ObjectRecord). x.object) (cond w (r ∷ filter (λ (x : ObjectRecord). x.lives) (swept q (length rs) rs)) (filter (λ (x : ObjectRecord). x.lives) (swept q (length rs) rs)))) is ∙ ap (λ os. r.object ∷ os) ih
    go false is v ih = ap (λ (w : Bool). map (λ (x : ObjectRecord). x.object) (cond w (r ∷ filter (λ (x : ObjectRecord). x.lives) (swept q (length rs) rs)) (filter (λ (x : ObjectRecord). x.lives) (swept q (length rs) rs)))) is ∙ ih

-- what lives on is what the test doesn't pass
pub living_swept : (q : Object → Bool) (rs next : List ObjectRecord) → next ≡ swept q (length rs) rs → living_kept next ≡ filter (λ o. not (q o)) (living_kept rs)
living_swept q rs next is = ap (λ (xs : List ObjectRecord). living_kept xs) is ∙ swept_all q rs

-- nothing passes
pub all_live_on : (q : Object → Bool) (os : List Object) → ((o : Object) → q o ≡ false) → filter (λ o. not (q o)) os ≡ os
all_live_on q [] none = refl
all_live_on q (o ∷ os) none = ap (λ u. cond (not u) (o ∷ filter (λ x. not (q x)) os) (filter (λ x. not (q x)) os)) (none o) ∙ ap (λ xs. o ∷ xs) (all_live_on q os none)

-- one that lived lives no longer
pub one_less : (rs : List ObjectRecord) (n : ℕ) (r : ObjectRecord) → slice_get rs n ≡ Some r → r.lives ≡ true → length (living_kept (ended_at rs n)) + 1 ≡ length (living_kept rs)
one_less [] n r e lives = cc e
one_less (x ∷ rs) zero r e lives = go x.lives (ap (λ (y : ObjectRecord). y.lives) (same_Some x r e) ∙ lives)
  where
    go : (u : Bool) → u ≡ true → length (living_kept rs) + 1 ≡ length (map (λ (y : ObjectRecord). y.object) (cond u (x ∷ filter (λ (y : ObjectRecord). y.lives) rs) (filter (λ (y : ObjectRecord). y.lives) rs)))
    go true f = omega arith
    go false f = cc f
one_less (x ∷ rs) (suc n) r e lives = go x.lives (one_less rs n r e lives)
  where
    go : (u : Bool) → length (living_kept (ended_at rs n)) + 1 ≡ length (living_kept rs)
        → length (map (λ (y : ObjectRecord). y.object) (cond u (x ∷ filter (λ (y : ObjectRecord). y.lives) (ended_at rs n)) (filter (λ (y : ObjectRecord). y.lives) (ended_at rs n)))) + 1
        ≡ length (map (λ (y : ObjectRecord). y.object) (cond u (x ∷ filter (λ (y : ObjectRecord). y.lives) rs) (filter (λ (y : ObjectRecord). y.lives) rs)))
    go true ih = omega (arith, ih)
    go false ih = ih

-- one record more is seen
pub swept_more : (q : Object → Bool) (q' : Object → Bool) (rs now next : List ObjectRecord) (n : ℕ) (answer : Bool) → n < length rs → now ≡ swept q n rs → q' ≡ q → EndsThere now n q' answer → next ≡ cond answer (ended_at now n) now → next ≡ swept q (n + 1) rs
swept_more q q' rs now next n answer less is same ends more =
    let d : ObjectRecord = get_or rs n (first rs n less) in
    let there : slice_get rs n ≡ Some d = slice_get-get_or rs n (first rs n less) less in
    let asked : answer ≡ (d.lives && q d.object) = ends d (ap (λ (xs : List ObjectRecord). slice_get xs n) is ∙ (swept_there q n rs ∙ there)) ∙ ap (λ (p : Object → Bool). d.lives && p d.object) same in
    more
    ∙ (ap (λ (xs : List ObjectRecord). cond answer (ended_at xs n) xs) is
    ∙ (ap (λ u. cond u (ended_at (swept q n rs) n) (swept q n rs)) asked ∙ (sym (swept_next q n rs d there) ∙ ap (λ m. swept q m rs) (sym (add-one n)))))
  where
    first : (xs : List ObjectRecord) (m : ℕ) → m < length xs → ObjectRecord
    first [] m l = absurd (omega (arith, l))
    first (x ∷ xs) m l = x

-- an end that is told lowers the count by one
pub count_less : (now next : List ObjectRecord) (n : ℕ) (q : Object → Bool) (answer : Bool) → n < length now → EndsThere now n q answer → next ≡ cond answer (ended_at now n) now → answer ≡ true → length (living_kept next) + 1 ≡ length (living_kept now)
count_less now next n q answer less ends is told =
    let d : ObjectRecord = get_or now n (first now n less) in
    let there : slice_get now n ≡ Some d = slice_get-get_or now n (first now n less) less in
    ap (λ (xs : List ObjectRecord). length (living_kept xs) + 1) (is ∙ ap (λ u. cond u (ended_at now n) now) told) ∙ one_less now n d there (both d.lives (q d.object) (sym (ends d there) ∙ told))
  where
    first : (xs : List ObjectRecord) (m : ℕ) → m < length xs → ObjectRecord
    first [] m l = absurd (omega (arith, l))
    first (x ∷ xs) m l = x

    both : (a b : Bool) → (a && b) ≡ true → a ≡ true
    both true b e = refl
    both false b e = e

-- else it stays
pub count_same : (now next : List ObjectRecord) (n : ℕ) (answer : Bool) → next ≡ cond answer (ended_at now n) now → answer ≡ false → length (living_kept next) ≡ length (living_kept now)
count_same now next n answer is told = ap (λ (xs : List ObjectRecord). length (living_kept xs)) (is ∙ ap (λ u. cond u (ended_at now n) now) told)

-- as many records as before
pub swept_length : (q : Object → Bool) (n : ℕ) (rs : List ObjectRecord) → length (swept q n rs) ≡ length rs
swept_length q zero rs = refl
swept_length q (suc n) [] = refl
swept_length q (suc n) (r ∷ rs) = ap suc (swept_length q n rs)
