-- Births and living objects by their records.
use Rattle.std.proofs.Common.{◌≡◌, ◌<◌, ◌≤◌, ◌∙◌, ◌&&◌, ◌||◌, ◌+◌, ℕ, zero, suc, cond, Bool, true, false, Some, None, List, [], ◌∷◌, ◌++◌, map, length, take, refl, sym, ap, arith, length-append}
use Rattle.std.specs.Prelude.{filter, find, is_some, slice_get}
use Rattle.std.specs.List.{list_any}
use Rattle.std.specs.Option.{option_map_or}
use Rattle.std.proofs.lemmas.Option.{same_Some}
use Rattle.std.proofs.lemmas.List.Folds.{list_any-append}
use Rattle.command_tables.specs.declared.types.ObjectType.{ObjectType}
use Rattle.command_tables.specs.Tests.{same_type}
use Rattle.object_model.specs.declared.Object.{Object}
use Rattle.object_model.specs.Objects.{are_same, is_in, same}
use Rattle.object_model.specs.History.{Birth, born_in, created_in, is_owned_by, owners_in}
use Rattle.layer_model.proofs.Same.{same_is, same_self, same_sym}
use Rattle.object_records.specs.declared.kept_owner.KeptOwner.{KeptOwner}
use Rattle.object_records.specs.declared.kept_owner.KeptOwner.TheVariants.{Nobody, At, Unborn}
use Rattle.object_records.specs.declared.record.ObjectRecord.{ObjectRecord}
use Rattle.object_records.specs.Records.{birth_after, births_kept, births_on, is_child, is_device, line_kept, living_kept, owned_at}
use Rattle.object_records.specs.Table.{AreOnce, AreOwnersBefore, before_owned, objects_kept, place_from, place_in, record_in}

-- ---- records found

-- the record of an object stands at its place
place_found : (k : ℕ) (rs : List ObjectRecord) (o : Object) (place : ℕ) → place_from k (objects_kept rs) o ≡ Some place → (n : ℕ) × (place ≡ k + n) × (n < length rs) × (slice_get rs n ≡ record_in rs o)
place_found k [] o place e = cc e
place_found k (r ∷ rs) o place e = go (same r.object o) e (λ f. place_found (suc k) rs o place f)
  where
    go : (u : Bool) → cond u (Some k) (place_from (suc k) (objects_kept rs) o) ≡ Some place → (place_from (suc k) (objects_kept rs) o ≡ Some place → (n : ℕ) × (place ≡ suc k + n) × (n < length rs) × (slice_get rs n ≡ record_in rs o))
        → (n : ℕ) × (place ≡ k + n) × (n < suc (length rs)) × (slice_get (r ∷ rs) n ≡ cond u (Some r) (record_in rs o))
    go true e behind = let is : k ≡ place = same_Some k place e in (0, omega (arith, is), omega arith, refl)
    go false e behind = let rest = behind e in (suc rest.0, omega (arith, rest.1), omega (arith, rest.2), rest.3)

pub place_within : (rs : List ObjectRecord) (o : Object) (place : ℕ) → place_in rs o ≡ Some place → place < length rs
place_within rs o place e = let found = place_found 0 rs o place e in omega (arith, found.1, found.2)

pub record_found : (rs : List ObjectRecord) (o : Object) (place : ℕ) → place_in rs o ≡ Some place → record_in rs o ≡ slice_get rs place
record_found rs o place e = let found = place_found 0 rs o place e in let at : place ≡ found.0 = omega (arith, found.1) in rw at (sym found.3)

no_record_from : (k : ℕ) (rs : List ObjectRecord) (o : Object) → place_from k (objects_kept rs) o ≡ None → record_in rs o ≡ None
no_record_from k [] o e = refl
no_record_from k (r ∷ rs) o e = go (same r.object o) e (λ f. no_record_from (suc k) rs o f)
  where
    go : (u : Bool) → cond u (Some k) (place_from (suc k) (objects_kept rs) o) ≡ None → (place_from (suc k) (objects_kept rs) o ≡ None → record_in rs o ≡ None) → cond u (Some r) (record_in rs o) ≡ None
    go true e behind = cc e
    go false e behind = behind e

pub no_record : (rs : List ObjectRecord) (o : Object) → place_in rs o ≡ None → record_in rs o ≡ None
no_record rs o e = no_record_from 0 rs o e

-- ---- tests of births

or_false : (a b : Bool) → (a || b) ≡ false → (a ≡ false) × (b ≡ false)
or_false true b e = cc e
or_false false b e = (refl, e)

or_last : (a b c : Bool) → ((a || (b || false)) || c) ≡ (a || (b || c))
or_last true b c = refl
or_last false true c = refl
or_last false false c = refl

-- a test that reads no owner, of births with those of further records
any_on : (q : Object → Bool → Bool) (bs : List Birth) (rs : List ObjectRecord)
    → list_any (λ (b : Birth). q b.object b.created) (births_on bs rs) ≡ (list_any (λ (b : Birth). q b.object b.created) bs || list_any (λ (r : ObjectRecord). q r.object r.is_created) rs)
any_on q bs [] = go (list_any (λ (b : Birth). q b.object b.created) bs)
  where
    go : (u : Bool) → u ≡ (u || false)
    go true = refl
    go false = refl
any_on q bs (r ∷ rs) =
    any_on q (bs ++ birth_after bs r ∷ []) rs
    ∙ (ap (λ t. t || list_any (λ (x : ObjectRecord). q x.object x.is_created) rs) (list_any-append (λ (b : Birth). q b.object b.created) bs (birth_after bs r ∷ []))
    ∙ or_last (list_any (λ (b : Birth). q b.object b.created) bs) (q r.object r.is_created) (list_any (λ (x : ObjectRecord). q x.object x.is_created) rs))

any_found : (rs : List ObjectRecord) (o : Object) → list_any (λ (r : ObjectRecord). same r.object o) rs ≡ is_some (record_in rs o)
any_found [] o = refl
any_found (r ∷ rs) o = go (same r.object o) (any_found rs o)
  where
    go : (u : Bool) → list_any (λ (x : ObjectRecord). same x.object o) rs ≡ is_some (record_in rs o) → (u || list_any (λ (x : ObjectRecord). same x.object o) rs) ≡ is_some (cond u (Some r) (record_in rs o))
    go true e = refl
    go false e = e

-- whether an object was born
pub born_found : (rs : List ObjectRecord) (o : Object) → born_in (births_kept rs) o ≡ is_some (record_in rs o)
born_found rs o = any_on (λ x c. same x o) [] rs ∙ any_found rs o

none_same : (f : ObjectRecord → Bool) (rs : List ObjectRecord) (o : Object) → list_any (λ y. same y o) (objects_kept rs) ≡ false → list_any (λ (r : ObjectRecord). same r.object o && f r) rs ≡ false
none_same f [] o e = refl
none_same f (r ∷ rs) o e = go (same r.object o) e (λ k. none_same f rs o k)
  where
    go : (u : Bool) → (u || list_any (λ y. same y o) (objects_kept rs)) ≡ false → (list_any (λ y. same y o) (objects_kept rs) ≡ false → list_any (λ (x : ObjectRecord). same x.object o && f x) rs ≡ false)
        → ((u && f r) || list_any (λ (x : ObjectRecord). same x.object o && f x) rs) ≡ false
    go true e rest = cc e
    go false e rest = rest e

-- a test of an object is that of its record, where no object stands twice
pub once_found : (f : ObjectRecord → Bool) (rs : List ObjectRecord) (o : Object) → AreOnce (objects_kept rs) → list_any (λ (r : ObjectRecord). same r.object o && f r) rs ≡ option_map_or f (record_in rs o) false
once_found f [] o once = refl
once_found f (r ∷ rs) o once = go (same r.object o) refl (once_found f rs o once.1)
  where
    or_none : (a b : Bool) → b ≡ false → (a || b) ≡ a
    or_none true b e = refl
    or_none false b e = e

    go : (u : Bool) → same r.object o ≡ u → list_any (λ (x : ObjectRecord). same x.object o && f x) rs ≡ option_map_or f (record_in rs o) false
        → ((u && f r) || list_any (λ (x : ObjectRecord). same x.object o && f x) rs) ≡ option_map_or f (cond u (Some r) (record_in rs o)) false
    go true is ih = or_none (f r) _ (none_same f rs o (ap (λ x. list_any (λ y. same y x) (objects_kept rs)) (sym (same_is r.object o is)) ∙ once.0))
    go false is ih = ih

-- whether one was created
pub created_found : (rs : List ObjectRecord) (o : Object) → AreOnce (objects_kept rs) → created_in (births_kept rs) o ≡ option_map_or (λ (r : ObjectRecord). r.is_created) (record_in rs o) false
created_found rs o once = any_on (λ x c. same x o && c) [] rs ∙ once_found (λ r. r.is_created) rs o once

living_any : (rs : List ObjectRecord) (o : Object) → is_in (living_kept rs) o ≡ list_any (λ (r : ObjectRecord). same r.object o && r.lives) rs
living_any [] o = refl
living_any (r ∷ rs) o = go r.lives (living_any rs o)
  where
    and_false : (a : Bool) → (a && false) ≡ false
    and_false true = refl
    and_false false = refl

    and_true : (a : Bool) → (a && true) ≡ a
    and_true true = refl
    and_true false = refl

    go : (u : Bool) → is_in (living_kept rs) o ≡ list_any (λ (x : ObjectRecord). same x.object o && x.lives) rs
        → is_in (map (λ (x : ObjectRecord). x.object) (cond u (r ∷ filter (λ (x : ObjectRecord). x.lives) rs) (filter (λ (x : ObjectRecord). x.lives) rs))) o ≡ ((same r.object o && u) || list_any (λ (x : ObjectRecord). same x.object o && x.lives) rs)
    go true ih = rw (and_true (same r.object o)) (ap (λ t. same r.object o || t) ih)
    go false ih = rw (and_false (same r.object o)) ih

-- whether one lives
pub lives_found : (rs : List ObjectRecord) (o : Object) → AreOnce (objects_kept rs) → is_in (living_kept rs) o ≡ option_map_or (λ (r : ObjectRecord). r.lives) (record_in rs o) false
lives_found rs o once = living_any rs o ∙ once_found (λ r. r.lives) rs o once

-- ---- owners by their places

-- births stay where they are
pub stays : (bs : List Birth) (rs : List ObjectRecord) (place : ℕ) → place < length bs → slice_get (births_on bs rs) place ≡ slice_get bs place
stays bs [] place low = refl
stays bs (r ∷ rs) place low = stays (bs ++ birth_after bs r ∷ []) rs place (omega (arith, low, length-append bs (birth_after bs r ∷ []))) ∙ front bs (birth_after bs r) place low
  where
    front : (xs : List Birth) (x : Birth) (n : ℕ) → n < length xs → slice_get (xs ++ x ∷ []) n ≡ slice_get xs n
    front [] x n l = absurd (omega (arith, l))
    front (y ∷ xs) x zero l = refl
    front (y ∷ xs) x (suc n) l = front xs x n (omega (arith, l))

pub line_stays : (bs : List Birth) (rs : List ObjectRecord) (w : KeptOwner) → before_owned w ≤ length bs → line_kept (births_on bs rs) w ≡ line_kept bs w
line_stays bs rs Nobody low = refl
line_stays bs rs (At place) low = ap (λ b. option_map_or (λ (x : Birth). x.object ∷ x.owners) b []) (stays bs rs place (omega (arith, low)))
line_stays bs rs (Unborn o) low = refl

last_found : (bs : List Birth) (b : Birth) (o : Object) (d : List Object)
    → option_map_or (λ (x : Birth). x.owners) (find (λ (x : Birth). same x.object o) (bs ++ b ∷ [])) d ≡ option_map_or (λ (x : Birth). x.owners) (find (λ (x : Birth). same x.object o) bs) (cond (same b.object o) b.owners d)
last_found [] b o d = go (same b.object o)
  where
    go : (u : Bool) → option_map_or (λ (x : Birth). x.owners) (cond u (Some b) None) d ≡ cond u b.owners d
    go true = refl
    go false = refl
last_found (x ∷ bs) b o d = go (same x.object o) (last_found bs b o d)
  where
    go : (u : Bool) → option_map_or (λ (y : Birth). y.owners) (find (λ (y : Birth). same y.object o) (bs ++ b ∷ [])) d ≡ option_map_or (λ (y : Birth). y.owners) (find (λ (y : Birth). same y.object o) bs) (cond (same b.object o) b.owners d)
        → option_map_or (λ (y : Birth). y.owners) (cond u (Some x) (find (λ (y : Birth). same y.object o) (bs ++ b ∷ []))) d
        ≡ option_map_or (λ (y : Birth). y.owners) (cond u (Some x) (find (λ (y : Birth). same y.object o) bs)) (cond (same b.object o) b.owners d)
    go true ih = refl
    go false ih = ih

all_on : (rs : List ObjectRecord) {n m : ℕ} → n ≡ m → AreOwnersBefore m rs → AreOwnersBefore n rs
all_on rs e h = rw e h

owners_on : (bs : List Birth) (rs : List ObjectRecord) (o : Object) (d : List Object) → AreOwnersBefore (length bs) rs
    → option_map_or (λ (x : Birth). x.owners) (find (λ (x : Birth). same x.object o) (births_on bs rs)) d
    ≡ option_map_or (λ (x : Birth). x.owners) (find (λ (x : Birth). same x.object o) bs) (option_map_or (λ (r : ObjectRecord). line_kept (births_on bs rs) r.owner) (record_in rs o) d)
owners_on bs [] o d all = refl
owners_on bs (r ∷ rs) o d all =
    owners_on (bs ++ birth_after bs r ∷ []) rs o d (all_on rs (omega (arith, length-append bs (birth_after bs r ∷ []))) all.1)
    ∙ (last_found bs (birth_after bs r) o (option_map_or (λ (x : ObjectRecord). line_kept (births_on bs (r ∷ rs)) x.owner) (record_in rs o) d)
    ∙ ap (λ e. option_map_or (λ (x : Birth). x.owners) (find (λ (x : Birth). same x.object o) bs) e) (go (same r.object o)))
  where
    go : (u : Bool) → cond u (line_kept bs r.owner) (option_map_or (λ (x : ObjectRecord). line_kept (births_on bs (r ∷ rs)) x.owner) (record_in rs o) d)
        ≡ option_map_or (λ (x : ObjectRecord). line_kept (births_on bs (r ∷ rs)) x.owner) (cond u (Some r) (record_in rs o)) d
    go true = sym (line_stays bs (r ∷ rs) r.owner all.0)
    go false = refl

-- the owners of an object are those of its record
pub owners_found : (rs : List ObjectRecord) (o : Object) → AreOwnersBefore 0 rs → owners_in (births_kept rs) o ≡ option_map_or (λ (r : ObjectRecord). line_kept (births_kept rs) r.owner) (record_in rs o) []
owners_found rs o all = owners_on [] rs o [] all

birth_on : (bs : List Birth) (rs : List ObjectRecord) (n place : ℕ) (r : ObjectRecord) → AreOwnersBefore (length bs) rs → place ≡ length bs + n → slice_get rs n ≡ Some r → slice_get (births_on bs rs) place ≡ Some (birth_after (births_on bs rs) r)
birth_on bs [] n place r all at e = cc e
birth_on bs (x ∷ rs) zero place r all at e =
    let is : x ≡ r = same_Some x r e in
    let count : length (bs ++ birth_after bs x ∷ []) ≡ length bs + 1 = length-append bs (birth_after bs x ∷ []) in
    stays (bs ++ birth_after bs x ∷ []) rs place (omega (arith, count, at))
    ∙ (last bs (birth_after bs x) place (omega (arith, at))
    ∙ (ap (λ (owners : List Object). Some (record { object = x.object; created = x.is_created; owners = owners })) (sym (line_stays bs (x ∷ rs) x.owner all.0))
    ∙ ap (λ (y : ObjectRecord). Some (birth_after (births_on bs (x ∷ rs)) y)) is))
  where
    last : (xs : List Birth) (b : Birth) (k : ℕ) → k ≡ length xs → slice_get (xs ++ b ∷ []) k ≡ Some b
    last [] b zero l = refl
    last [] b (suc k) l = absurd (omega (arith, l))
    last (y ∷ xs) b zero l = absurd (omega (arith, l))
    last (y ∷ xs) b (suc k) l = last xs b k (omega (arith, l))
birth_on bs (x ∷ rs) (suc n) place r all at e =
    let count : length (bs ++ birth_after bs x ∷ []) ≡ length bs + 1 = length-append bs (birth_after bs x ∷ []) in
    birth_on (bs ++ birth_after bs x ∷ []) rs n place r (all_on rs (omega (arith, count)) all.1) (omega (arith, count, at)) e

-- the birth of the record at a place
pub birth_at : (rs : List ObjectRecord) (place : ℕ) (r : ObjectRecord) → AreOwnersBefore 0 rs → slice_get rs place ≡ Some r → slice_get (births_kept rs) place ≡ Some (birth_after (births_kept rs) r)
birth_at rs place r all e = birth_on [] rs place place r all (omega arith) e

-- an owner stands before its own owners
pub line_at : (rs : List ObjectRecord) (place : ℕ) (r : ObjectRecord) → AreOwnersBefore 0 rs → slice_get rs place ≡ Some r → line_kept (births_kept rs) (At place) ≡ r.object ∷ line_kept (births_kept rs) r.owner
line_at rs place r all e = ap (λ b. option_map_or (λ (x : Birth). x.object ∷ x.owners) b []) (birth_at rs place r all e)

-- an owner's place is below that of what it owns
pub owner_below : (rs : List ObjectRecord) (place : ℕ) (r : ObjectRecord) → AreOwnersBefore 0 rs → slice_get rs place ≡ Some r → before_owned r.owner ≤ place
owner_below rs place r all e = omega (arith, go 0 rs place all e)
  where
    go : (k : ℕ) (xs : List ObjectRecord) (n : ℕ) → AreOwnersBefore k xs → slice_get xs n ≡ Some r → before_owned r.owner ≤ k + n
    go k [] n h f = cc f
    go k (x ∷ xs) zero h f = let is : x ≡ r = cc f in omega (arith, h.0, ap (λ (y : ObjectRecord). before_owned y.owner) is)
    go k (x ∷ xs) (suc n) h f = let rest = go (suc k) xs n h.1 f in omega (arith, rest)

-- the owner of an object stands within the records
pub owner_within : (rs : List ObjectRecord) (o : Object) (r : ObjectRecord) → AreOwnersBefore 0 rs → record_in rs o ≡ Some r → before_owned r.owner ≤ length rs
owner_within rs o r all e = omega (arith, go 0 rs all e)
  where
    here : (k : ℕ) (u : Bool) (x : ObjectRecord) (xs : List ObjectRecord) → before_owned x.owner ≤ k → cond u (Some x) (record_in xs o) ≡ Some r → (record_in xs o ≡ Some r → before_owned r.owner ≤ suc k + length xs) → before_owned r.owner ≤ k + suc (length xs)
    here k true x xs low f behind = let is : x ≡ r = same_Some x r f in omega (arith, low, ap (λ (y : ObjectRecord). before_owned y.owner) is)
    here k false x xs low f behind = let rest = behind f in omega (arith, rest)

    go : (k : ℕ) (xs : List ObjectRecord) → AreOwnersBefore k xs → record_in xs o ≡ Some r → before_owned r.owner ≤ k + length xs
    go k [] h f = cc f
    go k (x ∷ xs) h f = here k (same x.object o) x xs h.0 f (λ g. go (suc k) xs h.1 g)

pub owner_low : (rs : List ObjectRecord) (place : ℕ) (r : ObjectRecord) → AreOwnersBefore 0 rs → slice_get rs place ≡ Some r → place < length rs → before_owned r.owner ≤ length rs
owner_low rs place r all e low = let below = owner_below rs place r all e in omega (arith, below, low)

-- as many births as records
pub births_counted : (rs : List ObjectRecord) → length (births_kept rs) ≡ length rs
births_counted rs = omega (arith, go [] rs)
  where
    go : (bs : List Birth) (xs : List ObjectRecord) → length (births_on bs xs) ≡ length bs + length xs
    go bs [] = omega arith
    go bs (x ∷ xs) = let rest = go (bs ++ birth_after bs x ∷ []) xs in omega (arith, rest, length-append bs (birth_after bs x ∷ []))

-- whether the object of the record at a place lives
pub lives_at : (rs : List ObjectRecord) (place : ℕ) (r : ObjectRecord) → AreOnce (objects_kept rs) → slice_get rs place ≡ Some r → is_in (living_kept rs) r.object ≡ r.lives
lives_at rs place r once e = lives_found rs r.object once ∙ ap (λ x. option_map_or (λ (y : ObjectRecord). y.lives) x false) (found rs place once e)
  where
    not_first : (x : ObjectRecord) (xs : List ObjectRecord) (n : ℕ) → list_any (λ y. same y x.object) (objects_kept xs) ≡ false → slice_get xs n ≡ Some r → same x.object r.object ≡ false
    not_first x [] n h f = cc f
    not_first x (y ∷ xs) zero h f = let is : y ≡ r = same_Some y r f in same_sym x.object r.object ∙ (ap (λ (z : ObjectRecord). same z.object x.object) (sym is) ∙ (or_false (same y.object x.object) _ h).0)
    not_first x (y ∷ xs) (suc n) h f = not_first x xs n (or_false (same y.object x.object) _ h).1 f

    found : (xs : List ObjectRecord) (n : ℕ) → AreOnce (objects_kept xs) → slice_get xs n ≡ Some r → record_in xs r.object ≡ Some r
    found [] n h f = cc f
    found (x ∷ xs) zero h f = let is : x ≡ r = same_Some x r f in ap (λ (y : ObjectRecord). cond (same x.object y.object) (Some x) (record_in xs y.object)) (sym is) ∙ (ap (λ u. cond u (Some x) (record_in xs x.object)) (same_self x.object) ∙ ap (λ (y : ObjectRecord). Some y) is)
    found (x ∷ xs) (suc n) h f = ap (λ u. cond u (Some x) (record_in xs r.object)) (not_first x xs n h.0 f) ∙ found xs n h.1 f

-- ---- what stands at a place

-- all births, once all places were seen
pub births_all : (rs : List ObjectRecord) (i : ℕ) → length rs ≤ i → take i (births_kept rs) ≡ births_kept rs
births_all rs i low = go (births_kept rs) i (omega (arith, low, births_counted rs))
  where
    go : (bs : List Birth) (n : ℕ) → length bs ≤ n → take n bs ≡ bs
    go [] zero l = refl
    go [] (suc n) l = refl
    go (b ∷ bs) zero l = absurd (omega (arith, l))
    go (b ∷ bs) (suc n) l = ap (λ xs. b ∷ xs) (go bs n (omega (arith, l)))

-- whether an object is at or above the owner at a place
pub has_here : (rs : List ObjectRecord) (place : ℕ) (r : ObjectRecord) (o : Object) → AreOwnersBefore 0 rs → slice_get rs place ≡ Some r → is_in (line_kept (births_kept rs) (At place)) o ≡ (same r.object o || is_in (line_kept (births_kept rs) r.owner) o)
has_here rs place r o all e = ap (λ (l : List Object). is_in l o) (line_at rs place r all e)

-- the owner at a place
pub first_here : (rs : List ObjectRecord) (place : ℕ) (r : ObjectRecord) → AreOwnersBefore 0 rs → slice_get rs place ≡ Some r → slice_get (line_kept (births_kept rs) (At place)) 0 ≡ Some r.object
first_here rs place r all e = ap (λ (l : List Object). slice_get l 0) (line_at rs place r all e)

-- the device at or above the owner at a place
pub device_here : (rs : List ObjectRecord) (place : ℕ) (r : ObjectRecord) → AreOwnersBefore 0 rs → slice_get rs place ≡ Some r
    → find is_device (line_kept (births_kept rs) (At place)) ≡ cond (is_device r.object) (Some r.object) (find is_device (line_kept (births_kept rs) r.owner))
device_here rs place r all e = ap (λ (l : List Object). find is_device l) (line_at rs place r all e)

-- whether what stands at a place is a child
pub child_here : (rs : List ObjectRecord) (place : ℕ) (r : ObjectRecord) (o : Object) → AreOwnersBefore 0 rs → AreOnce (objects_kept rs) → slice_get rs place ≡ Some r
    → option_map_or (is_child (is_in (living_kept rs)) o) (slice_get (births_kept rs) place) false ≡ (r.is_created && r.lives && are_same (slice_get (line_kept (births_kept rs) r.owner) 0) (Some o))
child_here rs place r o all once e =
    ap (λ b. option_map_or (is_child (is_in (living_kept rs)) o) b false) (birth_at rs place r all e)
    ∙ ap (λ u. r.is_created && u && are_same (slice_get (line_kept (births_kept rs) r.owner) 0) (Some o)) (lives_at rs place r once e)

-- what stands at a place, if it is owned
pub owned_here : (rs : List ObjectRecord) (place : ℕ) (r : ObjectRecord) (t : ObjectType) (o : Object) → AreOwnersBefore 0 rs → slice_get rs place ≡ Some r
    → owned_at (births_kept rs) t o place ≡ cond (same_type r.object.ty t && are_same (slice_get (line_kept (births_kept rs) r.owner) 0) (Some o)) (r.object ∷ []) []
owned_here rs place r t o all e = ap (λ b. option_map_or (λ (x : Birth). cond (same_type x.object.ty t && is_owned_by o x) (x.object ∷ []) []) b []) (birth_at rs place r all e)
