-- What an object owns at any depth, found by the links.
use Rattle.std.proofs.Common.{◌≡◌, ◌≤◌, ◌<◌, ◌∙◌, ◌&&◌, ◌||◌, ◌==◌, ◌+◌, ◌-◌, ℕ, zero, suc, cond, Bool, true, false, Option, Some, None, List, [], ◌∷◌, length, take, drop, refl, sym, ap, arith, eq-eqb}
use Rattle.std.specs.Prelude.{slice_get}
use Rattle.std.specs.List.{list_any}
use Rattle.std.specs.Option.{option_map_or}
use Rattle.std.proofs.lemmas.Bool.{eqb-true}
use Rattle.std.proofs.lemmas.Option.{same_Some}
use Rattle.object_model.specs.declared.Object.{Object}
use Rattle.object_model.specs.Objects.{is_in, same}
use Rattle.object_model.specs.History.{owners_in}
use Rattle.layer_model.proofs.Same.{same_self, same_sym}
use Rattle.object_records.specs.declared.kept_owner.KeptOwner.{KeptOwner}
use Rattle.object_records.specs.declared.kept_owner.KeptOwner.TheVariants.{Nobody, At, Unborn}
use Rattle.object_records.specs.declared.record.ObjectRecord.{ObjectRecord}
use Rattle.object_records.specs.Links.{has_strays_in, is_owner_at, is_unborn, last_from, last_link}
use Rattle.object_records.specs.Passed.{IsPassed}
use Rattle.object_records.specs.Records.{births_kept, line_kept}
use Rattle.object_records.specs.Table.{AreOnce, AreOwnersBefore, before_owned, objects_kept, place_in, record_in}
use Rattle.object_records.proofs.Kept.{has_here, line_at, once_found, owner_below, owner_low, owners_found, record_found}
use Rattle.object_records.proofs.Linking.{get_low}
use Rattle.object_records.proofs.Owned.{at_place, born_owner, past, place_once}

-- ---- records from a place on

drop_here : (rs : List ObjectRecord) (m : ℕ) (r : ObjectRecord) → slice_get rs m ≡ Some r → drop m rs ≡ r ∷ drop (suc m) rs
drop_here [] m r e = cc e
drop_here (x ∷ rs) zero r e = ap (λ (y : ObjectRecord). y ∷ rs) (same_Some x r e)
drop_here (x ∷ rs) (suc m) r e = drop_here rs m r e

drop_past : (rs : List ObjectRecord) (m : ℕ) → slice_get rs m ≡ None → drop (suc m) rs ≡ drop m rs
drop_past [] zero e = refl
drop_past [] (suc m) e = refl
drop_past (x ∷ rs) zero e = cc e
drop_past (x ∷ rs) (suc m) e = drop_past rs m e

drop_all : (rs : List ObjectRecord) (m : ℕ) → length rs ≤ m → drop m rs ≡ []
drop_all [] zero high = refl
drop_all [] (suc m) high = refl
drop_all (x ∷ rs) zero high = absurd (omega (arith, high))
drop_all (x ∷ rs) (suc m) high = drop_all rs m (omega (arith, high))

pub take_get : (rs : List ObjectRecord) (n m : ℕ) (r : ObjectRecord) → m < n → slice_get rs m ≡ Some r → slice_get (take n rs) m ≡ Some r
take_get rs zero m r low e = absurd (omega (arith, low))
take_get [] (suc n) m r low e = cc e
take_get (x ∷ rs) (suc n) zero r low e = e
take_get (x ∷ rs) (suc n) (suc m) r low e = take_get rs n m r (omega (arith, low)) e

-- records that don't pass can be left out
any_skip : (f : ObjectRecord → Bool) (rs : List ObjectRecord) (d j : ℕ) → ((m : ℕ) (r : ObjectRecord) → j ≤ m → m < j + d → slice_get rs m ≡ Some r → f r ≡ false) → list_any f (drop (j + d) rs) ≡ list_any f (drop j rs)
any_skip f rs zero j none = let same_place : j + 0 ≡ j = omega arith in ap (λ m. list_any f (drop m rs)) same_place
any_skip f rs (suc d) j none =
    let further : j + suc d ≡ suc j + d = omega arith in
    ap (λ m. list_any f (drop m rs)) further
    ∙ (any_skip f rs d (suc j) (λ m r low high e. none m r (omega (arith, low)) (omega (arith, high)) e) ∙ go (slice_get rs j) refl)
  where
    go : (x : Option ObjectRecord) → slice_get rs j ≡ x → list_any f (drop (suc j) rs) ≡ list_any f (drop j rs)
    go None e = ap (λ (xs : List ObjectRecord). list_any f xs) (drop_past rs j e)
    go (Some r) e = sym (ap (λ (xs : List ObjectRecord). list_any f xs) (drop_here rs j r e) ∙ ap (λ u. u || list_any f (drop (suc j) rs)) (none j r (omega arith) (omega arith) e))

-- ---- the latest record

last_above : (k found place : ℕ) (rs : List ObjectRecord) → found ≤ k → found ≤ last_from k found place rs
last_above k found place [] low = omega arith
last_above k found place (x ∷ rs) low = go (is_owner_at place x.owner) (last_above (suc k) (suc k) place rs (omega arith)) (last_above (suc k) found place rs (omega (arith, low)))
  where
    go : (u : Bool) → suc k ≤ last_from (suc k) (suc k) place rs → found ≤ last_from (suc k) found place rs → found ≤ last_from (suc k) (cond u (suc k) found) place rs
    go true a b = omega (arith, a, low)
    go false a b = b

last_reaches : (k found place : ℕ) (rs : List ObjectRecord) (m : ℕ) (r : ObjectRecord) → found ≤ k → slice_get rs m ≡ Some r → is_owner_at place r.owner ≡ true → suc (k + m) ≤ last_from k found place rs
last_reaches k found place [] m r low e is = cc e
last_reaches k found place (x ∷ rs) zero r low e is =
    here (is_owner_at place x.owner) (ap (λ (y : ObjectRecord). is_owner_at place y.owner) (same_Some x r e) ∙ is)
  where
    here : (u : Bool) → u ≡ true → suc (k + 0) ≤ last_from (suc k) (cond u (suc k) found) place rs
    here true f = omega (arith, last_above (suc k) (suc k) place rs (omega arith))
    here false f = cc f
last_reaches k found place (x ∷ rs) (suc m) r low e is =
    behind (is_owner_at place x.owner) (last_reaches (suc k) (suc k) place rs m r (omega arith) e is) (last_reaches (suc k) found place rs m r (omega (arith, low)) e is)
  where
    behind : (u : Bool) → suc (suc k + m) ≤ last_from (suc k) (suc k) place rs → suc (suc k + m) ≤ last_from (suc k) found place rs → suc (k + suc m) ≤ last_from (suc k) (cond u (suc k) found) place rs
    behind true a b = omega (arith, a)
    behind false a b = omega (arith, b)

-- behind the latest record with its owner at a place none has it
pub past_last : (rs : List ObjectRecord) (place m : ℕ) (r : ObjectRecord) → last_link rs place ≤ m → slice_get rs m ≡ Some r → is_owner_at place r.owner ≡ false
past_last rs place m r high e = go (is_owner_at place r.owner) refl
  where
    go : (u : Bool) → is_owner_at place r.owner ≡ u → u ≡ false
    go true is = absurd (omega (arith, high, last_reaches 0 0 place rs m r (omega arith) e is))
    go false is = refl

-- ---- what was walked

and_false : (a : Bool) → (a && false) ≡ false
and_false true = refl
and_false false = refl

and_true : (a : Bool) → (a && true) ≡ a
and_true true = refl
and_true false = refl

-- the object has its owner at a place, and its record stands at a link's or behind it
abbrev pub is_walked : List ObjectRecord → ℕ → ℕ → Object → Bool
is_walked rs place link o = list_any (λ (r : ObjectRecord). same r.object o && is_owner_at place r.owner) (drop link rs)

-- at first nothing was
pub none_walked : (rs : List ObjectRecord) (place link : ℕ) (o : Object) → link ≡ last_link rs place → is_walked rs place link o ≡ false
none_walked rs place link o is =
    sym (any_skip (λ (r : ObjectRecord). same r.object o && is_owner_at place r.owner) rs (length rs) link
    (λ m r high low e. ap (λ u. same r.object o && u) (past_last rs place m r (omega (arith, high, is)) e) ∙ and_false (same r.object o)))
    ∙ ap (λ (xs : List ObjectRecord). list_any (λ (r : ObjectRecord). same r.object o && is_owner_at place r.owner) xs) (drop_all rs (link + length rs) (omega arith))

-- a step walks one more
pub one_walked : (rs : List ObjectRecord) (place at before : ℕ) (r : ObjectRecord) (o : Object) → before ≤ at → before ≡ last_link (take at rs) place → slice_get rs at ≡ Some r → r.owner ≡ At place
    → is_walked rs place before o ≡ (is_walked rs place (suc at) o || same o r.object)
one_walked rs place at before r o low latest here owner =
    let f : ObjectRecord → Bool = λ x. same x.object o && is_owner_at place x.owner in
    let there : before + (at - before) ≡ at = omega (arith, low) in
    let owned : is_owner_at place r.owner ≡ true = ap (λ w. is_owner_at place w) owner ∙ self place in
    sym (any_skip f rs (at - before) before
    (λ m x high less e. ap (λ u. same x.object o && u) (past_last (take at rs) place m x (omega (arith, high, latest)) (take_get rs at m x (omega (arith, less, there)) e)) ∙ and_false (same x.object o)))
    ∙ (ap (λ m. list_any f (drop m rs)) there
    ∙ (ap (λ (xs : List ObjectRecord). list_any f xs) (drop_here rs at r here)
    ∙ (ap (λ u. (same r.object o && u) || is_walked rs place (suc at) o) owned ∙ turned (same r.object o) (same o r.object) (is_walked rs place (suc at) o) (same_sym r.object o))))
  where
    self : (n : ℕ) → (n == n) ≡ true
    self n = eq-eqb n n refl

    turned : (a b c : Bool) → a ≡ b → ((a && true) || c) ≡ (c || b)
    turned true b true e = refl
    turned true b false e = e
    turned false b true e = refl
    turned false b false e = e

-- in the end all that has its owner there was
owner_walked : (rs : List ObjectRecord) (place n : ℕ) (r : ObjectRecord) → AreOnce (objects_kept rs) → slice_get rs n ≡ Some r → is_walked rs place 0 r.object ≡ is_owner_at place r.owner
owner_walked rs place n r once e =
    let same_place : 0 + n ≡ n = omega arith in
    once_found (λ x. is_owner_at place x.owner) rs r.object once
    ∙ ap (λ x. option_map_or (λ (y : ObjectRecord). is_owner_at place y.owner) x false) (record_found rs r.object n (place_once 0 rs n r once e ∙ ap (λ (m : ℕ). Some m) same_place) ∙ e)

-- ---- owners above

-- the owners of an object are those of its record
pub owners_at : (rs : List ObjectRecord) (n : ℕ) (r : ObjectRecord) → AreOwnersBefore 0 rs → AreOnce (objects_kept rs) → slice_get rs n ≡ Some r → owners_in (births_kept rs) r.object ≡ line_kept (births_kept rs) r.owner
owners_at rs n r all once e =
    let same_place : 0 + n ≡ n = omega arith in
    let found : record_in rs r.object ≡ Some r = record_found rs r.object n (place_once 0 rs n r once e ∙ ap (λ (m : ℕ). Some m) same_place) ∙ e in
    owners_found rs r.object all ∙ ap (λ x. option_map_or (λ (y : ObjectRecord). line_kept (births_kept rs) y.owner) x []) found

-- an owner at a place is found among those above, or what it owns is
owners_walked : (fuel : ℕ) (rs : List ObjectRecord) (place : ℕ) (p : ObjectRecord) (w : KeptOwner) → AreOwnersBefore 0 rs → AreOnce (objects_kept rs) → has_strays_in rs ≡ false → slice_get rs place ≡ Some p
    → before_owned w ≤ length rs → before_owned w ≤ fuel → is_unborn w ≡ false → (is_owner_at place w || list_any (is_walked rs place 0) (line_kept (births_kept rs) w)) ≡ is_in (line_kept (births_kept rs) w) p.object
owners_walked fuel rs place p Nobody all once none e low few born = refl
owners_walked fuel rs place p (Unborn x) all once none e low few born = cc born
owners_walked zero rs place p (At q) all once none e low few born = absurd (omega (arith, few))
owners_walked (suc fuel) rs place p (At q) all once none e low few born = go (slice_get rs q) refl (λ w l m b. owners_walked fuel rs place p w all once none e l m b)
  where
    go : (x : Option ObjectRecord) → slice_get rs q ≡ x
        → ((w : KeptOwner) → before_owned w ≤ length rs → before_owned w ≤ fuel → is_unborn w ≡ false → (is_owner_at place w || list_any (is_walked rs place 0) (line_kept (births_kept rs) w)) ≡ is_in (line_kept (births_kept rs) w) p.object)
        → ((q == place) || list_any (is_walked rs place 0) (line_kept (births_kept rs) (At q))) ≡ is_in (line_kept (births_kept rs) (At q)) p.object
    go None f above = absurd (past rs q (omega (arith, low)) f)
    go (Some r) f above =
        let below : before_owned r.owner ≤ q = owner_below rs q r all f in
        let same_place : 0 + place ≡ place = omega arith in
        let there : place_in rs p.object ≡ Some place = place_once 0 rs place p once e ∙ ap (λ (m : ℕ). Some m) same_place in
        let here : same r.object p.object ≡ (q == place) = at_place rs p.object q r once f ∙ ap (λ x. option_map_or (λ m. q == m) x false) there in
        ap (λ (os : List Object). (q == place) || list_any (is_walked rs place 0) os) (line_at rs q r all f)
        ∙ (ap (λ u. (q == place) || (u || list_any (is_walked rs place 0) (line_kept (births_kept rs) r.owner))) (owner_walked rs place q r once f)
        ∙ (ap (λ u. (q == place) || u) (above r.owner (omega (arith, low, below)) (omega (arith, few, below)) (born_owner rs q r none f))
        ∙ sym (has_here rs q r p.object all f ∙ ap (λ u. u || is_in (line_kept (births_kept rs) r.owner) p.object) here)))

-- what was walked in the end, with all that it owns, is what the object at the place owns at any depth
pub all_walked : (rs : List ObjectRecord) (place : ℕ) (p : ObjectRecord) (n : ℕ) (r : ObjectRecord) → AreOwnersBefore 0 rs → AreOnce (objects_kept rs) → has_strays_in rs ≡ false → slice_get rs place ≡ Some p → slice_get rs n ≡ Some r
    → list_any (is_walked rs place 0) (r.object ∷ owners_in (births_kept rs) r.object) ≡ is_in (owners_in (births_kept rs) r.object) p.object
all_walked rs place p n r all once none e f =
    let owners = owners_at rs n r all once f in
    let within : before_owned r.owner ≤ length rs = owner_low rs n r all f (get_low rs r n f) in
    ap (λ u. u || list_any (is_walked rs place 0) (owners_in (births_kept rs) r.object)) (owner_walked rs place n r once f)
    ∙ (ap (λ (os : List Object). is_owner_at place r.owner || list_any (is_walked rs place 0) os) owners
    ∙ (owners_walked (length rs) rs place p r.owner all once none e within within (born_owner rs n r none f) ∙ ap (λ (os : List Object). is_in os p.object) (sym owners)))

-- ---- what a walk passes over

-- past a link nothing that has its owner at the place is this record
walked_kept : (rs : List ObjectRecord) (place link n : ℕ) (r : ObjectRecord) → AreOnce (objects_kept rs) → slice_get rs n ≡ Some r → (n < link → is_owner_at place r.owner ≡ true → ⊥) → is_walked rs place link r.object ≡ is_walked rs place 0 r.object
walked_kept rs place link n r once e apart =
    let from_none : link ≡ 0 + link = omega arith in
    ap (λ m. is_walked rs place m r.object) from_none
    ∙ any_skip (λ (x : ObjectRecord). same x.object r.object && is_owner_at place x.owner) rs link 0 (λ m x low less f. go m x (omega (arith, less)) f (same x.object r.object) refl (is_owner_at place x.owner) refl)
  where
    there : place_in rs r.object ≡ Some n
    there = let same_place : 0 + n ≡ n = omega arith in place_once 0 rs n r once e ∙ ap (λ (m : ℕ). Some m) same_place

    go : (m : ℕ) (x : ObjectRecord) → m < link → slice_get rs m ≡ Some x → (u : Bool) → same x.object r.object ≡ u → (v : Bool) → is_owner_at place x.owner ≡ v → (u && v) ≡ false
    go m x less f false is v owner = refl
    go m x less f true is false owner = refl
    go m x less f true is true owner =
        let at : m ≡ n = eqb-true m n (sym (at_place rs r.object m x once f ∙ ap (λ p. option_map_or (λ q. m == q) p false) there) ∙ is) in
        let same_record : x ≡ r = same_Some x r (sym f ∙ (ap (λ q. slice_get rs q) at ∙ e)) in
        absurd (apart (omega (arith, less, at)) (sym (ap (λ (y : ObjectRecord). is_owner_at place y.owner) same_record) ∙ owner))

-- nor any of the owners of a record
owners_kept : (fuel : ℕ) (rs : List ObjectRecord) (place link before n : ℕ) (x : ObjectRecord) (w : KeptOwner) → AreOwnersBefore 0 rs → AreOnce (objects_kept rs) → has_strays_in rs ≡ false → IsPassed rs place before → link ≤ before
    → slice_get rs n ≡ Some x → x.owner ≡ w → before_owned w ≤ length rs → before_owned w ≤ fuel → list_any (is_walked rs place link) (line_kept (births_kept rs) w) ≡ list_any (is_walked rs place 0) (line_kept (births_kept rs) w)
owners_kept fuel rs place link before n x Nobody all once none passed high e is low few = refl
owners_kept fuel rs place link before n x (Unborn o) all once none passed high e is low few = cc (sym (born_owner rs n x none e) ∙ ap (λ (w : KeptOwner). is_unborn w) is)
owners_kept zero rs place link before n x (At q) all once none passed high e is low few = absurd (omega (arith, few))
owners_kept (suc fuel) rs place link before n x (At q) all once none passed high e is low few =
    go (slice_get rs q) refl (λ r w f g l m. owners_kept fuel rs place link before q r w all once none passed high f g l m)
  where
    owned : last_link rs q ≡ 0 → ⊥
    owned leaf = cc (sym (self q) ∙ (sym (ap (λ (w : KeptOwner). is_owner_at q w) is) ∙ past_last rs q n x (omega (arith, leaf)) e))
      where
        self : (m : ℕ) → (m == m) ≡ true
        self m = eq-eqb m m refl

    go : (y : Option ObjectRecord) → slice_get rs q ≡ y
        → ((r : ObjectRecord) (w : KeptOwner) → slice_get rs q ≡ Some r → r.owner ≡ w → before_owned w ≤ length rs → before_owned w ≤ fuel → list_any (is_walked rs place link) (line_kept (births_kept rs) w) ≡ list_any (is_walked rs place 0) (line_kept (births_kept rs) w))
        → list_any (is_walked rs place link) (line_kept (births_kept rs) (At q)) ≡ list_any (is_walked rs place 0) (line_kept (births_kept rs) (At q))
    go None f above = absurd (past rs q (omega (arith, low)) f)
    go (Some r) f above =
        let below : before_owned r.owner ≤ q = owner_below rs q r all f in
        ap (λ (os : List Object). list_any (is_walked rs place link) os) (line_at rs q r all f)
        ∙ (ap (λ u. u || list_any (is_walked rs place link) (line_kept (births_kept rs) r.owner)) (walked_kept rs place link q r once f (λ less there. owned (passed.leaf q r (omega (arith, less, high)) f there)))
        ∙ (ap (λ u. is_walked rs place 0 r.object || u) (above r r.owner f refl (omega (arith, low, below)) (omega (arith, few, below))) ∙ sym (ap (λ (os : List Object). list_any (is_walked rs place 0) os) (line_at rs q r all f))))

-- of what lives nothing is owned by what a walk passes over
pub all_kept : (rs : List ObjectRecord) (place link before n : ℕ) (r : ObjectRecord) → AreOwnersBefore 0 rs → AreOnce (objects_kept rs) → has_strays_in rs ≡ false → IsPassed rs place before → link ≤ before → slice_get rs n ≡ Some r → r.lives ≡ true
    → list_any (is_walked rs place link) (r.object ∷ owners_in (births_kept rs) r.object) ≡ list_any (is_walked rs place 0) (r.object ∷ owners_in (births_kept rs) r.object)
all_kept rs place link before n r all once none passed high e lives =
    let owners = owners_at rs n r all once e in
    let within : before_owned r.owner ≤ length rs = owner_low rs n r all e (get_low rs r n e) in
    ap (λ (os : List Object). list_any (is_walked rs place link) (r.object ∷ os)) owners
    ∙ (ap (λ u. u || list_any (is_walked rs place link) (line_kept (births_kept rs) r.owner)) (walked_kept rs place link n r once e (λ less there. cc (sym lives ∙ passed.dead n r (omega (arith, less, high)) e there)))
    ∙ (ap (λ u. is_walked rs place 0 r.object || u) (owners_kept (length rs) rs place link before n r r.owner all once none passed high e refl within within)
    ∙ sym (ap (λ (os : List Object). list_any (is_walked rs place 0) (r.object ∷ os)) owners)))

-- what has its owner at a place is owned by the object there
pub owned_there : (rs : List ObjectRecord) (place : ℕ) (p : ObjectRecord) (n : ℕ) (r : ObjectRecord) → AreOwnersBefore 0 rs → AreOnce (objects_kept rs) → slice_get rs place ≡ Some p → slice_get rs n ≡ Some r → r.owner ≡ At place
    → is_in (owners_in (births_kept rs) r.object) p.object ≡ true
owned_there rs place p n r all once e f is =
    ap (λ (os : List Object). is_in os p.object) (owners_at rs n r all once f ∙ ap (λ (w : KeptOwner). line_kept (births_kept rs) w) is)
    ∙ (has_here rs place p p.object all e ∙ ap (λ u. u || is_in (line_kept (births_kept rs) p.owner) p.object) (same_self p.object))

-- what isn't born is above nothing
none_above : (fuel : ℕ) (rs : List ObjectRecord) (o : Object) (w : KeptOwner) → AreOwnersBefore 0 rs → AreOnce (objects_kept rs) → has_strays_in rs ≡ false → place_in rs o ≡ None
    → before_owned w ≤ length rs → before_owned w ≤ fuel → is_unborn w ≡ false → is_in (line_kept (births_kept rs) w) o ≡ false
none_above fuel rs o Nobody all once none e low few born = refl
none_above fuel rs o (Unborn x) all once none e low few born = cc born
none_above zero rs o (At q) all once none e low few born = absurd (omega (arith, few))
none_above (suc fuel) rs o (At q) all once none e low few born = go (slice_get rs q) refl (λ w l m b. none_above fuel rs o w all once none e l m b)
  where
    go : (x : Option ObjectRecord) → slice_get rs q ≡ x → ((w : KeptOwner) → before_owned w ≤ length rs → before_owned w ≤ fuel → is_unborn w ≡ false → is_in (line_kept (births_kept rs) w) o ≡ false)
        → is_in (line_kept (births_kept rs) (At q)) o ≡ false
    go None f above = absurd (past rs q (omega (arith, low)) f)
    go (Some r) f above =
        let below : before_owned r.owner ≤ q = owner_below rs q r all f in
        has_here rs q r o all f
        ∙ (ap (λ u. u || is_in (line_kept (births_kept rs) r.owner) o) (at_place rs o q r once f ∙ ap (λ x. option_map_or (λ m. q == m) x false) e)
        ∙ above r.owner (omega (arith, low, below)) (omega (arith, few, below)) (born_owner rs q r none f))

pub nothing_owned : (rs : List ObjectRecord) (o : Object) (n : ℕ) (r : ObjectRecord) → AreOwnersBefore 0 rs → AreOnce (objects_kept rs) → has_strays_in rs ≡ false → place_in rs o ≡ None → slice_get rs n ≡ Some r
    → is_in (owners_in (births_kept rs) r.object) o ≡ false
nothing_owned rs o n r all once none e f =
    let within : before_owned r.owner ≤ length rs = owner_low rs n r all f (get_low rs r n f) in
    ap (λ (os : List Object). is_in os o) (owners_at rs n r all once f) ∙ none_above (length rs) rs o r.owner all once none e within within (born_owner rs n r none f)
