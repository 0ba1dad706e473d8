-- The past of events that may come: names are given once, so what is spoken of is born, and what a call makes is new.
use Rattle.std.proofs.Common.{◌≡◌, ◌==◌, ◌<◌, inl, inr, ℕ, ◌+◌, ◌*◌, Bool, true, false, not, cond, ◌&&◌, ◌||◌, Some, List, [], ◌∷◌, ◌++◌, refl, sym, ◌∙◌, ap, subst, arith}
use Rattle.std.proofs.lemmas.Bool.{ne_eqb, eq-eqb, eqb-true}
use Rattle.std.specs.Prelude.{filter, find}
use Rattle.std.specs.List.{AllByRecursion, list_any}
use Rattle.command_tables.specs.declared.types.ObjectType.{ObjectType}
use Rattle.trace_format.specs.declared.event.Name.{Name}
use Rattle.object_model.specs.declared.Object.{Object}
use Rattle.replay_model.specs.declared.Born.{Born}
use Rattle.trace_format.specs.Accepting.{same_name}
use Rattle.trace_format.specs.Content.{TraceEvent, BeginEvent, Begin, Return}
use Rattle.object_model.specs.Objects.{same}
use Rattle.object_model.specs.History.{Birth, born_in}
use Rattle.replay_model.specs.Past.{Opened, is_of}
use Rattle.replay_model.specs.Births.{own_number, own_object}
use Rattle.chain_model.specs.Gaps as gaps
use Rattle.chain_model.specs.Gaps.{are_new}
use Rattle.chain_model.proofs.OneByOne.{bear, births_after}
use Rattle.layer_model.proofs.Same.{same_is, and_true}
use Rattle.chain_model.proofs.Naming.{AreFresh, IsOtherName, NamesApart, is_given, OwnOrBorn}
use Rattle.chain_model.proofs.OneToOne.{born_borne}
use Rattle.chain_model.proofs.Borne.{born_not_made}
use Rattle.chain_model.proofs.Passing.{is_made}

-- ---- lists

pub all_map : {X : Type 0} (P Q : X → Type 0) → ((x : X) → P x → Q x) → (xs : List X) → AllByRecursion P xs → AllByRecursion Q xs
all_map P Q f [] ks = tt
all_map P Q f (x ∷ xs) ks = (f x ks.0, all_map P Q f xs ks.1)

pub all_append : {X : Type 0} (P : X → Type 0) (xs ys : List X) → AllByRecursion P xs → AllByRecursion P ys → AllByRecursion P (xs ++ ys)
all_append P [] ys ks ls = ls
all_append P (x ∷ xs) ys ks ls = (ks.0, all_append P xs ys ks.1 ls)

pub all_filter : {X : Type 0} (P : X → Type 0) (p : X → Bool) (xs : List X) → AllByRecursion P xs → AllByRecursion P (filter p xs)
all_filter P p [] ks = tt
all_filter P p (x ∷ xs) ks = go (p x) (all_filter P p xs ks.1)
  where
    go : (u : Bool) → AllByRecursion P (filter p xs) → AllByRecursion P (cond u (x ∷ filter p xs) (filter p xs))
    go true ih = (ks.0, ih)
    go false ih = ih

pub all_found : {X : Type 0} (P : X → Type 0) (p : X → Bool) (xs : List X) (x : X) → AllByRecursion P xs → find p xs ≡ Some x → P x
all_found P p [] x ks is = cc is
all_found P p (y ∷ xs) x ks is = go (p y) (all_found P p xs x ks.1) is
  where
    go : (u : Bool) → (find p xs ≡ Some x → P x) → cond u (Some y) (find p xs) ≡ Some x → P x
    go true ih h = let one : y ≡ x = cc in subst P one ks.0
    go false ih h = ih h

-- ---- the names of a trace

abbrev pub all_names : List TraceEvent → List Name
all_names [] = []
all_names (Begin b ∷ before) = b.results ++ all_names before
all_names (Return thread ∷ before) = all_names before

-- their threads are small
abbrev pub AreSmall : List Name → Type 0
AreSmall names = AllByRecursion (λ n. n.thread < 2048) names

-- two names of one number are of one thread and place there
one_number : (a b : ℕ) (s t : ℕ) → s < 2048 → t < 2048 → a * 2048 + s ≡ b * 2048 + t → (a ≡ b) × (s ≡ t)
one_number a b s t p q e = (omega (arith, p, q, e), omega (arith, p, q, e))

-- so two names that differ have different numbers
other_number : (a b : Name) → a.thread < 2048 → b.thread < 2048 → same_name a b ≡ false → (own_number a == own_number b) ≡ false
other_number a b p q e = ne_eqb (own_number a) (own_number b) (λ w.
    let one = one_number a.number b.number a.thread b.thread p q w in
    let bad : same_name a b ≡ true = rw (eq-eqb a.thread b.thread one.1, eq-eqb a.number b.number one.0) refl in cc)

neither : (u v : Bool) → (u || v) ≡ false → (u ≡ false) × (v ≡ false)
neither false v e = (refl, e)
neither true v e = cc e

not_true : (u : Bool) → not u ≡ true → u ≡ false
not_true false e = refl
not_true true e = cc e

-- a name that no event gave has no number that is given
not_given : (events : List TraceEvent) (n : Name) → n.thread < 2048 → AreSmall (all_names events) → gaps.is_given events n ≡ false → is_given (all_names events) (own_number n) ≡ false
not_given [] n small ks e = refl
not_given (Begin b ∷ before) n small ks e =
    let a = neither (list_any (λ r. same_name r n) b.results) (gaps.is_given before n) e in none_of b.results ks a.0 (λ rest. not_given before n small rest a.1)
  where
    none_of : (rs : List Name) → AreSmall (rs ++ all_names before) → list_any (λ r. same_name r n) rs ≡ false → (AreSmall (all_names before) → is_given (all_names before) (own_number n) ≡ false) → is_given (rs ++ all_names before) (own_number n) ≡ false
    none_of [] all none ih = ih all
    none_of (r ∷ rs) all none ih = let a = neither (same_name r n) (list_any (λ x. same_name x n) rs) none in rw (other_number r n all.0 small a.0) (none_of rs all.1 a.1 ih)
not_given (Return thread ∷ before) n small ks e = not_given before n small ks e

-- new names have numbers that aren't given
pub new_not_given : (events : List TraceEvent) (names : List Name) → AreSmall names → AreSmall (all_names events) → are_new events names ≡ true → AllByRecursion (λ n. is_given (all_names events) (own_number n) ≡ false) names
new_not_given events [] small ks e = tt
new_not_given events (n ∷ names) small ks e =
    let a = and_true (not (gaps.is_given events n)) (not (list_any (same_name n) names) && are_new events names) e in
    let b = and_true (not (list_any (same_name n) names)) (are_new events names) a.1 in
    (not_given events n small.0 ks (not_true (gaps.is_given events n) a.0), new_not_given events names small.1 ks b.1)

-- they differ
new_apart : (events : List TraceEvent) (names : List Name) → AreSmall names → are_new events names ≡ true → NamesApart names
new_apart events [] small e = tt
new_apart events (n ∷ names) small e =
    let a = and_true (not (gaps.is_given events n)) (not (list_any (same_name n) names) && are_new events names) e in
    let b = and_true (not (list_any (same_name n) names)) (are_new events names) a.1 in
    (others names small.1 (not_true (list_any (same_name n) names) b.0), new_apart events names small.1 b.1)
  where
    others : (ms : List Name) → AreSmall ms → list_any (same_name n) ms ≡ false → IsOtherName n ms
    others [] all none = tt
    others (m ∷ ms) all none = let a = neither (same_name n m) (list_any (same_name n) ms) none in (other_number n m small.0 all.0 a.0, others ms all.1 a.1)

-- ---- what is fresh

-- all of these have numbers that are given
abbrev pub NumbersGiven : List Name → List Birth → Type 0
NumbersGiven names bs = AllByRecursion (λ b. is_given names b.object.number ≡ true) bs

-- an object of a number that isn't given isn't born
not_born : (names : List Name) (o : Object) → is_given names o.number ≡ false → (bs : List Birth) → NumbersGiven names bs → born_in bs o ≡ false
not_born names o none [] ks = refl
not_born names o none (b ∷ bs) ks = go (same b.object o) refl (not_born names o none bs ks.1)
  where
    go : (u : Bool) → same b.object o ≡ u → born_in bs o ≡ false → (u || born_in bs o) ≡ false
    go true e ih = let there : is_given names o.number ≡ true = ap (λ (x : Object). is_given names x.number) (sym (same_is b.object o e)) ∙ ks.0 in cc
    go false e ih = ih

pub given_more : (xs ys : List Name) (m : ℕ) → is_given ys m ≡ true → is_given (xs ++ ys) m ≡ true
given_more [] ys m e = e
given_more (x ∷ xs) ys m e = ap (λ t. (own_number x == m) || t) (given_more xs ys m e) ∙ or_true (own_number x == m)
  where
    or_true : (t : Bool) → (t || true) ≡ true
    or_true true = refl
    or_true false = refl

pub given_self : (before xs after : List Name) → AllByRecursion (λ n. is_given (before ++ (xs ++ after)) (own_number n) ≡ true) xs
given_self before [] after = tt
given_self before (x ∷ xs) after = (
  given_more before (x ∷ xs ++ after) (own_number x) (ap (λ t. t || is_given (xs ++ after) (own_number x)) (eq-eqb (own_number x) (own_number x) refl)),
  subst (λ (zs : List Name). AllByRecursion (λ n. is_given zs (own_number n) ≡ true) xs) (middle before x (xs ++ after)) (given_self (before ++ x ∷ []) xs after),
)
  where
    middle : (as0 : List Name) (y : Name) (zs : List Name) → (as0 ++ y ∷ []) ++ zs ≡ as0 ++ y ∷ zs
    middle [] y zs = refl
    middle (a ∷ as0) y zs = ap (λ ws. a ∷ ws) (middle as0 y zs)

-- ---- open calls

abbrev pub Disjoint : List Name → List Name → Type 0
Disjoint xs ys = AllByRecursion (λ n. IsOtherName n ys) xs

-- no two open calls give one name
abbrev pub OpensApart : List Opened → Type 0
OpensApart [] = Unit {0}
OpensApart (o ∷ os) = NamesApart o.results × AllByRecursion (λ x. Disjoint o.results x.results × Disjoint x.results o.results) os × OpensApart os

apart_filter : (p : Opened → Bool) (os : List Opened) → OpensApart os → OpensApart (filter p os)
apart_filter p [] a = tt
apart_filter p (o ∷ os) a = go (p o) (apart_filter p os a.2)
  where
    go : (u : Bool) → OpensApart (filter p os) → OpensApart (cond u (o ∷ filter p os) (filter p os))
    go true ih = (a.0, all_filter (λ x. Disjoint o.results x.results × Disjoint x.results o.results) p os a.1, ih)
    go false ih = ih

apart_more : (os : List Opened) (o : Opened) → OpensApart os → NamesApart o.results → AllByRecursion (λ x. Disjoint x.results o.results × Disjoint o.results x.results) os → OpensApart (os ++ o ∷ [])
apart_more [] o a n ds = (n, tt, tt)
apart_more (x ∷ os) o a n ds = (a.0, all_append (λ y. Disjoint x.results y.results × Disjoint y.results x.results) os (o ∷ []) a.1 (ds.0, tt), apart_more os o a.2 n ds.1)

-- the other open calls give other names
others_apart : (thread : ℕ) (os : List Opened) (o : Opened) → OpensApart os → find (is_of thread) os ≡ Some o → o.thread ≡ thread → AllByRecursion (λ x. Disjoint o.results x.results × Disjoint x.results o.results) (filter (λ x. not (is_of o.thread x)) os)
others_apart thread [] o a is t = tt
others_apart thread (y ∷ os) o a is t = go (is_of thread y) refl (λ h. others_apart thread os o a.2 h t) is
  where
    same_test : is_of o.thread y ≡ is_of thread y
    same_test = ap (λ (n : ℕ). y.thread == n) t

    swap : Disjoint y.results o.results × Disjoint o.results y.results → Disjoint o.results y.results × Disjoint y.results o.results
    swap d = (d.1, d.0)

    go : (u : Bool) → is_of thread y ≡ u → (find (is_of thread) os ≡ Some o → AllByRecursion (λ x. Disjoint o.results x.results × Disjoint x.results o.results) (filter (λ x. not (is_of o.thread x)) os)) → cond u (Some y) (find (is_of thread) os) ≡ Some o
        → AllByRecursion (λ x. Disjoint o.results x.results × Disjoint x.results o.results) (cond (not (is_of o.thread y)) (y ∷ filter (λ x. not (is_of o.thread x)) os) (filter (λ x. not (is_of o.thread x)) os))
    go true e ih h =
        let one : y ≡ o = cc in
        subst (λ (v : Bool). AllByRecursion (λ x. Disjoint o.results x.results × Disjoint x.results o.results) (cond (not v) (y ∷ filter (λ x. not (is_of o.thread x)) os) (filter (λ x. not (is_of o.thread x)) os))) (sym (same_test ∙ e))
        (subst (λ (z : Opened). AllByRecursion (λ x. Disjoint z.results x.results × Disjoint x.results z.results) (filter (λ x. not (is_of o.thread x)) os)) one
        (all_filter (λ x. Disjoint y.results x.results × Disjoint x.results y.results) (λ x. not (is_of o.thread x)) os a.1))
    go false e ih h =
        subst (λ (v : Bool). AllByRecursion (λ x. Disjoint o.results x.results × Disjoint x.results o.results) (cond (not v) (y ∷ filter (λ x. not (is_of o.thread x)) os) (filter (λ x. not (is_of o.thread x)) os))) (sym (same_test ∙ e))
        (swap (all_found (λ x. Disjoint y.results x.results × Disjoint x.results y.results) (is_of thread) os o a.1 h), ih h)

-- ---- the invariant

-- the names are of small threads, each open call's names are given, and its results would be new
pub record NamesWell (events : List TraceEvent) (bs : List Birth) (opens : List Opened) : Type 0 where
  pub threads : AreSmall (all_names events)
  pub births : NumbersGiven (all_names events) bs
  pub given : AllByRecursion (λ o. AllByRecursion (λ n. is_given (all_names events) (own_number n) ≡ true) o.results) opens
  pub fresh : AllByRecursion (λ o. AreFresh bs o.results) opens
  pub apart : OpensApart opens

pub no_names : NamesWell [] [] []
no_names = record { threads = tt; births = tt; given = tt; fresh = tt; apart = tt }

-- names that are given differ from one that isn't
given_other : (all : List Name) (n : Name) → is_given all (own_number n) ≡ false → (xs : List Name) → AllByRecursion (λ m. is_given all (own_number m) ≡ true) xs → IsOtherName n xs × AllByRecursion (λ m. (own_number m == own_number n) ≡ false) xs
given_other all n none [] ks = (tt, tt)
given_other all n none (m ∷ xs) ks =
    let rest = given_other all n none xs ks.1 in
    let differ : own_number m ≡ own_number n → ⊥ = λ (e : own_number m ≡ own_number n). (let bad : is_given all (own_number n) ≡ true = ap (is_given all) (sym e) ∙ ks.0 in cc) in
    ((ne_eqb (own_number n) (own_number m) (λ e. differ (sym e)), rest.0), (ne_eqb (own_number m) (own_number n) differ, rest.1))

all_disjoint : (all : List Name) (ys : List Name) → AllByRecursion (λ n. is_given all (own_number n) ≡ false) ys → (xs : List Name) → AllByRecursion (λ m. is_given all (own_number m) ≡ true) xs → Disjoint xs ys × Disjoint ys xs
all_disjoint all ys none xs ks = (left xs ks, all_map (λ n. is_given all (own_number n) ≡ false) (λ n. IsOtherName n xs) (λ n e. (given_other all n e xs ks).0) ys none)
  where
    one : (m : Name) → is_given all (own_number m) ≡ true → IsOtherName m ys
    one m g = all_map (λ n. is_given all (own_number n) ≡ false) (λ n. (own_number m == own_number n) ≡ false)
        (λ n e. ne_eqb (own_number m) (own_number n) (λ w. let bad : is_given all (own_number n) ≡ true = ap (is_given all) (sym w) ∙ g in cc)) ys none

    left : (zs : List Name) → AllByRecursion (λ m. is_given all (own_number m) ≡ true) zs → Disjoint zs ys
    left [] k = tt
    left (m ∷ zs) k = (one m k.0, left zs k.1)

-- a begin
pub names_begun : (events : List TraceEvent) (b : BeginEvent) (o : Opened) (bs : List Birth) (opens : List Opened) → NamesWell events bs opens → o.results ≡ b.results → AreSmall b.results → are_new events b.results ≡ true
    → NamesWell (Begin b ∷ events) bs (opens ++ o ∷ [])
names_begun events b o bs opens s is small new =
    let none : AllByRecursion (λ n. is_given (all_names events) (own_number n) ≡ false) b.results = new_not_given events b.results small s.threads new in
    record {
      threads = all_append (λ n. n.thread < 2048) b.results (all_names events) small s.threads;
      births = all_map (λ (x : Birth). is_given (all_names events) x.object.number ≡ true) (λ (x : Birth). is_given (b.results ++ all_names events) x.object.number ≡ true) (λ x e. given_more b.results (all_names events) x.object.number e) bs s.births;
      given = all_append (λ x. AllByRecursion (λ n. is_given (b.results ++ all_names events) (own_number n) ≡ true) x.results) opens (o ∷ [])
          (all_map (λ x. AllByRecursion (λ n. is_given (all_names events) (own_number n) ≡ true) x.results) (λ x. AllByRecursion (λ n. is_given (b.results ++ all_names events) (own_number n) ≡ true) x.results)
          (λ x h. all_map (λ n. is_given (all_names events) (own_number n) ≡ true) (λ n. is_given (b.results ++ all_names events) (own_number n) ≡ true) (λ n e. given_more b.results (all_names events) (own_number n) e) x.results h) opens s.given)
          (subst (λ ns. AllByRecursion (λ n. is_given (b.results ++ all_names events) (own_number n) ≡ true) ns) (sym is) (given_self [] b.results (all_names events)), tt);
      fresh = all_append (λ x. AreFresh bs x.results) opens (o ∷ []) s.fresh
          (subst (λ ns. AreFresh bs ns) (sym is) (all_map (λ n. is_given (all_names events) (own_number n) ≡ false) (λ n. (t : ObjectType) → born_in bs (own_object t n) ≡ false) (λ n e t. not_born (all_names events) (own_object t n) e bs s.births) b.results none), tt);
      apart = apart_more opens o s.apart (subst NamesApart (sym is) (new_apart events b.results small new))
          (subst (λ ns. AllByRecursion (λ x. Disjoint x.results ns × Disjoint ns x.results) opens) (sym is)
          (all_map (λ x. AllByRecursion (λ n. is_given (all_names events) (own_number n) ≡ true) x.results) (λ x. Disjoint x.results b.results × Disjoint b.results x.results) (λ x h. all_disjoint (all_names events) b.results none x.results h) opens s.given));
    }

-- ---- a return

births_after_given : (all names : List Name) (created : Bool) (owners : List Object) → ((m : ℕ) → is_given names m ≡ true → is_given all m ≡ true) → (bs : List Birth) (made : List Born) → NumbersGiven all bs → AllByRecursion (OwnOrBorn bs names) made → NumbersGiven all (births_after created owners bs made)
births_after_given all names created owners among bs [] ks os = ks
births_after_given all names created owners among bs (b ∷ made) ks os =
    births_after_given all names created owners among (bear created owners bs b.object) made (go (born_in bs b.object) refl) (all_map (OwnOrBorn bs names) (OwnOrBorn (bear created owners bs b.object) names) (λ x h. still x h) made os.1)
  where
    still : (x : Born) → OwnOrBorn bs names x → OwnOrBorn (bear created owners bs b.object) names x
    still x (inl e) = inl (born_borne created owners bs b.object x.object e)
    still x (inr e) = inr e

    own : born_in bs b.object ≡ false → OwnOrBorn bs names b → is_given all b.object.number ≡ true
    own e (inl h) = cc
    own e (inr h) = among b.object.number h

    go : (u : Bool) → born_in bs b.object ≡ u → NumbersGiven all (cond u bs (bs ++ record { object = b.object; created = created; owners = owners } ∷ []))
    go true e = ks
    go false e = all_append (λ (x : Birth). is_given all x.object.number ≡ true) bs (record { object = b.object; created = created; owners = owners } ∷ []) ks (own e os.0, tt)

-- what a call makes is no object of another name
not_made : (bs : List Birth) (names : List Name) (o : Object) → born_in bs o ≡ false → is_given names o.number ≡ false → (made : List Born) → AllByRecursion (OwnOrBorn bs names) made → is_made made o ≡ false
not_made bs names o fresh other [] os = refl
not_made bs names o fresh other (b ∷ made) os = go (same b.object o) refl (not_made bs names o fresh other made os.1) os.0
  where
    go : (u : Bool) → same b.object o ≡ u → is_made made o ≡ false → OwnOrBorn bs names b → (u || is_made made o) ≡ false
    go true e ih (inl h) = let bad : born_in bs o ≡ true = ap (born_in bs) (sym (same_is b.object o e)) ∙ h in cc
    go true e ih (inr h) = let bad : is_given names o.number ≡ true = ap (λ (x : Object). is_given names x.number) (sym (same_is b.object o e)) ∙ h in cc
    go false e ih h = ih

other_given : (n : Name) (names : List Name) → IsOtherName n names → is_given names (own_number n) ≡ false
other_given n [] e = refl
other_given n (m ∷ names) e = rw (flip (own_number m == own_number n) refl) (other_given n names e.1)
  where
    flip : (u : Bool) → (own_number m == own_number n) ≡ u → u ≡ false
    flip false h = refl
    flip true h = let w : own_number m ≡ own_number n = eqb-true (own_number m) (own_number n) h in let bad : (own_number n == own_number m) ≡ true = eq-eqb (own_number n) (own_number m) (sym w) in let good : (own_number n == own_number m) ≡ false = e.0 in cc

given_among : (all : List Name) (names : List Name) → AllByRecursion (λ n. is_given all (own_number n) ≡ true) names → (m : ℕ) → is_given names m ≡ true → is_given all m ≡ true
given_among all [] ks m e = cc e
given_among all (n ∷ names) ks m e = go (own_number n == m) refl (given_among all names ks.1 m) e
  where
    go : (u : Bool) → (own_number n == m) ≡ u → (is_given names m ≡ true → is_given all m ≡ true) → (u || is_given names m) ≡ true → is_given all m ≡ true
    go true h ih g = ap (is_given all) (sym (eqb-true (own_number n) m h)) ∙ ks.0
    go false h ih g = ih g

pub names_returned : (events : List TraceEvent) (thread : ℕ) (created : Bool) (owners : List Object) (bs : List Birth) (opens : List Opened) (o : Opened) (made : List Born) → NamesWell events bs opens → find (is_of thread) opens ≡ Some o → o.thread ≡ thread
    → AllByRecursion (OwnOrBorn bs o.results) made → NamesWell (Return thread ∷ events) (births_after created owners bs made) (filter (λ x. not (is_of o.thread x)) opens)
names_returned events thread created owners bs opens o made s is t own =
    let p : Opened → Bool = λ (x : Opened). not (is_of o.thread x) in
    record {
      threads = s.threads;
      births = births_after_given (all_names events) o.results created owners (given_among (all_names events) o.results (all_found (λ x. AllByRecursion (λ n. is_given (all_names events) (own_number n) ≡ true) x.results) (is_of thread) opens o s.given is)) bs made s.births own;
      given = all_filter (λ x. AllByRecursion (λ n. is_given (all_names events) (own_number n) ≡ true) x.results) (λ x. not (is_of o.thread x)) opens s.given;
      fresh = both (filter (λ x. not (is_of o.thread x)) opens) (all_filter (λ x. AreFresh bs x.results) (λ x. not (is_of o.thread x)) opens s.fresh) (others_apart thread opens o s.apart is t);
      apart = apart_filter (λ x. not (is_of o.thread x)) opens s.apart;
    }
  where
    still : (ns : List Name) → AreFresh bs ns → Disjoint ns o.results → AreFresh (births_after created owners bs made) ns
    still [] f d = tt
    still (n ∷ ns) f d =
        ((λ k. born_not_made created owners bs made (own_object k n) (not_made bs o.results (own_object k n) (f.0 k) (other_given n o.results d.0) made own) ∙ f.0 k), still ns f.1 d.1)

    both : (os : List Opened) → AllByRecursion (λ x. AreFresh bs x.results) os → AllByRecursion (λ x. Disjoint o.results x.results × Disjoint x.results o.results) os → AllByRecursion (λ x. AreFresh (births_after created owners bs made) x.results) os
    both [] f d = tt
    both (x ∷ os) f d = (still x.results f.0 d.0.1, both os f.1 d.1)
