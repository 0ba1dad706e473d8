-- The links between records.
use Rattle.std.proofs.Common.{◌≡◌, ◌≤◌, ◌<◌, ◌∙◌, ◌&&◌, ◌||◌, ◌==◌, ◌+◌, ◌-◌, ℕ, zero, suc, cond, Bool, true, false, Option, Some, None, List, [], ◌∷◌, ◌++◌, length, take, get_or, refl, sym, ap, subst, arith, length-append, eq-eqb}
use Rattle.std.specs.Prelude.{filter, nat_lt, slice_get}
use Rattle.std.specs.Option.{option_map_or}
use Rattle.std.proofs.Math.ListN.{set}
use Rattle.std.proofs.lemmas.Bool.{eqb-true, ltb-true}
use Rattle.std.proofs.lemmas.List.Folds.{list_any-append}
use Rattle.std.proofs.lemmas.Option.{same_Some, slice_get-get_or}
use Rattle.object_records.specs.declared.kept_owner.KeptOwner.{KeptOwner}
use Rattle.object_records.specs.declared.kept_owner.KeptOwner.TheVariants.{Nobody, At, Unborn}
use Rattle.object_records.specs.declared.links.Links.{Links}
use Rattle.object_records.specs.declared.record.ObjectRecord.{ObjectRecord}
use Rattle.object_records.specs.Links.{AreFew, AreLinked, HasChild, IsLinked, IsPrevious, child_count, is_child_of, has_strays_in, is_owner_at, is_unborn, last_from, last_link, last_of, link_by, linked, linked_at, unlinked, unlinked_at, with_linked}
use Rattle.object_records.specs.Table.{LivesAt, AreOwnersBefore, before_owned, ended_at}

-- ---- links read and written

-- links written over others are those with a further record
pub written_linked : (links : List Links) (place link : ℕ) (child : Bool) (l : Links) (n : ℕ) → l ≡ get_or links place l → n ≡ cond child 1 0
    → set links place (record { last_owned = link; previous = l.previous; children = l.children + n }) ≡ linked_at links place link child
written_linked [] place link child l n is more = refl
written_linked (x ∷ links) zero link child l n is more =
    ap (λ m. record { last_owned = link; previous = l.previous; children = l.children + m } ∷ links) more ∙ ap (λ (y : Links). record { last_owned = link; previous = y.previous; children = y.children + cond child 1 0 } ∷ links) is
written_linked (x ∷ links) (suc place) link child l n is more = ap (λ ls. x ∷ ls) (written_linked links place link child l n is more)

-- links written over others are those with a child less
pub written_unlinked : (links : List Links) (place : ℕ) (l : Links) → l ≡ get_or links place l → set links place (record { last_owned = l.last_owned; previous = l.previous; children = l.children - 1 }) ≡ unlinked_at links place
written_unlinked [] place l is = refl
written_unlinked (x ∷ links) zero l is = ap (λ (y : Links). record { last_owned = y.last_owned; previous = y.previous; children = y.children - 1 } ∷ links) is
written_unlinked (x ∷ links) (suc place) l is = ap (λ ls. x ∷ ls) (written_unlinked links place l is)

-- the link that is read
pub read_last : (links : List Links) (place : ℕ) (l : Links) → place < length links → l ≡ get_or links place l → l.last_owned ≡ option_map_or (λ (x : Links). x.last_owned) (slice_get links place) 0
read_last [] place l low is = absurd (omega (arith, low))
read_last (x ∷ links) zero l low is = ap (λ (y : Links). y.last_owned) is
read_last (x ∷ links) (suc place) l low is = read_last links place l (omega (arith, low)) is

-- the place of an owner is below
pub owner_low : (w : KeptOwner) (place : ℕ) (links : List Links) → w ≡ At place → before_owned w ≤ length links → place < length links
owner_low w place links is low = omega (arith, low, ap before_owned is)

-- ---- a further record

pub last_snoc : (k found place : ℕ) (rs : List ObjectRecord) (r : ObjectRecord) → last_from k found place (rs ++ r ∷ []) ≡ cond (is_owner_at place r.owner) (suc (k + length rs)) (last_from k found place rs)
last_snoc k found place [] r = ap (λ n. cond (is_owner_at place r.owner) (suc n) found) (omega arith)
last_snoc k found place (x ∷ rs) r =
    last_snoc (suc k) (cond (is_owner_at place x.owner) (suc k) found) place rs r
    ∙ ap (λ n. cond (is_owner_at place r.owner) (suc n) (last_from (suc k) (cond (is_owner_at place x.owner) (suc k) found) place rs)) (omega arith)

count_snoc : (place : ℕ) (rs : List ObjectRecord) (r : ObjectRecord) → child_count (rs ++ r ∷ []) place ≡ child_count rs place + cond (is_child_of place r) 1 0
count_snoc place [] r = go (is_child_of place r)
  where
    go : (u : Bool) → length (cond u (r ∷ []) []) ≡ 0 + cond u 1 0
    go true = refl
    go false = refl
count_snoc place (x ∷ rs) r = go (is_child_of place x) (count_snoc place rs r)
  where
    go : (u : Bool) → child_count (rs ++ r ∷ []) place ≡ child_count rs place + cond (is_child_of place r) 1 0
        → length (cond u (x ∷ filter (is_child_of place) (rs ++ r ∷ [])) (filter (is_child_of place) (rs ++ r ∷ []))) ≡ length (cond u (x ∷ filter (is_child_of place) rs) (filter (is_child_of place) rs)) + cond (is_child_of place r) 1 0
    go true ih = omega (arith, ih)
    go false ih = ih

not_owner : (w : KeptOwner) (place : ℕ) → before_owned w ≤ place → is_owner_at place w ≡ false
not_owner Nobody place low = refl
not_owner (Unborn o) place low = refl
not_owner (At other) place low = go (other == place) refl
  where
    go : (u : Bool) → (other == place) ≡ u → (other == place) ≡ false
    go true e = absurd (omega (arith, low, eqb-true other place e))
    go false e = e

last_none : (k found place : ℕ) (rs : List ObjectRecord) → AreOwnersBefore k rs → k + length rs ≤ suc place → last_from k found place rs ≡ found
last_none k found place [] all high = refl
last_none k found place (r ∷ rs) all high =
    ap (λ u. last_from (suc k) (cond u (suc k) found) place rs) (not_owner r.owner place (omega (arith, all.0, high))) ∙ last_none (suc k) found place rs all.1 (omega (arith, high))

and_none : (a b : Bool) → (a && b && false) ≡ false
and_none true true = refl
and_none true false = refl
and_none false b = refl

count_none : (k place : ℕ) (rs : List ObjectRecord) → AreOwnersBefore k rs → k + length rs ≤ suc place → child_count rs place ≡ 0
count_none k place [] all high = refl
count_none k place (r ∷ rs) all high =
    ap (λ u. length (cond (r.is_created && r.lives && u) (r ∷ filter (is_child_of place) rs) (filter (is_child_of place) rs))) (not_owner r.owner place (omega (arith, all.0, high)))
    ∙ (ap (λ u. length (cond u (r ∷ filter (is_child_of place) rs) (filter (is_child_of place) rs))) (and_none r.is_created r.lives) ∙ count_none (suc k) place rs all.1 (omega (arith, high)))

pub get_front : {X : Type 0} (xs : List X) (x : X) (n : ℕ) → n < length xs → slice_get (xs ++ x ∷ []) n ≡ slice_get xs n
get_front [] x n low = absurd (omega (arith, low))
get_front (y ∷ xs) x zero low = refl
get_front (y ∷ xs) x (suc n) low = get_front xs x n (omega (arith, low))

pub get_last : {X : Type 0} (xs : List X) (x : X) (n : ℕ) → n ≡ length xs → slice_get (xs ++ x ∷ []) n ≡ Some x
get_last [] x zero at = refl
get_last [] x (suc n) at = absurd (omega (arith, at))
get_last (y ∷ xs) x zero at = absurd (omega (arith, at))
get_last (y ∷ xs) x (suc n) at = get_last xs x n (omega (arith, at))

pub get_low : {X : Type 0} (xs : List X) (x : X) (n : ℕ) → slice_get xs n ≡ Some x → n < length xs
get_low [] x n e = cc e
get_low (y ∷ xs) x zero e = omega arith
get_low (y ∷ xs) x (suc n) e = omega (arith, get_low xs x n e)

take_front : (rs : List ObjectRecord) (r : ObjectRecord) (n : ℕ) → n ≤ length rs → take n (rs ++ r ∷ []) ≡ take n rs
take_front rs r zero low = refl
take_front [] r (suc n) low = absurd (omega (arith, low))
take_front (x ∷ rs) r (suc n) low = ap (λ xs. x ∷ xs) (take_front rs r n (omega (arith, low)))

pub take_all : (rs : List ObjectRecord) (n : ℕ) → n ≡ length rs → take n rs ≡ rs
take_all [] zero at = refl
take_all [] (suc n) at = refl
take_all (x ∷ rs) zero at = absurd (omega (arith, at))
take_all (x ∷ rs) (suc n) at = ap (λ xs. x ∷ xs) (take_all rs n (omega (arith, at)))

-- as many links as before
pub linked_length : (links : List Links) (w : KeptOwner) (link : ℕ) (child : Bool) → length (linked links w link child) ≡ length links
linked_length links Nobody link child = refl
linked_length links (Unborn o) link child = refl
linked_length links (At place) link child = go links place
  where
    go : (ls : List Links) (n : ℕ) → length (linked_at ls n link child) ≡ length ls
    go [] n = refl
    go (l ∷ ls) zero = refl
    go (l ∷ ls) (suc n) = ap suc (go ls n)

-- what stands at a place after a further record: as before, but for the link and the count of the owner
record WasLinked (links : List Links) (w : KeptOwner) (link : ℕ) (child : Bool) (place : ℕ) (l : Links) : Type 0 where
  old : Links
  here : slice_get links place ≡ Some old
  last : l.last_owned ≡ cond (is_owner_at place w) link old.last_owned
  children : l.children ≡ old.children + cond (child && is_owner_at place w) 1 0
  previous : l.previous ≡ old.previous

was_same : (links : List Links) (w : KeptOwner) (link : ℕ) (child : Bool) (place : ℕ) (l : Links) → is_owner_at place w ≡ false → slice_get links place ≡ Some l → WasLinked links w link child place l
was_same links w link child place l not e = record {
  old = l;
  here = e;
  last = ap (λ u. cond u link l.last_owned) (sym not);
  children = none child ∙ ap (λ u. l.children + cond (child && u) 1 0) (sym not);
  previous = refl;
}
  where
    none : (c : Bool) → l.children ≡ l.children + cond (c && false) 1 0
    none true = omega arith
    none false = omega arith

-- numbers that aren't the same
pub not_same : (a b : ℕ) → (a ≡ b → ⊥) → (a == b) ≡ false
not_same a b apart = go (a == b) refl
  where
    go : (u : Bool) → (a == b) ≡ u → (a == b) ≡ false
    go true e = absurd (apart (eqb-true a b e))
    go false e = e

-- the test of the next numbers
pub suc_same : (a b : ℕ) → (suc a == suc b) ≡ (a == b)
suc_same a b = go (a == b) refl
  where
    go : (u : Bool) → (a == b) ≡ u → (suc a == suc b) ≡ (a == b)
    go true e = eq-eqb (suc a) (suc b) (ap suc (eqb-true a b e)) ∙ sym e
    go false e = not_same (suc a) (suc b) (λ (f : suc a ≡ suc b). both (sym (eq-eqb a b (omega (arith, f))) ∙ e)) ∙ sym e
      where
        both : true ≡ false → ⊥
        both f = cc f

pub self_same : (a : ℕ) → (a == a) ≡ true
self_same a = eq-eqb a a refl

was_linked : (links : List Links) (w : KeptOwner) (link : ℕ) (child : Bool) (place : ℕ) (l : Links) → slice_get (linked links w link child) place ≡ Some l → WasLinked links w link child place l
was_linked links Nobody link child place l e = was_same links Nobody link child place l refl e
was_linked links (Unborn o) link child place l e = was_same links (Unborn o) link child place l refl e
was_linked links (At owner) link child place l e = go links owner place e
  where
    yes : (n : ℕ) (c : Bool) → n + cond c 1 0 ≡ n + cond (c && true) 1 0
    yes n true = refl
    yes n false = refl

    go : (ls : List Links) (n p : ℕ) → slice_get (linked_at ls n link child) p ≡ Some l → WasLinked ls (At n) link child p l
    go [] n p f = cc f
    go (x ∷ ls) zero zero f =
        let is : record { last_owned = link; previous = x.previous; children = x.children + cond child 1 0 } ≡ l = same_Some _ l f in record {
          old = x;
          here = refl;
          last = ap (λ (y : Links). y.last_owned) (sym is) ∙ ap (λ u. cond u link x.last_owned) (sym (self_same 0));
          children = ap (λ (y : Links). y.children) (sym is) ∙ (yes x.children child ∙ ap (λ u. x.children + cond (child && u) 1 0) (sym (self_same 0)));
          previous = ap (λ (y : Links). y.previous) (sym is);
        }
    go (x ∷ ls) zero (suc p) f = was_same (x ∷ ls) (At zero) link child (suc p) l (not_same 0 (suc p) (λ (g : 0 ≡ suc p). omega (arith, g))) f
    go (x ∷ ls) (suc n) zero f = was_same (x ∷ ls) (At (suc n)) link child zero l (not_same (suc n) 0 (λ (g : suc n ≡ 0). omega (arith, g))) f
    go (x ∷ ls) (suc n) (suc p) f =
        let rest = go ls n p f in record {
          old = rest.old;
          here = rest.here;
          last = rest.last ∙ ap (λ u. cond u link rest.old.last_owned) (sym (suc_same n p));
          children = rest.children ∙ ap (λ u. rest.old.children + cond (child && u) 1 0) (sym (suc_same n p));
          previous = rest.previous;
        }

last_is : (links : List Links) (rs : List ObjectRecord) (w : KeptOwner) → AreLinked rs links → before_owned w ≤ length rs → last_of links w ≡ link_by rs w
last_is links rs Nobody are low = refl
last_is links rs (Unborn o) are low = refl
last_is links rs (At place) are low = go (slice_get links place) refl
  where
    past : (ls : List Links) (n : ℕ) → n < length ls → slice_get ls n ≡ None → ⊥
    past [] n l e = absurd (omega (arith, l))
    past (x ∷ ls) zero l e = cc e
    past (x ∷ ls) (suc n) l e = past ls n (omega (arith, l)) e

    go : (x : Option Links) → slice_get links place ≡ x → option_map_or (λ (y : Links). y.last_owned) x 0 ≡ last_link rs place
    go None e = absurd (past links place (omega (arith, low, are.count)) e)
    go (Some l) e = (are.each place l e).last

-- a further record is linked, and all others stay so
linked_more : (rs : List ObjectRecord) (links : List Links) (r : ObjectRecord) → AreLinked rs links → AreOwnersBefore 0 rs → before_owned r.owner ≤ length rs
    → AreLinked (rs ++ r ∷ []) (linked links r.owner (suc (length rs)) (r.is_created && r.lives) ++ record { last_owned = 0; previous = last_of links r.owner; children = 0 } ∷ [])
linked_more rs links r are all low = record {
  count = omega (arith, length-append next (new ∷ []), long, are.count, length-append rs (r ∷ []));
  each = λ place l e. split place l e (nat_lt place (length rs)) refl;
}
  where
    next : List Links
    next = linked links r.owner (suc (length rs)) (r.is_created && r.lives)

    new : Links
    new = record { last_owned = 0; previous = last_of links r.owner; children = 0 }

    long : length next ≡ length links
    long = linked_length links r.owner (suc (length rs)) (r.is_created && r.lives)

    assoc : (a b c : Bool) → ((a && b) && c) ≡ (a && b && c)
    assoc true b c = refl
    assoc false b c = refl

    before : (place : ℕ) (l : Links) → place < length rs → WasLinked links r.owner (suc (length rs)) (r.is_created && r.lives) place l → IsLinked (rs ++ r ∷ []) place l
    before place l less was =
        let old = are.each place was.old was.here in record {
          last = was.last ∙ (ap (λ n. cond (is_owner_at place r.owner) (suc (length rs)) n) old.last ∙ (ap (λ n. cond (is_owner_at place r.owner) (suc n) (last_link rs place)) (omega arith) ∙ sym (last_snoc 0 0 place rs r)));
          children = was.children ∙ (ap (λ n. n + cond ((r.is_created && r.lives) && is_owner_at place r.owner) 1 0) old.children
              ∙ (ap (λ u. child_count rs place + cond u 1 0) (assoc r.is_created r.lives (is_owner_at place r.owner)) ∙ sym (count_snoc place rs r)));
          previous = λ x f. was.previous ∙ (old.previous x (sym (get_front rs r place less) ∙ f) ∙ ap (λ (xs : List ObjectRecord). link_by xs x.owner) (sym (take_front rs r place (omega (arith, less)))));
        }

    last : (place : ℕ) (l : Links) → place ≡ length rs → new ≡ l → IsLinked (rs ++ r ∷ []) place l
    last place l at is = record {
      last = ap (λ (y : Links). y.last_owned) (sym is)
          ∙ sym (last_snoc 0 0 place rs r ∙ (ap (λ u. cond u (suc (0 + length rs)) (last_link rs place)) (not_owner r.owner place (omega (arith, low, at))) ∙ last_none 0 0 place rs all (omega (arith, at))));
      children = ap (λ (y : Links). y.children) (sym is)
          ∙ sym (count_snoc place rs r ∙ (ap (λ u. child_count rs place + cond (r.is_created && r.lives && u) 1 0) (not_owner r.owner place (omega (arith, low, at)))
          ∙ (ap (λ u. child_count rs place + cond u 1 0) (and_none r.is_created r.lives) ∙ omega (arith, count_none 0 place rs all (omega (arith, at))))));
      previous = λ x f.
          let same : r ≡ x = same_Some r x (sym (get_last rs r place at) ∙ f) in
          ap (λ (y : Links). y.previous) (sym is)
          ∙ (last_is links rs r.owner are low
          ∙ (ap (λ (y : ObjectRecord). link_by rs y.owner) same ∙ ap (λ (xs : List ObjectRecord). link_by xs x.owner) (sym (take_front rs r place (omega (arith, at)) ∙ take_all rs place at))));
    }

    split : (place : ℕ) (l : Links) → slice_get (next ++ new ∷ []) place ≡ Some l → (u : Bool) → nat_lt place (length rs) ≡ u → IsLinked (rs ++ r ∷ []) place l
    split place l e true lt =
        let less : place < length rs = ltb-true place (length rs) lt in
        before place l less (was_linked links r.owner (suc (length rs)) (r.is_created && r.lives) place l (sym (get_front next new place (omega (arith, less, long, are.count))) ∙ e))
    split place l e false lt =
        let within : place < length (next ++ new ∷ []) = get_low (next ++ new ∷ []) l place e in
        let least : length rs ≤ place = grind (arith, lt) in
        let at : place ≡ length rs = omega (arith, within, length-append next (new ∷ []), long, are.count, least) in
        last place l at (same_Some new l (sym (get_last next new place (omega (arith, at, long, are.count))) ∙ e))

-- the same by the number of links
pub added_linked : (rs : List ObjectRecord) (links : List Links) (r : ObjectRecord) → AreLinked rs links → AreOwnersBefore 0 rs → before_owned r.owner ≤ length rs → AreLinked (rs ++ r ∷ []) (with_linked links r.owner (r.is_created && r.lives))
added_linked rs links r are all low =
    subst (λ (n : ℕ). AreLinked (rs ++ r ∷ []) (linked links r.owner (suc n) (r.is_created && r.lives) ++ record { last_owned = 0; previous = last_of links r.owner; children = 0 } ∷ [])) (sym are.count) (linked_more rs links r are all low)

-- ---- an end

count_less : (rs : List ObjectRecord) (at place : ℕ) (r : ObjectRecord) → slice_get rs at ≡ Some r → r.lives ≡ true
    → child_count (ended_at rs at) place + cond (r.is_created && is_owner_at place r.owner) 1 0 ≡ child_count rs place
count_less [] at place r e lives = cc e
count_less (x ∷ rs) zero place r e lives =
    let is : x ≡ r = same_Some x r e in
    ap (λ u. length (cond u (record x { lives = false } ∷ filter (is_child_of place) rs) (filter (is_child_of place) rs)) + cond (r.is_created && is_owner_at place r.owner) 1 0) (dead x.is_created)
    ∙ (ap (λ (y : ObjectRecord). child_count rs place + cond (y.is_created && is_owner_at place y.owner) 1 0) (sym is)
    ∙ (go (x.is_created && is_owner_at place x.owner)
    ∙ (ap (λ u. length (cond u (x ∷ filter (is_child_of place) rs) (filter (is_child_of place) rs))) (lived x.is_created) ∙ ap (λ u. length (cond (x.is_created && u && is_owner_at place x.owner) (x ∷ filter (is_child_of place) rs) (filter (is_child_of place) rs))) (sym (ap (λ (y : ObjectRecord). y.lives) is ∙ lives)))))
  where
    lived : (c : Bool) → (c && is_owner_at place x.owner) ≡ (c && true && is_owner_at place x.owner)
    lived true = refl
    lived false = refl

    dead : (c : Bool) → (c && false && is_owner_at place x.owner) ≡ false
    dead true = refl
    dead false = refl

    go : (u : Bool) → child_count rs place + cond u 1 0 ≡ length (cond u (x ∷ filter (is_child_of place) rs) (filter (is_child_of place) rs))
    go true = omega arith
    go false = omega arith
count_less (x ∷ rs) (suc at) place r e lives = go (is_child_of place x) (count_less rs at place r e lives)
  where
    go : (u : Bool) → child_count (ended_at rs at) place + cond (r.is_created && is_owner_at place r.owner) 1 0 ≡ child_count rs place
        → length (cond u (x ∷ filter (is_child_of place) (ended_at rs at)) (filter (is_child_of place) (ended_at rs at))) + cond (r.is_created && is_owner_at place r.owner) 1 0
        ≡ length (cond u (x ∷ filter (is_child_of place) rs) (filter (is_child_of place) rs))
    go true ih = omega (arith, ih)
    go false ih = ih

pub last_ended : (k found place at : ℕ) (rs : List ObjectRecord) → last_from k found place (ended_at rs at) ≡ last_from k found place rs
last_ended k found place at [] = refl
last_ended k found place zero (r ∷ rs) = refl
last_ended k found place (suc at) (r ∷ rs) = last_ended (suc k) (cond (is_owner_at place r.owner) (suc k) found) place at rs

last_taken : (k found place at n : ℕ) (rs : List ObjectRecord) → last_from k found place (take n (ended_at rs at)) ≡ last_from k found place (take n rs)
last_taken k found place at zero rs = refl
last_taken k found place at (suc n) [] = refl
last_taken k found place zero (suc n) (r ∷ rs) = refl
last_taken k found place (suc at) (suc n) (r ∷ rs) = last_taken (suc k) (cond (is_owner_at place r.owner) (suc k) found) place at n rs

link_taken : (rs : List ObjectRecord) (at n : ℕ) (w : KeptOwner) → link_by (take n (ended_at rs at)) w ≡ link_by (take n rs) w
link_taken rs at n Nobody = refl
link_taken rs at n (Unborn o) = refl
link_taken rs at n (At place) = last_taken 0 0 place at n rs

-- the record at a place had the same owner before an end
pub record WasRecord (rs : List ObjectRecord) (place : ℕ) (r : ObjectRecord) : Type 0 where
  pub old : ObjectRecord
  pub here : slice_get rs place ≡ Some old
  pub owner : old.owner ≡ r.owner

pub was_record : (rs : List ObjectRecord) (at place : ℕ) (r : ObjectRecord) → slice_get (ended_at rs at) place ≡ Some r → WasRecord rs place r
was_record [] at place r e = cc e
was_record (x ∷ rs) zero zero r e = record { old = x; here = refl; owner = ap (λ (y : ObjectRecord). y.owner) (same_Some (record x { lives = false }) r e) }
was_record (x ∷ rs) zero (suc place) r e = record { old = r; here = e; owner = refl }
was_record (x ∷ rs) (suc at) zero r e = record { old = r; here = e; owner = refl }
was_record (x ∷ rs) (suc at) (suc place) r e =
    let rest = was_record rs at place r e in record { old = rest.old; here = rest.here; owner = rest.owner }

pub ended_length : (rs : List ObjectRecord) (at : ℕ) → length (ended_at rs at) ≡ length rs
ended_length [] at = refl
ended_length (r ∷ rs) zero = refl
ended_length (r ∷ rs) (suc at) = ap suc (ended_length rs at)

-- links after an end: as before, but for the count
record WasCounted (links : List Links) (w : KeptOwner) (place : ℕ) (l : Links) : Type 0 where
  old : Links
  here : slice_get links place ≡ Some old
  last : l.last_owned ≡ old.last_owned
  children : l.children ≡ old.children - cond (is_owner_at place w) 1 0
  previous : l.previous ≡ old.previous

was_uncounted : (links : List Links) (w : KeptOwner) (place : ℕ) (l : Links) → is_owner_at place w ≡ false → slice_get links place ≡ Some l → WasCounted links w place l
was_uncounted links w place l not e = record {
  old = l;
  here = e;
  last = refl;
  children = (let none : l.children ≡ l.children - 0 = omega arith in none) ∙ ap (λ u. l.children - cond u 1 0) (sym not);
  previous = refl;
}

was_counted : (links : List Links) (w : KeptOwner) (place : ℕ) (l : Links) → slice_get (unlinked links w) place ≡ Some l → WasCounted links w place l
was_counted links Nobody place l e = was_uncounted links Nobody place l refl e
was_counted links (Unborn o) place l e = was_uncounted links (Unborn o) place l refl e
was_counted links (At owner) place l e = go links owner place e
  where
    go : (ls : List Links) (n p : ℕ) → slice_get (unlinked_at ls n) p ≡ Some l → WasCounted ls (At n) p l
    go [] n p f = cc f
    go (x ∷ ls) zero zero f =
        let is : record { last_owned = x.last_owned; previous = x.previous; children = x.children - 1 } ≡ l = same_Some _ l f in record {
          old = x;
          here = refl;
          last = ap (λ (y : Links). y.last_owned) (sym is);
          children = ap (λ (y : Links). y.children) (sym is) ∙ ap (λ u. x.children - cond u 1 0) (sym (self_same 0));
          previous = ap (λ (y : Links). y.previous) (sym is);
        }
    go (x ∷ ls) zero (suc p) f = was_uncounted (x ∷ ls) (At zero) (suc p) l (not_same 0 (suc p) (λ (g : 0 ≡ suc p). omega (arith, g))) f
    go (x ∷ ls) (suc n) zero f = was_uncounted (x ∷ ls) (At (suc n)) zero l (not_same (suc n) 0 (λ (g : suc n ≡ 0). omega (arith, g))) f
    go (x ∷ ls) (suc n) (suc p) f =
        let rest = go ls n p f in record {
          old = rest.old;
          here = rest.here;
          last = rest.last;
          children = rest.children ∙ ap (λ u. rest.old.children - cond u 1 0) (sym (suc_same n p));
          previous = rest.previous;
        }

-- as many links as before
pub unlinked_length : (links : List Links) (w : KeptOwner) → length (unlinked links w) ≡ length links
unlinked_length links Nobody = refl
unlinked_length links (Unborn o) = refl
unlinked_length links (At place) = go links place
  where
    go : (ls : List Links) (n : ℕ) → length (unlinked_at ls n) ≡ length ls
    go [] n = refl
    go (l ∷ ls) zero = refl
    go (l ∷ ls) (suc n) = ap suc (go ls n)

-- links after the end of what is a child
pub ended_child : (rs : List ObjectRecord) (links : List Links) (at : ℕ) (r : ObjectRecord) → AreLinked rs links → slice_get rs at ≡ Some r → r.lives ≡ true → r.is_created ≡ true → AreLinked (ended_at rs at) (unlinked links r.owner)
ended_child rs links at r are e lives created = record {
  count = omega (arith, unlinked_length links r.owner, are.count, ended_length rs at);
  each = λ place l f.
      let was = was_counted links r.owner place l f in
      let old = are.each place was.old was.here in
      let less : child_count (ended_at rs at) place + cond (is_owner_at place r.owner) 1 0 ≡ child_count rs place = ap (λ u. child_count (ended_at rs at) place + cond (u && is_owner_at place r.owner) 1 0) (sym created) ∙ count_less rs at place r e lives in
      record {
        last = was.last ∙ (old.last ∙ sym (last_ended 0 0 place at rs));
        children = omega (arith, was.children, old.children, less);
        previous = λ x g. let before = was_record rs at place x g in was.previous ∙ (old.previous before.old before.here ∙ (ap (λ w. link_by (take place rs) w) before.owner ∙ sym (link_taken rs at place x.owner)));
      };
}

-- links after the end of what isn't one
pub ended_other : (rs : List ObjectRecord) (links : List Links) (at : ℕ) (r : ObjectRecord) → AreLinked rs links → slice_get rs at ≡ Some r → r.lives ≡ true → r.is_created ≡ false → AreLinked (ended_at rs at) links
ended_other rs links at r are e lives retrieved = record {
  count = omega (arith, are.count, ended_length rs at);
  each = λ place l f.
      let old = are.each place l f in
      let less : child_count (ended_at rs at) place + 0 ≡ child_count rs place = ap (λ u. child_count (ended_at rs at) place + cond (u && is_owner_at place r.owner) 1 0) (sym retrieved) ∙ count_less rs at place r e lives in
      record {
        last = old.last ∙ sym (last_ended 0 0 place at rs);
        children = omega (arith, old.children, less);
        previous = λ x g. let before = was_record rs at place x g in old.previous before.old before.here ∙ (ap (λ w. link_by (take place rs) w) before.owner ∙ sym (link_taken rs at place x.owner));
      };
}

-- the same, for a record
pub ended_length_links : (links : List Links) (w : KeptOwner) (u : Bool) → length (cond u (unlinked links w) links) ≡ length links
ended_length_links links w true = unlinked_length links w
ended_length_links links w false = refl

-- ---- what the links say

at_place : {X : Type 0} (xs : List X) (n : ℕ) (d : X) → n < length xs → slice_get xs n ≡ Some (get_or xs n d)
at_place xs n d low = slice_get-get_or xs n d low

-- the count at a place
pub children_read : (rs : List ObjectRecord) (links : List Links) (place : ℕ) (d : Links) → AreLinked rs links → place < length rs → (get_or links place d).children ≡ child_count rs place
children_read rs links place d are low = (are.each place (get_or links place d) (at_place links place d (omega (arith, low, are.count)))).children

-- the link at a place
pub last_read : (rs : List ObjectRecord) (links : List Links) (place : ℕ) (d : Links) → AreLinked rs links → place < length rs → (get_or links place d).last_owned ≡ last_link rs place
last_read rs links place d are low = (are.each place (get_or links place d) (at_place links place d (omega (arith, low, are.count)))).last

-- the way on from a place
pub previous_read : (rs : List ObjectRecord) (links : List Links) (place : ℕ) (d : Links) → AreLinked rs links → place < length rs → IsPrevious rs place (get_or links place d).previous
previous_read rs links place d are low = (are.each place (get_or links place d) (at_place links place d (omega (arith, low, are.count)))).previous

filter_few : (q : ObjectRecord → Bool) (rs : List ObjectRecord) → length (filter q rs) ≤ length rs
filter_few q [] = omega arith
filter_few q (r ∷ rs) = go (q r) (filter_few q rs)
  where
    go : (u : Bool) → length (filter q rs) ≤ length rs → length (cond u (r ∷ filter q rs) (filter q rs)) ≤ suc (length rs)
    go true ih = omega (arith, ih)
    go false ih = omega (arith, ih)

-- no more children than records
pub few_children : (rs : List ObjectRecord) (links : List Links) → AreLinked rs links → AreFew links
few_children rs links are = λ place other low. omega (arith, children_read rs links place other are (omega (arith, low, are.count)), filter_few (is_child_of place) rs, are.count)

-- one that lives is counted
pub counted_child : (rs : List ObjectRecord) (links : List Links) (at : ℕ) (r : ObjectRecord) → AreLinked rs links → slice_get rs at ≡ Some r → r.lives ≡ true → r.is_created ≡ true → HasChild links r.owner
counted_child rs links at r are e lives created = λ place other is low.
    let less : child_count (ended_at rs at) place + cond (r.is_created && is_owner_at place r.owner) 1 0 ≡ child_count rs place = count_less rs at place r e lives in
    let one : ◌≡◌ {A = ℕ} (cond (r.is_created && is_owner_at place r.owner) 1 0) 1 = ap (λ u. cond (u && is_owner_at place r.owner) 1 0) created ∙ (ap (λ w. cond (is_owner_at place w) 1 0) is ∙ ap (λ u. cond u 1 0) (self_same place)) in
    omega (arith, less, one, children_read rs links place other are (omega (arith, low, are.count)))

-- ---- owners that weren't born

or_snoc : (a b : Bool) → (a || (b || false)) ≡ (a || b)
or_snoc true b = refl
or_snoc false true = refl
or_snoc false false = refl

-- one record more
pub strays_more : (rs : List ObjectRecord) (r : ObjectRecord) → has_strays_in (rs ++ r ∷ []) ≡ (has_strays_in rs || is_unborn r.owner)
strays_more rs r = list_any-append (λ (x : ObjectRecord). is_unborn x.owner) rs (r ∷ []) ∙ or_snoc (has_strays_in rs) (is_unborn r.owner)

-- an end changes none
pub strays_ended : (rs : List ObjectRecord) (at : ℕ) → has_strays_in (ended_at rs at) ≡ has_strays_in rs
strays_ended [] at = refl
strays_ended (r ∷ rs) zero = refl
strays_ended (r ∷ rs) (suc at) = ap (λ u. is_unborn r.owner || u) (strays_ended rs at)

-- links after an end
pub ended_linked : (rs : List ObjectRecord) (links : List Links) (at : ℕ) (r : ObjectRecord) → AreLinked rs links → slice_get rs at ≡ Some r → r.lives ≡ true → AreLinked (ended_at rs at) (cond r.is_created (unlinked links r.owner) links)
ended_linked rs links at r are e lives = go r.is_created refl
  where
    go : (u : Bool) → r.is_created ≡ u → AreLinked (ended_at rs at) (cond u (unlinked links r.owner) links)
    go true is = ended_child rs links at r are e lives is
    go false is = ended_other rs links at r are e lives is

-- the record at a place that lives
pub living_read : (rs : List ObjectRecord) (at : ℕ) (r : ObjectRecord) → r ≡ get_or rs at r → LivesAt rs at → (at < length rs) × (slice_get rs at ≡ Some r) × (r.lives ≡ true)
living_read [] at r is lives = cc lives
living_read (x ∷ rs) zero r is lives = (omega arith, ap (λ (y : ObjectRecord). Some y) (sym is), ap (λ (y : ObjectRecord). y.lives) is ∙ lives)
living_read (x ∷ rs) (suc at) r is lives = let rest = living_read rs at r is lives in (omega (arith, rest.0), rest.1, rest.2)

-- whatever stands in for a missing record
pub living_at : (rs : List ObjectRecord) (at : ℕ) (d : ObjectRecord) → LivesAt rs at → (at < length rs) × (slice_get rs at ≡ Some (get_or rs at d)) × ((get_or rs at d).lives ≡ true)
living_at [] at d lives = cc lives
living_at (x ∷ rs) zero d lives = (omega arith, refl, lives)
living_at (x ∷ rs) (suc at) d lives = let rest = living_at rs at d lives in (omega (arith, rest.0), rest.1, rest.2)

-- an owner stands before what it owns
pub owner_before : (k : ℕ) (rs : List ObjectRecord) (at : ℕ) (r : ObjectRecord) → AreOwnersBefore k rs → slice_get rs at ≡ Some r → before_owned r.owner ≤ k + length rs
owner_before k [] at r all e = cc e
owner_before k (x ∷ rs) zero r all e = omega (arith, all.0, ap (λ (y : ObjectRecord). before_owned y.owner) (same_Some x r e))
owner_before k (x ∷ rs) (suc at) r all e = omega (arith, owner_before (suc k) rs at r all.1 e)
