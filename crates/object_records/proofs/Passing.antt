-- What walks pass over.
use Rattle.std.proofs.Common.{◌≡◌, ◌≤◌, ◌<◌, ◌⊎◌, ◌∙◌, ◌+◌, ℕ, zero, suc, cond, Bool, true, false, Option, Some, None, List, [], ◌∷◌, ◌++◌, length, get_or, take, refl, sym, ap, subst, arith, inl, inr, length-append}
use Rattle.std.specs.Prelude.{nat_lt, replicate, slice_get}
use Rattle.std.specs.Option.{option_map_or}
use Rattle.std.proofs.Math.ListN.{set}
use Rattle.std.proofs.lemmas.Bool.{ltb-true}
use Rattle.std.proofs.lemmas.List.{take_all}
use Rattle.std.proofs.lemmas.Option.{get_or_from_slice_get, same_Some}
use Rattle.object_records.specs.declared.kept_owner.KeptOwner.{KeptOwner}
use Rattle.object_records.specs.declared.kept_owner.KeptOwner.TheVariants.{Nobody, At, Unborn}
use Rattle.object_records.specs.declared.record.ObjectRecord.{ObjectRecord}
use Rattle.object_records.specs.Links.{IsPrevious, is_owner_at, last_link, link_by}
use Rattle.object_records.specs.Passed.{ArePassed, IsDeadAt, IsPassed, WasNoted, WasWidened, limited, limited_at, owner_above, reopened}
use Rattle.object_records.specs.Table.{ended_at}
use Rattle.object_records.proofs.Below.{past_last, take_get}
use Rattle.object_records.proofs.Owned.{past}
use Rattle.object_records.proofs.Walked.{is_at}
use Rattle.object_records.proofs.Linking.{ended_length, get_front, last_ended, last_snoc, not_same, suc_same, was_record}

-- ---- read and written

-- nothing is passed over
nothing_passed : (rs : List ObjectRecord) (place n : ℕ) → n ≡ 0 → IsPassed rs place n
nothing_passed rs place n is = record {
  within = omega (arith, is);
  dead = λ m x less e f. absurd (omega (arith, less, is));
  leaf = λ m x less e f. absurd (omega (arith, less, is));
}

pub passed_read : (rs : List ObjectRecord) (passed : List ℕ) (place : ℕ) → ArePassed rs passed → IsPassed rs place (get_or passed place 0)
passed_read rs passed place are = go (slice_get passed place) refl
  where
    missing : (ns : List ℕ) (p : ℕ) → slice_get ns p ≡ None → get_or ns p 0 ≡ 0
    missing [] p e = refl
    missing (n ∷ ns) zero e = cc e
    missing (n ∷ ns) (suc p) e = missing ns p e

    go : (x : Option ℕ) → slice_get passed place ≡ x → IsPassed rs place (get_or passed place 0)
    go None e = nothing_passed rs place (get_or passed place 0) (missing passed place e)
    go (Some n) e = subst (λ m. IsPassed rs place m) (sym (get_or_from_slice_get passed place n 0 e)) (are.each place n e)

-- a number written over another
pub written_limited : (passed : List ℕ) (place most x n : ℕ) → x ≡ get_or passed place x → n ≡ cond (nat_lt most x) most x → set passed place n ≡ limited_at passed place most
written_limited [] p most x n e least = refl
written_limited (y ∷ ns) zero most x n e least = ap (λ m. m ∷ ns) (least ∙ ap (λ m. cond (nat_lt most m) most m) e)
written_limited (y ∷ ns) (suc p) most x n e least = ap (λ ms. y ∷ ms) (written_limited ns p most x n e least)

-- nothing is noted there
pub none_limited : (passed : List ℕ) (place most : ℕ) → length passed ≤ place → passed ≡ limited_at passed place most
none_limited [] place most past = refl
none_limited (n ∷ ns) zero most past = absurd (omega (arith, past))
none_limited (n ∷ ns) (suc place) most past = ap (λ ms. n ∷ ms) (none_limited ns place most (omega (arith, past)))

-- ---- notes

pub none_noted : (passed : List ℕ) (place before : ℕ) → WasNoted passed passed place before
none_noted passed place before = λ at n e. inl e

pub one_noted : (passed : List ℕ) (place before : ℕ) → WasNoted passed (set passed place before) place before
one_noted [] place before = λ at n e. inl e
one_noted (x ∷ ns) zero before = first
  where
    first : WasNoted (x ∷ ns) (before ∷ ns) 0 before
    first zero n e = inr (refl, sym (same_Some before n e))
    first (suc at) n e = inl e
one_noted (x ∷ ns) (suc place) before = further (one_noted ns place before)
  where
    later : (at n : ℕ) → (slice_get ns at ≡ Some n) ⊎ ((at ≡ place) × (n ≡ before)) → (slice_get ns at ≡ Some n) ⊎ ((suc at ≡ suc place) × (n ≡ before))
    later at n (inl e) = inl e
    later at n (inr both) = inr (ap suc both.0, both.1)

    further : WasNoted ns (set ns place before) place before → WasNoted (x ∷ ns) (x ∷ set ns place before) (suc place) before
    further rest zero n e = inl e
    further rest (suc at) n e = later at n (rest at n e)

pub noted_passed : (rs : List ObjectRecord) (passed next : List ℕ) (place before : ℕ) → ArePassed rs passed → IsPassed rs place before → WasNoted passed next place before → ArePassed rs next
noted_passed rs passed next place before are passes noted = record { each = λ at n e. go at n (noted at n e) }
  where
    go : (at n : ℕ) → (slice_get passed at ≡ Some n) ⊎ ((at ≡ place) × (n ≡ before)) → IsPassed rs at n
    go at n (inl e) = are.each at n e
    go at n (inr both) = subst (λ p. IsPassed rs p n) (sym both.0) (subst (λ m. IsPassed rs place m) (sym both.1) passes)

-- ---- room for notes

pub none_widened : (passed : List ℕ) → WasWidened passed passed
none_widened passed = λ place n e. inl e

zeros_only : (k : ℕ) (place n : ℕ) → slice_get (replicate k 0) place ≡ Some n → n ≡ 0
zeros_only zero place n e = cc e
zeros_only (suc k) zero n e = sym (same_Some 0 n e)
zeros_only (suc k) (suc place) n e = zeros_only k place n e

with_zeros : (passed : List ℕ) (k : ℕ) → WasWidened passed (passed ++ replicate k 0)
with_zeros [] k = λ place n e. inr (zeros_only k place n e)
with_zeros (x ∷ ns) k = further (with_zeros ns k)
  where
    further : WasWidened ns (ns ++ replicate k 0) → WasWidened (x ∷ ns) (x ∷ (ns ++ replicate k 0))
    further rest zero n e = inl e
    further rest (suc place) n e = rest place n e

-- the list is as it was, or filled up
pub zeros_widened : (passed next : List ℕ) (u : Bool) (most k : ℕ) → length passed ≤ most → next ≡ cond u (take most passed ++ replicate k 0) passed → WasWidened passed next
zeros_widened passed next true most k long is = subst (λ ns. WasWidened passed ns) (sym (is ∙ ap (λ ns. ns ++ replicate k 0) (take_all most passed long))) (with_zeros passed k)
zeros_widened passed next false most k long is = subst (λ ns. WasWidened passed ns) (sym is) (none_widened passed)

-- the owner's own owner is limited
pub reopen_limits : (rs : List ObjectRecord) (passed : List ℕ) (w above : KeptOwner) (place : ℕ) → w ≡ At place → above ≡ owner_above rs w → limited passed above place ≡ reopened rs passed w
reopen_limits rs passed w above place is up = ap (λ (v : KeptOwner). limited passed v place) (up ∙ ap (owner_above rs) is) ∙ (go (slice_get rs place) ∙ ap (reopened rs passed) (sym is))
  where
    go : (x : Option ObjectRecord) → limited passed (option_map_or (λ (r : ObjectRecord). r.owner) x Nobody) place ≡ option_map_or (λ (r : ObjectRecord). limited passed r.owner place) x passed
    go None = refl
    go (Some r) = refl

-- ---- a further record

-- what is passed over at a place after it was limited at an owner's
record WasLimited (passed : List ℕ) (w : KeptOwner) (most place n : ℕ) : Type 0 where
  old : ℕ
  here : slice_get passed place ≡ Some old
  less : n ≤ old
  most_is : is_owner_at place w ≡ true → n ≤ most

limited_none : (passed : List ℕ) (w : KeptOwner) (most place n : ℕ) → is_owner_at place w ≡ false → slice_get passed place ≡ Some n → WasLimited passed w most place n
limited_none passed w most place n not e = record { old = n; here = e; less = omega arith; most_is = λ is. cc (sym is ∙ not) }

was_limited : (passed : List ℕ) (w : KeptOwner) (most place n : ℕ) → slice_get (limited passed w most) place ≡ Some n → WasLimited passed w most place n
was_limited passed Nobody most place n e = limited_none passed Nobody most place n refl e
was_limited passed (Unborn o) most place n e = limited_none passed (Unborn o) most place n refl e
was_limited passed (At owner) most place n e = go passed owner place e
  where
    least : (x : ℕ) (u : Bool) → nat_lt most x ≡ u → (cond u most x ≤ x) × (cond u most x ≤ most)
    least x true lt = (omega (arith, ltb-true most x lt), omega arith)
    least x false lt = let low : x ≤ most = grind (arith, lt) in (omega arith, low)

    go : (ns : List ℕ) (q p : ℕ) → slice_get (limited_at ns q most) p ≡ Some n → WasLimited ns (At q) most p n
    go [] q p f = cc f
    go (x ∷ ns) zero zero f =
        let is : cond (nat_lt most x) most x ≡ n = same_Some (cond (nat_lt most x) most x) n f in
        let both = least x (nat_lt most x) refl in record { old = x; here = refl; less = omega (arith, both.0, is); most_is = λ g. omega (arith, both.1, is) }
    go (x ∷ ns) zero (suc p) f = limited_none (x ∷ ns) (At zero) most (suc p) n (not_same 0 (suc p) (λ (g : 0 ≡ suc p). omega (arith, g))) f
    go (x ∷ ns) (suc q) zero f = limited_none (x ∷ ns) (At (suc q)) most zero n (not_same (suc q) 0 (λ (g : suc q ≡ 0). omega (arith, g))) f
    go (x ∷ ns) (suc q) (suc p) f =
        let rest = go ns q p f in record { old = rest.old; here = rest.here; less = rest.less; most_is = λ g. rest.most_is (sym (suc_same q p) ∙ g) }

-- what is passed over at a place after an owner was reopened
record WasReopened (rs : List ObjectRecord) (passed : List ℕ) (w : KeptOwner) (place n : ℕ) : Type 0 where
  old : ℕ
  here : slice_get passed place ≡ Some old
  less : n ≤ old
  most_is : (q : ℕ) (r : ObjectRecord) → w ≡ At q → slice_get rs q ≡ Some r → is_owner_at place r.owner ≡ true → n ≤ q

was_reopened : (rs : List ObjectRecord) (passed : List ℕ) (w : KeptOwner) (place n : ℕ) → slice_get (reopened rs passed w) place ≡ Some n → WasReopened rs passed w place n
was_reopened rs passed Nobody place n e = record { old = n; here = e; less = omega arith; most_is = λ q r is f g. cc is }
was_reopened rs passed (Unborn o) place n e = record { old = n; here = e; less = omega arith; most_is = λ q r is f g. cc is }
was_reopened rs passed (At at) place n e = go (slice_get rs at) refl e
  where
    go : (x : Option ObjectRecord) → slice_get rs at ≡ x → slice_get (option_map_or (λ (r : ObjectRecord). limited passed r.owner at) x passed) place ≡ Some n → WasReopened rs passed (At at) place n
    go None f g = record {
      old = n;
      here = g;
      less = omega arith;
      most_is = λ q r is h i. let same_place : at ≡ q = ap before_at is in cc (sym f ∙ (ap (λ m. slice_get rs m) same_place ∙ h));
    }
      where
        before_at : KeptOwner → ℕ
        before_at (At m) = m
        before_at Nobody = 0
        before_at (Unborn o) = 0
    go (Some x) f g = let was = was_limited passed x.owner at place n g in record {
      old = was.old;
      here = was.here;
      less = was.less;
      most_is = λ q r is h i.
          let same_place : at ≡ q = ap before_at is in
          let same : x ≡ r = same_Some x r (sym f ∙ (ap (λ m. slice_get rs m) same_place ∙ h)) in
          omega (arith, same_place, was.most_is (ap (λ (y : ObjectRecord). is_owner_at place y.owner) same ∙ i));
    }
      where
        before_at : KeptOwner → ℕ
        before_at (At m) = m
        before_at Nobody = 0
        before_at (Unborn o) = 0

-- a further record is passed over nowhere
pub added_passed : (rs : List ObjectRecord) (passed next : List ℕ) (r : ObjectRecord) → ArePassed rs passed → WasWidened (reopened rs passed r.owner) next → ArePassed (rs ++ r ∷ []) next
added_passed rs passed next r are widened = record { each = λ place n e. split place n (widened place n e) }
  where
    more : length (rs ++ r ∷ []) ≡ length rs + 1
    more = length-append rs (r ∷ [])

    before : (place n : ℕ) → WasReopened rs passed r.owner place n → IsPassed (rs ++ r ∷ []) place n
    before place n was =
        let old = are.each place was.old was.here in record {
          within = omega (arith, was.less, old.within, more);
          dead = λ m x less e is. let front = get_front rs r m (omega (arith, less, was.less, old.within)) in old.dead m x (omega (arith, less, was.less)) (sym front ∙ e) is;
          leaf = λ m x less e is.
              let here : slice_get rs m ≡ Some x = sym (get_front rs r m (omega (arith, less, was.less, old.within))) ∙ e in
              last_snoc 0 0 m rs r ∙ other m x less here is (is_owner_at m r.owner) refl (old.leaf m x (omega (arith, less, was.less)) here is);
        }
      where
        other : (m : ℕ) (x : ObjectRecord) → m < n → slice_get rs m ≡ Some x → is_owner_at place x.owner ≡ true → (u : Bool) → is_owner_at m r.owner ≡ u → last_link rs m ≡ 0 → cond u (suc (0 + length rs)) (last_link rs m) ≡ 0
        other m x less e is true here none = absurd (omega (arith, less, was.most_is m x (is_at m r.owner here) e is))
        other m x less e is false here none = none

    split : (place n : ℕ) → (slice_get (reopened rs passed r.owner) place ≡ Some n) ⊎ (n ≡ 0) → IsPassed (rs ++ r ∷ []) place n
    split place n (inl here) = before place n (was_reopened rs passed r.owner place n here)
    split place n (inr none) = nothing_passed (rs ++ r ∷ []) place n none

-- ---- an end

still_dead : (rs : List ObjectRecord) (at n : ℕ) (r : ObjectRecord) → slice_get (ended_at rs at) n ≡ Some r → ((x : ObjectRecord) → slice_get rs n ≡ Some x → x.owner ≡ r.owner → x.lives ≡ false) → r.lives ≡ false
still_dead [] at n r e h = cc e
still_dead (x ∷ rs) zero zero r e h = sym (ap (λ (y : ObjectRecord). y.lives) (same_Some (record x { lives = false }) r e))
still_dead (x ∷ rs) zero (suc n) r e h = h r e refl
still_dead (x ∷ rs) (suc at) zero r e h = h r e refl
still_dead (x ∷ rs) (suc at) (suc n) r e h = still_dead rs at n r e h

-- an end opens nothing
pub ended_passed : (rs : List ObjectRecord) (passed : List ℕ) (at : ℕ) → ArePassed rs passed → ArePassed (ended_at rs at) passed
ended_passed rs passed at are = record {
  each = λ place n e. let old = are.each place n e in record {
    within = omega (arith, old.within, ended_length rs at);
    dead = λ m r less f is. still_dead rs at m r f (λ x g same. old.dead m x less g (ap (λ w. is_owner_at place w) same ∙ is));
    leaf = λ m r less f is. let was = was_record rs at m r f in last_ended 0 0 m at rs ∙ old.leaf m was.old less was.here (ap (λ w. is_owner_at place w) was.owner ∙ is);
  };
}

-- ---- a front of what is owned

-- a dead record that owns nothing can be passed over, where all before it that has its owner is
pub front_passed : (rs : List ObjectRecord) (above place link before : ℕ) → place < length rs → IsPassed rs above before → IsPrevious rs place link → link ≤ before → IsDeadAt rs place above → last_link rs place ≡ 0 → IsPassed rs above (place + 1)
front_passed rs above place link before low old previous under dead leaf = go (slice_get rs place) refl
  where
    go : (x : Option ObjectRecord) → slice_get rs place ≡ x → IsPassed rs above (place + 1)
    go None e = absurd (past rs place low e)
    go (Some r) here = record { within = omega (arith, low); dead = λ n x less e is. (each n x less e is).0; leaf = λ n x less e is. (each n x less e is).1 }
      where
        last : link ≡ last_link (take place rs) above
        last = previous r here ∙ ap (λ (w : KeptOwner). link_by (take place rs) w) (dead r here).0

        each : (n : ℕ) (x : ObjectRecord) → n < place + 1 → slice_get rs n ≡ Some x → is_owner_at above x.owner ≡ true → (x.lives ≡ false) × (last_link rs n ≡ 0)
        each n x less e is = first (nat_lt n before) refl
          where
            second : (u : Bool) → before ≤ n → nat_lt n place ≡ u → (x.lives ≡ false) × (last_link rs n ≡ 0)
            second true high lt =
                let front : n < place = ltb-true n place lt in
                let none : is_owner_at above x.owner ≡ false = past_last (take place rs) above n x (omega (arith, last, under, high)) (take_get rs place n x front e) in
                cc (sym is ∙ none)
            second false high lt =
                let least : place ≤ n = grind (arith, lt) in
                let at : n ≡ place = omega (arith, least, less) in
                let same : r ≡ x = same_Some r x (sym here ∙ (ap (λ m. slice_get rs m) (sym at) ∙ e)) in
                (ap (λ (y : ObjectRecord). y.lives) (sym same) ∙ (dead r here).1, ap (λ m. last_link rs m) at ∙ leaf)

            first : (u : Bool) → nat_lt n before ≡ u → (x.lives ≡ false) × (last_link rs n ≡ 0)
            first true lt = let low_there : n < before = ltb-true n before lt in (old.dead n x low_there e is, old.leaf n x low_there e is)
            first false lt = let high : before ≤ n = grind (arith, lt) in second (nat_lt n place) high refl
