-- Room on a walk up.
use Rattle.std.proofs.Common.{◌≡◌, ◌<◌, ◌≤◌, ℕ, zero, suc, ◌+◌, ◌-◌, ◌⊎◌, inl, inr, Option, Some, None, List, [], ◌∷◌, length, map, get_or, slice_get, slice_set, true, false, if◌then◌else◌, sym, ap, subst, refl, ◌∙◌, arith}
use Rattle.std.proofs.lemmas.Option.{same_Some, slice_get-get_or}
use Rattle.command_tables.specs.declared.types.CommandId.{CommandId}
use Rattle.layer_model.specs.Walks.{intercepts}
use Rattle.object_model.specs.declared.PartKind.{PartKind}
use Rattle.dispatch_chain.specs.declared.entry.Entry.{Entry}
use Rattle.dispatch_chain.specs.declared.part.Part.{Part}
use Rattle.dispatch_chain.specs.Entries.{ArePlacesRising}
use Rattle.dispatch_chain.specs.Room.{AllHaveBirths, HasBirthsAt, KeepUses, PartRoom, room_of}
use Rattle.dispatch_chain.specs.Rows.{entries_from, entries_of}
use Rattle.dispatch_chain.proofs.Reserved.{low}

-- ---- at one part

-- all others stay
pub others_stay : (ps : List Part) (i : ℕ) (x : Part) (j : ℕ) → (j ≡ i → ⊥) → slice_get (map room_of (slice_set ps i x)) j ≡ slice_get (map room_of ps) j
others_stay [] i x j other = refl
others_stay (y ∷ ps) zero x zero other = absurd (other refl)
others_stay (y ∷ ps) zero x (suc j) other = refl
others_stay (y ∷ ps) (suc i) x zero other = refl
others_stay (y ∷ ps) (suc i) x (suc j) other = others_stay ps i x j (λ e. other (ap suc e))

pub births_left : (ps : List Part) (i : ℕ) (x d : Part) (n : ℕ) → (room_of (get_or ps i d)).births ≤ (room_of x).births + n
    → (q r : PartRoom) → slice_get (map room_of ps) i ≡ Some q → slice_get (map room_of (slice_set ps i x)) i ≡ Some r → q.births ≤ r.births + n
births_left [] i x d n less q r a b = cc a
births_left (y ∷ ps) zero x d n less q r a b = subst (λ (z : PartRoom). z.births ≤ r.births + n) (same_Some (room_of y) q a) (subst (λ (z : PartRoom). (room_of y).births ≤ z.births + n) (same_Some (room_of x) r b) less)
births_left (y ∷ ps) (suc i) x d n less q r a b = births_left ps i x d n less q r a b

pub uses_left : (ps : List Part) (i : ℕ) (x d : Part) → (room_of x).uses ≡ (room_of (get_or ps i d)).uses
    → (q r : PartRoom) → slice_get (map room_of ps) i ≡ Some q → slice_get (map room_of (slice_set ps i x)) i ≡ Some r → q.uses ≤ r.uses
uses_left [] i x d same q r a b = cc a
uses_left (y ∷ ps) zero x d same q r a b =
    let was = ap (λ (z : PartRoom). z.uses) (same_Some (room_of y) q a) in
    let is = ap (λ (z : PartRoom). z.uses) (same_Some (room_of x) r b) in omega (arith, was, is, same)
uses_left (y ∷ ps) (suc i) x d same q r a b = uses_left ps i x d same q r a b

pub births_here : (ps : List Part) (i : ℕ) (d : Part) (n : ℕ) → i < length ps → HasBirthsAt n (slice_get (map room_of ps) i) → n ≤ (room_of (get_or ps i d)).births
births_here [] i d n less h = absurd (omega (arith, less))
births_here (p ∷ ps) zero d n less h = h
births_here (p ∷ ps) (suc i) d n less h = births_here ps i d n (omega (arith, less)) h

-- ---- places that rise

above : (n : ℕ) (es : List Entry) (k : ℕ) (d : Entry) → ArePlacesRising n es → k < length es → n < (get_or es k d).place
above n [] k d h less = absurd (omega (arith, less))
above n (e ∷ es) zero d h less = h.0
above n (e ∷ es) (suc k) d h less = omega (arith, h.0, above e.place es k d h.1 (omega (arith, less)))

rise : (n : ℕ) (es : List Entry) (k i : ℕ) (d f : Entry) → ArePlacesRising n es → k < i → i < length es → (get_or es k d).place < (get_or es i f).place
rise n [] k i d f h before less = absurd (omega (arith, less))
rise n (e ∷ es) k zero d f h before less = absurd (omega (arith, before))
rise n (e ∷ es) zero (suc i) d f h before less = above e.place es i f h.1 (omega (arith, less))
rise n (e ∷ es) (suc k) (suc i) d f h before less = rise e.place es k i d f h.1 (omega (arith, before)) (omega (arith, less))

rising_from : (cmd : CommandId) (k n : ℕ) (ks : List PartKind) → n < k → ArePlacesRising n (entries_from cmd k ks)
rising_from cmd k n [] less = tt
rising_from cmd k n (q ∷ ks) less = elim (intercepts q cmd) as (λ b. ArePlacesRising n (if b then record { place = k; kind = q } ∷ entries_from cmd (k + 1) ks else entries_from cmd (k + 1) ks))
    [ true ↦ (less, rising_from cmd (k + 1) k ks (omega arith)) | false ↦ rising_from cmd (k + 1) n ks (omega (arith, less)) ]

-- those of a row do
pub row_rising : (cmd : CommandId) (ks : List PartKind) (es : List Entry) → es ≡ entries_of cmd ks → ArePlacesRising 0 es
row_rising cmd ks es he = subst (λ (xs : List Entry). ArePlacesRising 0 xs) (sym he) (rising_from cmd 1 0 ks (omega arith))

-- ---- on the way

same_or : (i j : ℕ) → (i ≡ j) ⊎ (i ≡ j → ⊥)
same_or zero zero = inl refl
same_or zero (suc j) = inr (λ e. absurd (omega (arith, e)))
same_or (suc i) zero = inr (λ e. absurd (omega (arith, e)))
same_or (suc i) (suc j) = elim (same_or i j) [ inl e ↦ inl (ap suc e) | inr f ↦ inr (λ e. f (omega (arith, e))) ]

-- the parts of the first so many entries have their room still, and each has lost room for so many births at most
pub record AreTaken (es : List Entry) (i n : ℕ) (old new : List PartRoom) : Type 0 where
  pub still : (k : ℕ) (d : Entry) → k < i → slice_get new ((get_or es k d).place - 1) ≡ slice_get old ((get_or es k d).place - 1)
  pub less : (j : ℕ) (q r : PartRoom) → slice_get old j ≡ Some q → slice_get new j ≡ Some r → q.births ≤ r.births + n
  pub uses : KeepUses old new

pub none_taken : (es : List Entry) (i n : ℕ) (rooms : List PartRoom) → AreTaken es i n rooms rooms
none_taken es i n rooms = record {
  still = λ k d before. refl;
  less = λ j q r a b. let same = ap (λ (x : PartRoom). x.births) (same_Some q r (sym a ∙ b)) in omega (arith, same);
  uses = record { count = refl; each = λ j q r a b. let same = ap (λ (x : PartRoom). x.uses) (same_Some q r (sym a ∙ b)) in omega (arith, same) };
}

-- one part further up
pub taken_more : (es : List Entry) (i n m : ℕ) (d : Entry) (old mid new : List PartRoom) → ArePlacesRising 0 es → 0 < i → i ≤ length es → m ≡ n → AreTaken es i n old mid → length new ≡ length mid
    → ((j : ℕ) → (j ≡ (get_or es (i - 1) d).place - 1 → ⊥) → slice_get new j ≡ slice_get mid j)
    → ((q r : PartRoom) → slice_get mid ((get_or es (i - 1) d).place - 1) ≡ Some q → slice_get new ((get_or es (i - 1) d).place - 1) ≡ Some r → q.births ≤ r.births + m)
    → ((q r : PartRoom) → slice_get mid ((get_or es (i - 1) d).place - 1) ≡ Some q → slice_get new ((get_or es (i - 1) d).place - 1) ≡ Some r → q.uses ≤ r.uses)
    → AreTaken es (i - 1) n old new
taken_more es i n m d old mid new rising some within size taken long others one uses = record {
  still = λ k f before.
      let lower : (get_or es k f).place < (get_or es (i - 1) d).place = rise 0 es k (i - 1) f d rising before (omega (arith, some, within)) in
      let first : 0 < (get_or es k f).place = above 0 es k f rising (omega (arith, before, within)) in
      others ((get_or es k f).place - 1) (λ e. absurd (omega (arith, e, lower, first))) ∙ taken.still k f (omega (arith, before));
  less = λ j q r a b. at j q r a b (same_or j ((get_or es (i - 1) d).place - 1));
  uses = record { count = long ∙ taken.uses.count; each = λ j q r a b. used j q r a b (same_or j ((get_or es (i - 1) d).place - 1)) };
}
  where
    at : (j : ℕ) (q r : PartRoom) → slice_get old j ≡ Some q → slice_get new j ≡ Some r → (j ≡ (get_or es (i - 1) d).place - 1) ⊎ (j ≡ (get_or es (i - 1) d).place - 1 → ⊥) → q.births ≤ r.births + n
    at j q r a b (inl e) =
        let was = taken.still (i - 1) d (omega (arith, some)) in
        let fewer = one q r (was ∙ (ap (slice_get old) (sym e) ∙ a)) (ap (slice_get new) (sym e) ∙ b) in omega (arith, fewer, size)
    at j q r a b (inr f) = taken.less j q r a (sym (others j f) ∙ b)

    used : (j : ℕ) (q r : PartRoom) → slice_get old j ≡ Some q → slice_get new j ≡ Some r → (j ≡ (get_or es (i - 1) d).place - 1) ⊎ (j ≡ (get_or es (i - 1) d).place - 1 → ⊥) → q.uses ≤ r.uses
    used j q r a b (inl e) =
        let was = taken.still (i - 1) d (omega (arith, some)) in
        uses q r (was ∙ (ap (slice_get old) (sym e) ∙ a)) (ap (slice_get new) (sym e) ∙ b)
    used j q r a b (inr f) = taken.uses.each j q r a (sym (others j f) ∙ b)

births_at : (n : ℕ) (rooms : List PartRoom) (i : ℕ) → AllHaveBirths n rooms → HasBirthsAt n (slice_get rooms i)
births_at n rooms i all = go (slice_get rooms i) refl
  where
    go : (o : Option PartRoom) → slice_get rooms i ≡ o → HasBirthsAt n o
    go None e = tt
    go (Some r) e = all i r e

-- the next part has room
pub births_next : (es : List Entry) (i n m : ℕ) (d : Entry) (old new : List PartRoom) → 0 < i → m ≡ n → AreTaken es i n old new → AllHaveBirths n old → HasBirthsAt m (slice_get new ((get_or es (i - 1) d).place - 1))
births_next es i n m d old new some size taken all =
    subst (λ (x : ℕ). HasBirthsAt x (slice_get new ((get_or es (i - 1) d).place - 1))) (sym size)
    (subst (HasBirthsAt n) (sym (taken.still (i - 1) d (omega (arith, some)))) (births_at n old ((get_or es (i - 1) d).place - 1) all))

-- what is left
pub births_after : (es : List Entry) (i n : ℕ) (old new : List PartRoom) → AreTaken es i n old new → (m : ℕ) → AllHaveBirths (m + n) old → AllHaveBirths m new
births_after es i n old new taken m all j r here =
    let within : j < length old = omega (arith, low new j r here, taken.uses.count) in
    let there : slice_get old j ≡ Some (get_or old j r) = slice_get-get_or old j r within in
    let had = all j (get_or old j r) there in
    let lost = taken.less j (get_or old j r) r there here in omega (arith, had, lost)
