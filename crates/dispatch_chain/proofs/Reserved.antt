-- The room of parts, part by part.
use Rattle.std.proofs.Common.{◌≡◌, ◌<◌, ◌≤◌, ℕ, zero, suc, ◌+◌, List, [], ◌∷◌, length, map, get_or, sym, ap, subst, refl, ◌∙◌, arith}
use Rattle.std.specs.Prelude.{Some, slice_get, slice_set}
use Rattle.std.proofs.lemmas.List.{length-map, length-set}
use Rattle.std.proofs.lemmas.Option.{same_Some, slice_get-get_or}
use Rattle.layer_model.specs.Walks.{PartState}
use Rattle.dispatch_chain.specs.declared.part.Part.{Part}
use Rattle.dispatch_chain.specs.Room.{AllCanOpen, AllHaveBirths, CanOpen, KeepRooms, KeepsRoom, PartRoom, room_of}
use Rattle.dispatch_chain.specs.Seats.{seat_of, state_of}
use Rattle.dispatch_chain.proofs.Rows.{get_mapped}

pub low : {X : Type 0} (xs : List X) (i : ℕ) (x : X) → slice_get xs i ≡ Some x → i < length xs
low [] i x e = cc e
low (y ∷ xs) zero x e = omega arith
low (y ∷ xs) (suc i) x e = let l = low xs i x e in omega (arith, l)

-- a part that is written as it was seen before
set_same : {X : Type 0} (seen : Part → X) (ps : List Part) (i : ℕ) (q d : Part) → i < length ps → seen q ≡ seen (get_or ps i d) → map seen (slice_set ps i q) ≡ map seen ps
set_same seen [] i q d less same = absurd (omega (arith, less))
set_same seen (p ∷ ps) zero q d less same = ap (λ x. x ∷ map seen ps) same
set_same seen (p ∷ ps) (suc i) q d less same = ap (λ xs. seen p ∷ xs) (set_same seen ps i q d (omega (arith, less)) same)

pub states_set : (ps : List Part) (i : ℕ) (q d : Part) → i < length ps → state_of q ≡ state_of (get_or ps i d) → map state_of (slice_set ps i q) ≡ map state_of ps
states_set ps i q d less same = set_same state_of ps i q d less same

pub seats_set : (ps : List Part) (i : ℕ) (q d : Part) → i < length ps → seat_of q ≡ seat_of (get_or ps i d) → map seat_of (slice_set ps i q) ≡ map seat_of ps
seats_set ps i q d less same = set_same seat_of ps i q d less same

-- ---- no room is lost

room_self : (r : PartRoom) → KeepsRoom r r
room_self r = record { births = omega arith; uses = omega arith }

room_on : (q r s : PartRoom) → KeepsRoom q r → KeepsRoom r s → KeepsRoom q s
room_on q r s a b = record { births = omega (arith, a.births, b.births); uses = omega (arith, a.uses, b.uses) }

pub rooms_self : (rs : List PartRoom) → KeepRooms rs rs
rooms_self rs = record { count = refl; each = λ i q r a b. subst (λ (x : PartRoom). KeepsRoom q x) (same_Some q r (sym a ∙ b)) (room_self q) }

pub rooms_on : (ps qs rs : List PartRoom) → KeepRooms ps qs → KeepRooms qs rs → KeepRooms ps rs
rooms_on ps qs rs a b = record {
  count = b.count ∙ a.count;
  each = λ i p r here there.
      let less : i < length qs = omega (arith, low ps i p here, a.count) in
      let mid : slice_get qs i ≡ Some (get_or qs i p) = slice_get-get_or qs i p less in room_on p (get_or qs i p) r (a.each i p (get_or qs i p) here mid) (b.each i (get_or qs i p) r mid there);
}

set_each : (ps : List Part) (i : ℕ) (x d : Part) → KeepsRoom (room_of (get_or ps i d)) (room_of x) → (j : ℕ) (q r : PartRoom) → slice_get (map room_of ps) j ≡ Some q → slice_get (map room_of (slice_set ps i x)) j ≡ Some r → KeepsRoom q r
set_each [] i x d kept j q r a b = cc a
set_each (y ∷ ps) zero x d kept zero q r a b =
    subst (λ (z : PartRoom). KeepsRoom z r) (same_Some (room_of y) q a) (subst (λ (z : PartRoom). KeepsRoom (room_of y) z) (same_Some (room_of x) r b) kept)
set_each (y ∷ ps) zero x d kept (suc j) q r a b = subst (λ (z : PartRoom). KeepsRoom q z) (same_Some q r (sym a ∙ b)) (room_self q)
set_each (y ∷ ps) (suc i) x d kept zero q r a b = subst (λ (z : PartRoom). KeepsRoom q z) (same_Some q r (sym a ∙ b)) (room_self q)
set_each (y ∷ ps) (suc i) x d kept (suc j) q r a b = set_each ps i x d kept j q r a b

-- with one part that was written
pub rooms_set : (ps : List Part) (i : ℕ) (x d : Part) → (room_of (get_or ps i d)).births ≤ (room_of x).births → (room_of (get_or ps i d)).uses ≤ (room_of x).uses → KeepRooms (map room_of ps) (map room_of (slice_set ps i x))
rooms_set ps i x d births uses = record {
  count = omega (arith, length-map ps room_of, length-map (slice_set ps i x) room_of, length-set ps i x);
  each = set_each ps i x d (record { births = births; uses = uses });
}

-- ---- what a part is given

-- the first so many parts have room for so many births and open calls
pub record AreGiven (states : List PartState) (rooms : List PartRoom) (count n m : ℕ) : Type 0 where
  pub births : (j : ℕ) (r : PartRoom) → j < count → slice_get rooms j ≡ Some r → n ≤ r.births
  pub uses : (j : ℕ) (s : PartState) (r : PartRoom) → j < count → slice_get states j ≡ Some s → slice_get rooms j ≡ Some r → CanOpen m s r

pub none_given : (states : List PartState) (rooms : List PartRoom) (births uses : ℕ) → AreGiven states rooms 0 births uses
none_given states rooms births uses = record { births = λ j r less. absurd (omega (arith, less)); uses = λ j s r less. absurd (omega (arith, less)) }

births_more : (ps : List Part) (i births : ℕ) (x : Part) → ((j : ℕ) (r : PartRoom) → j < i → slice_get (map room_of ps) j ≡ Some r → births ≤ r.births) → births ≤ (room_of x).births
    → (j : ℕ) (r : PartRoom) → j < i + 1 → slice_get (map room_of (slice_set ps i x)) j ≡ Some r → births ≤ r.births
births_more [] i births x all has j r less e = cc e
births_more (y ∷ ps) zero births x all has zero r less e = subst (λ (z : PartRoom). births ≤ z.births) (same_Some (room_of x) r e) has
births_more (y ∷ ps) zero births x all has (suc j) r less e = absurd (omega (arith, less))
births_more (y ∷ ps) (suc i) births x all has zero r less e = all zero r (omega arith) e
births_more (y ∷ ps) (suc i) births x all has (suc j) r less e = births_more ps i births x (λ k s l. all (suc k) s (omega (arith, l))) has j r (omega (arith, less)) e

uses_more : (states : List PartState) (ps : List Part) (i uses : ℕ) (x : Part) → ((j : ℕ) (s : PartState) (r : PartRoom) → j < i → slice_get states j ≡ Some s → slice_get (map room_of ps) j ≡ Some r → CanOpen uses s r)
    → ((s : PartState) → slice_get states i ≡ Some s → CanOpen uses s (room_of x))
    → (j : ℕ) (s : PartState) (r : PartRoom) → j < i + 1 → slice_get states j ≡ Some s → slice_get (map room_of (slice_set ps i x)) j ≡ Some r → CanOpen uses s r
uses_more [] ps i uses x all has j s r less here e = cc here
uses_more (t ∷ states) [] i uses x all has j s r less here e = cc e
uses_more (t ∷ states) (y ∷ ps) zero uses x all has zero s r less here e = subst (CanOpen uses s) (same_Some (room_of x) r e) (has s here)
uses_more (t ∷ states) (y ∷ ps) zero uses x all has (suc j) s r less here e = absurd (omega (arith, less))
uses_more (t ∷ states) (y ∷ ps) (suc i) uses x all has zero s r less here e = all zero s r (omega arith) here e
uses_more (t ∷ states) (y ∷ ps) (suc i) uses x all has (suc j) s r less here e = uses_more states ps i uses x (λ k u v l. all (suc k) u v (omega (arith, l))) has j s r (omega (arith, less)) here e

-- one part more
pub given_more : (states : List PartState) (ps : List Part) (i births uses : ℕ) (x d : Part) → i < length ps → map state_of ps ≡ states → AreGiven states (map room_of ps) i births uses
    → births ≤ (room_of x).births → CanOpen uses (state_of (get_or ps i d)) (room_of x) → AreGiven states (map room_of (slice_set ps i x)) (i + 1) births uses
given_more states ps i births uses x d less are given b u =
    let there : slice_get states i ≡ Some (state_of (get_or ps i d)) = ap (λ xs. slice_get xs i) (sym are) ∙ get_mapped state_of ps i (get_or ps i d) (slice_get-get_or ps i d less) in
    record {
      births = births_more ps i births x given.births b;
      uses = uses_more states ps i uses x given.uses (λ s here. subst (λ (t : PartState). CanOpen uses t (room_of x)) (same_Some (state_of (get_or ps i d)) s (sym there ∙ here)) u);
    }

-- all of them
pub births_given : (states : List PartState) (ps : List Part) (i births uses : ℕ) → length ps ≤ i → AreGiven states (map room_of ps) i births uses → AllHaveBirths births (map room_of ps)
births_given states ps i births uses all given = λ j r here. given.births j r (omega (arith, low (map room_of ps) j r here, length-map ps room_of, all)) here

pub uses_given : (states : List PartState) (ps : List Part) (i births uses : ℕ) → length ps ≤ i → AreGiven states (map room_of ps) i births uses → AllCanOpen uses states (map room_of ps)
uses_given states ps i births uses all given = λ j s r here there. given.uses j s r (omega (arith, low (map room_of ps) j r there, length-map ps room_of, all)) here there
