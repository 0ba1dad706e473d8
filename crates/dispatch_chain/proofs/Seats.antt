-- Where parts stand.
use Rattle.std.proofs.Common.{◌≡◌, ◌<◌, ◌+◌, ℕ, zero, suc, List, [], ◌∷◌, length, map, get_or, slice_set, ap, sym, refl, ◌∙◌, arith}
use Rattle.object_model.specs.declared.PartKind.{PartKind}
use Rattle.object_model.specs.declared.PartKind.TheVariants as kind
use Rattle.layer_model.specs.Walks.{kind_of, new_part}
use Rattle.dispatch_chain.specs.Seats.{kinds_of, seat_at, seat_of, seats_from, state_of}
use Rattle.dispatch_chain.specs.declared.part.Part.{Part}
use Rattle.dispatch_chain.specs.declared.part.Part.TheVariants.{Threads, Lifetimes, Unique}

kind_seen : (p : Part) → kind_of (state_of p) ≡ (seat_of p).kind
kind_seen (Threads s) = refl
kind_seen (Lifetimes s) = refl
kind_seen (Unique m) = refl

-- the kinds are those of the seats
pub kinds_seen : (ps : List Part) → kinds_of (map state_of ps) ≡ map (λ s. s.kind) (map seat_of ps)
kinds_seen [] = refl
kinds_seen (p ∷ ps) = ap (λ k. k ∷ kinds_of (map state_of ps)) (kind_seen p) ∙ ap (λ ks. (seat_of p).kind ∷ ks) (kinds_seen ps)

-- where the seats stay, so do the kinds
pub kinds_stay : (ps qs : List Part) → map seat_of qs ≡ map seat_of ps → kinds_of (map state_of qs) ≡ kinds_of (map state_of ps)
kinds_stay ps qs e = kinds_seen qs ∙ ap (map (λ s. s.kind)) e ∙ sym (kinds_seen ps)

-- and they stand as they stood
pub seats_stay : (ps qs : List Part) → map seat_of ps ≡ seats_from 1 (kinds_of (map state_of ps)) → map seat_of qs ≡ map seat_of ps → map seat_of qs ≡ seats_from 1 (kinds_of (map state_of qs))
seats_stay ps qs h e = e ∙ h ∙ ap (seats_from 1) (sym (kinds_stay ps qs e))

first_of : {X : Type 0} (x y : X) (xs ys : List X) → x ∷ xs ≡ y ∷ ys → x ≡ y
first_of x y xs ys e = cc e

rest_of : {X : Type 0} (x y : X) (xs ys : List X) → x ∷ xs ≡ y ∷ ys → xs ≡ ys
rest_of x y xs ys e = cc e

-- the seat of the part at a place
pub seat_there : (ps : List Part) (k i j : ℕ) (d : Part) → map seat_of ps ≡ seats_from k (kinds_of (map state_of ps)) → i < length ps → j ≡ k + i → seat_of (get_or ps i d) ≡ seat_at j (seat_of (get_or ps i d)).kind
seat_there [] k i j d e h n = absurd (omega arith)
seat_there (q ∷ ps) k zero j d e h n = first_of _ _ _ _ e ∙ ap (seat_at k) (kind_seen q) ∙ ap (λ x. seat_at x (seat_of q).kind) (omega arith)
seat_there (q ∷ ps) k (suc i) j d e h n = seat_there ps (k + 1) i j d (rest_of _ _ _ _ e) (omega arith) (omega arith)

-- a part that keeps its seat leaves all seats
pub seat_set : (ps : List Part) (i : ℕ) (p d : Part) → i < length ps → seat_of p ≡ seat_of (get_or ps i d) → map seat_of (slice_set ps i p) ≡ map seat_of ps
seat_set [] i p d h e = refl
seat_set (q ∷ ps) zero p d h e = ap (λ s. s ∷ map seat_of ps) e
seat_set (q ∷ ps) (suc i) p d h e = ap (λ ss. seat_of q ∷ ss) (seat_set ps i p d (omega arith) e)

-- new parts are of the kinds that they were made for
pub kinds_new : (ks : List PartKind) → kinds_of (map new_part ks) ≡ ks
kinds_new [] = refl
kinds_new (kind.Threads ∷ ks) = ap (λ xs. kind.Threads ∷ xs) (kinds_new ks)
kinds_new (kind.Lifetimes ∷ ks) = ap (λ xs. kind.Lifetimes ∷ xs) (kinds_new ks)
kinds_new (kind.Unique ∷ ks) = ap (λ xs. kind.Unique ∷ xs) (kinds_new ks)
