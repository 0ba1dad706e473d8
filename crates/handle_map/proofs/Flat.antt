-- Parts of the flat list of values.
use Rattle.std.proofs.Common.{◌≡◌, ◌≤◌, ◌<◌, ◌⊎◌, ◌+◌, ◌∙◌, ℕ, zero, suc, List, [], ◌∷◌, ◌++◌, length, get_or, take, drop, refl, ap, sym, arith, inl, inr, add-one, drop-cons, get_or-set_same, get_or-set_other}
use Rattle.std.proofs.Math.ListN.{set, length-set}
use Rattle.handle_map.specs.Spans.{written}

pub length-written : (flat : List ℕ) (start : ℕ) (vs : List ℕ) → length (written flat start vs) ≡ length flat
length-written flat start [] = refl
length-written flat start (v ∷ vs) = length-written (set flat start v) (suc start) vs ∙ length-set flat start v

-- one value more
pub write_more : (flat vs total : List ℕ) (start k : ℕ) → k < length vs → written flat (start + k) (drop k vs) ≡ total → written (set flat (start + k) (get_or vs k 0)) (start + (k + 1)) (drop (k + 1) vs) ≡ total
write_more flat vs total start k within so_far =
    ap (λ n. written (set flat (start + k) (get_or vs k 0)) n (drop (k + 1) vs)) (omega arith)
    ∙ (ap (λ n. written (set flat (start + k) (get_or vs k 0)) (suc (start + k)) (drop n vs)) (add-one k) ∙ (ap (written flat (start + k)) (sym (drop-cons vs k 0 within)) ∙ so_far))

-- what stands before is as it was
before : (flat vs : List ℕ) (start k : ℕ) → k < start → get_or (written flat start vs) k 0 ≡ get_or flat k 0
before flat [] start k below = refl
before flat (v ∷ vs) start k below = before (set flat start v) vs (suc start) k (omega (arith, below)) ∙ get_or-set_other flat start k v 0 (λ (is : k ≡ start). absurd (omega (arith, is, below)))

pub written_own : (flat vs : List ℕ) (start : ℕ) → start + length vs ≤ length flat → take (length vs) (drop start (written flat start vs)) ≡ vs
written_own flat [] start within = refl
written_own flat (v ∷ vs) start within =
    let long : length (written (set flat start v) (suc start) vs) ≡ length flat = length-written (set flat start v) (suc start) vs ∙ length-set flat start v in
    let first : get_or (written (set flat start v) (suc start) vs) start 0 ≡ v = before (set flat start v) vs (suc start) start (omega arith) ∙ get_or-set_same flat start v 0 (omega (arith, within)) in
    ap (take (suc (length vs))) (drop-cons (written (set flat start v) (suc start) vs) start 0 (omega (arith, within, long)))
    ∙ (ap (λ x. x ∷ take (length vs) (drop (suc start) (written (set flat start v) (suc start) vs))) first ∙ ap (λ xs. v ∷ xs) (written_own (set flat start v) vs (suc start) (omega (arith, within, length-set flat start v))))

-- a place outside of a part
outside : (flat : List ℕ) (o l i v : ℕ) → (o + l ≤ i) ⊎ (i < o) → take l (drop o (set flat i v)) ≡ take l (drop o flat)
outside [] o l i v apart = refl
outside (x ∷ xs) (suc o) l (suc i) v (inl past) = outside xs o l i v (inl (omega (arith, past)))
outside (x ∷ xs) (suc o) l (suc i) v (inr below) = outside xs o l i v (inr (omega (arith, below)))
outside (x ∷ xs) (suc o) l zero v (inl past) = absurd (omega (arith, past))
outside (x ∷ xs) (suc o) l zero v (inr below) = refl
outside (x ∷ xs) zero l i v (inr below) = absurd (omega (arith, below))
outside (x ∷ xs) zero l i v (inl past) = front (x ∷ xs) l i (omega (arith, past))
  where
    front : (ys : List ℕ) (l i : ℕ) → l ≤ i → take l (set ys i v) ≡ take l ys
    front [] l i past = refl
    front (y ∷ ys) zero i past = refl
    front (y ∷ ys) (suc l) zero past = absurd (omega (arith, past))
    front (y ∷ ys) (suc l) (suc i) past = ap (λ zs. y ∷ zs) (front ys l i (omega (arith, past)))

pub written_other : (flat vs : List ℕ) (start o l : ℕ) → (o + l ≤ start) ⊎ (start + length vs ≤ o) → take l (drop o (written flat start vs)) ≡ take l (drop o flat)
written_other flat [] start o l apart = refl
written_other flat (v ∷ vs) start o l (inl past) = written_other (set flat start v) vs (suc start) o l (inl (omega (arith, past))) ∙ outside flat o l start v (inl past)
written_other flat (v ∷ vs) start o l (inr below) = written_other (set flat start v) vs (suc start) o l (inr (omega (arith, below))) ∙ outside flat o l start v (inr (omega (arith, below)))

-- values behind the others
pub kept_before : (flat vs : List ℕ) (o l : ℕ) → o + l ≤ length flat → take l (drop o (flat ++ vs)) ≡ take l (drop o flat)
kept_before [] vs zero zero within = refl
kept_before [] vs zero (suc l) within = absurd (omega (arith, within))
kept_before [] vs (suc o) l within = absurd (omega (arith, within))
kept_before (x ∷ xs) vs zero zero within = refl
kept_before (x ∷ xs) vs zero (suc l) within = ap (λ ys. x ∷ ys) (kept_before xs vs zero l (omega (arith, within)))
kept_before (x ∷ xs) vs (suc o) l within = kept_before xs vs o l (omega (arith, within))

pub added_own : (flat vs : List ℕ) → take (length vs) (drop (length flat) (flat ++ vs)) ≡ vs
added_own [] [] = refl
added_own [] (v ∷ vs) = ap (λ xs. v ∷ xs) (added_own [] vs)
added_own (x ∷ xs) vs = added_own xs vs
