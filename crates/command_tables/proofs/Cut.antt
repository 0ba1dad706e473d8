-- A list cut into pieces.
use Rattle.std.proofs.Common.{◌≡◌, ℕ, zero, suc, Bool, List, [], ◌∷◌, ◌++◌, length, map, refl, ap, arith, take, drop, ◌+◌, ◌-◌, ◌≤◌, ◌<◌, set, get_or, sum, ◌∙◌, sym, replicate}
use Rattle.std.proofs.lemmas.List.{take-append-le, drop-append-le, nil_from_length, drop-drop, take-set-le, drop-set-lt, drop-set-add, take_all, length-take, length-drop, length-append, get_or-take, get_or-drop}
use Rattle.std.proofs.lemmas.List.Sums.{sum_by-cons, sum_by-take-le, sum_by_push}
use Rattle.std.proofs.Math.Seq.{take-set-lt}
use Rattle.command_tables.specs.Handles.{cut, put, list_at, AreWhole, HasPlace, count_in}

-- the sum of a list with a first element
sum-cons : (n : ℕ) (ns : List ℕ) → sum (n ∷ ns) ≡ n + sum ns
sum-cons n ns = sum_by-cons (λ x. x) n ns

-- a part sums up to no more than the whole
pub sum_of_part : (ns : List ℕ) (p : ℕ) → sum (take p ns) ≤ sum ns
sum_of_part ns p = sum_by-take-le (λ x. x) ns p

-- there are as many pieces as lengths
pub length_cut : {A : Type 0} (ns : List ℕ) (xs : List A) → length (cut ns xs) ≡ length ns
length_cut [] xs = refl
length_cut (n ∷ ns) xs = ap suc (length_cut ns (drop n xs))

-- one more piece at the end
pub cut_append : {A : Type 0} (ns : List ℕ) (xs ys : List A) (n : ℕ) → sum ns ≡ length xs → length ys ≡ n
    → cut (ns ++ n ∷ []) (xs ++ ys) ≡ cut ns xs ++ ys ∷ []
cut_append [] xs ys n whole same =
    let z : length xs ≡ 0 = sym whole in
    let e : xs ≡ [] = nil_from_length xs z in
    let h : length ys ≤ n = omega arith in
    rw e (ap (λ zs. zs ∷ []) (take_all n ys h))
cut_append (m ∷ ns) xs ys n whole same =
    let s = sum-cons m ns in
    let h : m ≤ length xs = omega arith in
    let r : sum ns ≡ length (drop m xs) = omega (arith, length-drop m xs) in
    rw (take-append-le m xs ys h, drop-append-le m xs ys h) (ap (λ zs. take m xs ∷ zs) (cut_append ns (drop m xs) ys n r same))

-- one of the pieces
pub list_at_cut : {A : Type 0} (ns : List ℕ) (xs : List A) (p : ℕ) → p < length ns → list_at (cut ns xs) p ≡ take (get_or ns p 0) (drop (sum (take p ns)) xs)
list_at_cut [] xs p h = absurd (omega arith)
list_at_cut (n ∷ ns) xs zero h = refl
list_at_cut (n ∷ ns) xs (suc p) h =
    let l : p < length ns = omega arith in
    rw (sum-cons n (take p ns)) (list_at_cut ns (drop n xs) p l ∙ ap (take (get_or ns p 0)) (drop-drop (sum (take p ns)) n xs))

-- where a piece ends
pub end_of_piece : (ns : List ℕ) (p : ℕ) → p < length ns → sum (take p ns) + get_or ns p 0 ≤ sum ns
end_of_piece [] p h = absurd (omega arith)
end_of_piece (n ∷ ns) zero h = omega (arith, sum-cons n ns)
end_of_piece (n ∷ ns) (suc p) h =
    let l : p < length ns = omega arith in
    omega (arith, end_of_piece ns p l, sum-cons n ns, sum-cons n (take p ns))

-- a write to a place of one of the pieces
pub cut_set : {A : Type 0} (ns : List ℕ) (xs : List A) (p k : ℕ) (v : A) → p < length ns → k < get_or ns p 0
    → cut ns (set xs (sum (take p ns) + k) v) ≡ put (cut ns xs) p k v
cut_set [] xs p k v h l = absurd (omega arith)
cut_set (n ∷ ns) xs zero k v h l =
    let e : sum (take 0 (n ∷ ns)) + k ≡ k = omega arith in
    rw (e, take-set-lt n xs k v l, drop-set-lt n xs k v l) refl
cut_set (n ∷ ns) xs (suc p) k v h l =
    let m : p < length ns = omega arith in
    let e : sum (n ∷ take p ns) + k ≡ n + (sum (take p ns) + k) = omega (arith, sum-cons n (take p ns)) in
    let b : n ≤ n + (sum (take p ns) + k) = omega arith in
    rw (e, take-set-le n xs (n + (sum (take p ns) + k)) v b, drop-set-add n xs (sum (take p ns) + k) v) (ap (λ zs. take n xs ∷ zs) (cut_set ns (drop n xs) p k v m l))

-- the length of a piece of a whole list
pub length_of_piece : {A : Type 0} (ns : List ℕ) (xs : List A) (p : ℕ) → p < length ns → sum ns ≡ length xs → length (list_at (cut ns xs) p) ≡ get_or ns p 0
length_of_piece ns xs p h whole =
    rw (list_at_cut ns xs p h) (omega (arith, end_of_piece ns p h, length-take (get_or ns p 0) (drop (sum (take p ns)) xs), length-drop (sum (take p ns)) xs))

-- where a place of the pieces lies in the lengths
pub record IsPlace (ns : List ℕ) (p k : ℕ) : Type 0 where
  pub param : p < length ns
  pub place : k < get_or ns p 0

-- a place of the pieces is one in the lengths
place_in : (limit : ℕ) (ns xs : List ℕ) (ms : List Bool) (p k : ℕ) → AreWhole limit ns xs ms → HasPlace (cut ns xs) p k → IsPlace ns p k
place_in limit ns xs ms p k whole has =
    let l : p < length ns = omega (arith, has.param, length_cut ns xs) in
    record { param = l; place = omega (arith, has.place, length_of_piece ns xs p l whole.all) }

-- the same, of what the pieces are seen as
pub place_seen : (limit : ℕ) (ns xs : List ℕ) (ms : List Bool) (xss : List (List ℕ)) (p k : ℕ) → AreWhole limit ns xs ms → cut ns xs ≡ xss → HasPlace xss p k → IsPlace ns p k
place_seen limit ns xs ms xss p k whole seen has = place_in limit ns xs ms p k whole (rw seen has)

-- how many elements the pieces of a whole list have in all
count_in_cut : (ns xs : List ℕ) → sum ns ≡ length xs → count_in (cut ns xs) ≡ length xs
count_in_cut [] xs whole = whole
count_in_cut (n ∷ ns) xs whole =
    let s = sum-cons n ns in
    let r : sum ns ≡ length (drop n xs) = omega (arith, length-drop n xs) in
    omega (arith, sum_by-cons (λ (ys : List ℕ). length ys) (take n xs) (cut ns (drop n xs)), count_in_cut ns (drop n xs) r, length-take n xs, length-drop n xs)

-- how many parameters and handles there are, of what they are seen as
pub record Counts (ns xs : List ℕ) (xss : List (List ℕ)) : Type 0 where
  pub params : length xss ≡ length ns
  pub handles : count_in xss ≡ length xs

-- the pieces that are seen have as many lists and elements as the lengths say
pub counts_seen : (limit : ℕ) (ns xs : List ℕ) (ms : List Bool) (xss : List (List ℕ)) → AreWhole limit ns xs ms → cut ns xs ≡ xss → Counts ns xs xss
counts_seen limit ns xs ms xss whole seen = record {
  params = rw (← seen) (length_cut ns xs);
  handles = rw (← seen) (count_in_cut ns xs whole.all);
}

-- the whole, with one more parameter
pub whole_append : (limit : ℕ) (ns xs ys : List ℕ) (ms ws : List Bool) (n : ℕ) → AreWhole limit ns xs ms → length ns < limit → length ys ≡ n → length ws ≡ n → AreWhole limit (ns ++ n ∷ []) (xs ++ ys) (ms ++ ws)
whole_append limit ns xs ys ms ws n whole below same marks =
    let s : sum (ns ++ n ∷ []) ≡ sum ns + n = sum_by_push (λ x. x) ns n in
    record {
      few = omega (arith, length-append ns (n ∷ []), whole.few);
      all = omega (arith, length-append xs ys, whole.all);
      marked = omega (arith, length-append ms ws, whole.marked);
    }

-- what stands at a place of the pieces
pub at_place : {A : Type 0} (ns : List ℕ) (xs : List A) (p k : ℕ) (d : A) → IsPlace ns p k → get_or (list_at (cut ns xs) p) k d ≡ get_or xs (sum (take p ns) + k) d
at_place ns xs p k d at =
    rw (list_at_cut ns xs p at.param, get_or-take (get_or ns p 0) (drop (sum (take p ns)) xs) k d at.place) (get_or-drop (sum (take p ns)) xs k d)

-- a list that was filled up to a length
pub filled_up : {A : Type 0} (xs ys zs : List A) (x : A) (total before n : ℕ) → zs ≡ take total ys ++ replicate (total - before) x → ys ≡ xs → before ≡ length xs → total ≡ length xs + n
    → zs ≡ xs ++ replicate n x
filled_up xs ys zs x total before n filled same len e =
    let r : total - before ≡ n = omega arith in
    let l : length xs ≤ total = omega arith in
    filled ∙ rw (r, same, take_all total xs l) refl

-- the pieces have the lengths
lengths_cut : {A : Type 0} (ns : List ℕ) (xs : List A) → sum ns ≡ length xs → map (λ ys. length ys) (cut ns xs) ≡ ns
lengths_cut [] xs whole = refl
lengths_cut (n ∷ ns) xs whole =
    let s = sum-cons n ns in
    let r : sum ns ≡ length (drop n xs) = omega (arith, length-drop n xs) in
    let e : length (take n xs) ≡ n = omega (arith, length-take n xs) in
    rw (e, lengths_cut ns (drop n xs) r) refl

-- there is one mark beside each handle, of what they are seen as
pub marks_seen : (limit : ℕ) (ns xs : List ℕ) (ms : List Bool) (xss : List (List ℕ)) (mss : List (List Bool)) → AreWhole limit ns xs ms → cut ns xs ≡ xss → cut ns ms ≡ mss
    → map (λ ys. length ys) mss ≡ map (λ ys. length ys) xss
marks_seen limit ns xs ms xss mss whole seen marks =
    rw (← seen, ← marks) (lengths_cut ns ms whole.marked ∙ sym (lengths_cut ns xs whole.all))
