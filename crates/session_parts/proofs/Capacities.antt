-- How room is kept in lists of lists.
use Rattle.std.proofs.Common.{◌≡◌, ◌∙◌, ◌≤◌, ◌<◌, ◌+◌, ℕ, zero, suc, Some, List, [], ◌∷◌, ◌++◌, length, map, set, get_or, slice_get, refl, ap, sym, take, add-one, arith}
use Rattle.trace_format.specs.Content.{arg_content}
use Rattle.trace_format.specs.declared.event.TraceArg.{TraceArg}
use Rattle.session_parts.specs.Scratch.{AreWithin, FitLists, KeepLists, KeepsScratch, ScratchRoom}

-- ---- no list has less room than before

pub keeps_same : (ns : List ℕ) → KeepLists ns ns
keeps_same [] = tt
keeps_same (n ∷ ns) = (omega arith, keeps_same ns)

pub keeps_all : (s : ScratchRoom) → KeepsScratch s s
keeps_all s = record { lists = keeps_same s.lists; handles = omega arith; results = omega arith }

pub keeps_then : (ns ms ks : List ℕ) → KeepLists ns ms → KeepLists ms ks → KeepLists ns ks
keeps_then [] ms ks a b = tt
keeps_then (n ∷ ns) [] ks a b = absurd a
keeps_then (n ∷ ns) (m ∷ ms) [] a b = absurd b
keeps_then (n ∷ ns) (m ∷ ms) (k ∷ ks) a b = (omega (arith, a.0, b.0), keeps_then ns ms ks a.1 b.1)

-- one list more takes none of the room
pub keeps_behind : {X : Type 0} (f : X → ℕ) (ns : List ℕ) (xs : List X) (x : X) → KeepLists ns (map f xs) → KeepLists ns (map f (xs ++ x ∷ []))
keeps_behind f [] xs x h = tt
keeps_behind f (n ∷ ns) [] x h = absurd h
keeps_behind f (n ∷ ns) (y ∷ xs) x h = (h.0, keeps_behind f ns xs x h.1)

-- one of the lists was filled or widened
pub keeps_put : {X : Type 0} (f : X → ℕ) (ns : List ℕ) (xs : List X) (k : ℕ) (old new : X) → KeepLists ns (map f xs) → k < length xs → old ≡ get_or xs k old → f old ≤ f new → KeepLists ns (map f (set xs k new))
keeps_put f [] xs k old new h within is more = tt
keeps_put f (n ∷ ns) [] k old new h within is more = absurd h
keeps_put f (n ∷ ns) (x ∷ xs) zero old new h within is more = let same : f old ≡ f x = ap f is in (omega (arith, h.0, same, more), h.1)
keeps_put f (n ∷ ns) (x ∷ xs) (suc k) old new h within is more = (h.0, keeps_put f ns xs k old new h.1 (omega (arith, within)) is more)

-- the room of each is as before
pub same_put : {X : Type 0} (f : X → ℕ) (xs : List X) (k : ℕ) (old new : X) → k < length xs → old ≡ get_or xs k old → f new ≡ f old → map f (set xs k new) ≡ map f xs
same_put f [] k old new within is same = refl
same_put f (x ∷ xs) zero old new within is same = ap (λ n. n ∷ map f xs) (same ∙ ap f is)
same_put f (x ∷ xs) (suc k) old new within is same = ap (λ ns. f x ∷ ns) (same_put f xs k old new (omega (arith, within)) is same)

pub length_behind : {X : Type 0} (xs : List X) (x : X) → length (xs ++ x ∷ []) ≡ suc (length xs)
length_behind [] x = refl
length_behind (y ∷ xs) x = ap suc (length_behind xs x)

pub put_long : {X : Type 0} (xs : List X) (k : ℕ) (new : X) → length (set xs k new) ≡ length xs
put_long [] k new = refl
put_long (x ∷ xs) zero new = refl
put_long (x ∷ xs) (suc k) new = ap suc (put_long xs k new)

-- ---- each is wide

pub wide_none : {X : Type 0} (f : X → ℕ) (n : ℕ) (xs : List X) → (i m : ℕ) → i < 0 → slice_get (map f xs) i ≡ Some m → n ≤ m
wide_none f n xs i m less is = absurd (omega (arith, less))

-- so many are all
pub wide_all : {X : Type 0} (f : X → ℕ) (n k : ℕ) (xs : List X) → length xs ≤ k → ((i m : ℕ) → i < k → slice_get (map f xs) i ≡ Some m → n ≤ m) → (i m : ℕ) → slice_get (map f xs) i ≡ Some m → n ≤ m
wide_all f n k [] beyond wide i m is = cc is
wide_all f n k (x ∷ xs) beyond wide zero m is = wide zero m (omega (arith, beyond)) is
wide_all f n zero (x ∷ xs) beyond wide (suc i) m is = absurd (omega (arith, beyond))
wide_all f n (suc k) (x ∷ xs) beyond wide (suc i) m is = wide_all f n k xs (omega (arith, beyond)) (λ j q less there. wide (suc j) q (omega (arith, less)) there) i m is

pub wide_more : {X : Type 0} (f : X → ℕ) (n k : ℕ) (xs : List X) (new : X) → k < length xs → n ≤ f new → ((i m : ℕ) → i < k → slice_get (map f xs) i ≡ Some m → n ≤ m)
    → (i m : ℕ) → i < k + 1 → slice_get (map f (set xs k new)) i ≡ Some m → n ≤ m
wide_more f n k [] new within wide so_far i m less is = absurd (omega (arith, within))
wide_more f n zero (x ∷ xs) new within wide so_far zero m less is = let same : f new ≡ m = cc is in omega (arith, same, wide)
wide_more f n zero (x ∷ xs) new within wide so_far (suc i) m less is = absurd (omega (arith, less))
wide_more f n (suc k) (x ∷ xs) new within wide so_far zero m less is = so_far zero m (omega arith) is
wide_more f n (suc k) (x ∷ xs) new within wide so_far (suc i) m less is =
    wide_more f n k xs new (omega (arith, within)) wide (λ j q lower there. so_far (suc j) q (omega (arith, lower)) there) i m (omega (arith, less)) is

-- ---- lists that fit

pub fits_long : {X : Type 0} (ns : List ℕ) (xss : List (List X)) → FitLists ns xss → length xss ≤ length ns
fits_long ns [] h = omega arith
fits_long [] (xs ∷ xss) h = absurd h
fits_long (n ∷ ns) (xs ∷ xss) h = let rest : length xss ≤ length ns = fits_long ns xss h.1 in omega (arith, rest)

pub fits_then : {X : Type 0} (ns ms : List ℕ) (xss : List (List X)) → KeepLists ns ms → FitLists ns xss → FitLists ms xss
fits_then ns ms [] keeps h = tt
fits_then [] ms (xs ∷ xss) keeps h = absurd h
fits_then (n ∷ ns) [] (xs ∷ xss) keeps h = absurd keeps
fits_then (n ∷ ns) (m ∷ ms) (xs ∷ xss) keeps h = (omega (arith, keeps.0, h.0), fits_then ns ms xss keeps.1 h.1)

-- one of them fits in its place
pub fits_at : {X : Type 0} (f : X → ℕ) (xs : List X) (ts : List TraceArg) (k : ℕ) (x : X) (t : TraceArg) → FitLists (map f xs) (map (λ a. a.names) (map arg_content ts)) → k < length ts → x ≡ get_or xs k x → t ≡ get_or ts k t
    → length t.names.items ≤ f x
fits_at f xs [] k x t h within is it = absurd (omega (arith, within))
fits_at f [] (u ∷ ts) k x t h within is it = absurd h
fits_at f (w ∷ xs) (u ∷ ts) zero x t h within is it =
    let a : f x ≡ f w = ap f is in
    let b : length t.names.items ≡ length u.names.items = ap (λ (v : TraceArg). length v.names.items) it in
    omega (arith, a, b, h.0)
fits_at f (w ∷ xs) (u ∷ ts) (suc k) x t h within is it = fits_at f xs ts k x t h.1 (omega (arith, within)) is it

-- none of them is longer, also where more fit
pub within_then : {X : Type 0} (n m : ℕ) (xss : List (List X)) → n ≤ m → AreWithin n xss → AreWithin m xss
within_then n m [] more h = tt
within_then n m (xs ∷ xss) more h = (omega (arith, more, h.0), within_then n m xss more h.1)

pub within_at : {X Z : Type 0} (g : Z → List X) (n : ℕ) (zs : List Z) (k : ℕ) (z : Z) → AreWithin n (map g zs) → k < length zs → z ≡ get_or zs k z → length (g z) ≤ n
within_at g n [] k z h within it = absurd (omega (arith, within))
within_at g n (y ∷ zs) zero z h within it = let b : length (g z) ≡ length (g y) = ap (λ v. length (g v)) it in omega (arith, b, h.0)
within_at g n (y ∷ zs) (suc k) z h within it = within_at g n zs k z h.1 (omega (arith, within)) it

-- ---- what is put in the lists

more_read : {V T C Y : Type 0} (f : V → Y) (c : T → C) (g : C → Y) (vs : List V) (ts : List T) (k : ℕ) (new : V) (t : T) → k < length vs → k < length ts → t ≡ get_or ts k t → map f (take k vs) ≡ map g (map c (take k ts)) → f new ≡ g (c t)
    → map f (take (suc k) (set vs k new)) ≡ map g (map c (take (suc k) ts))
more_read f c g [] ts k new t within there is so_far one = absurd (omega (arith, within))
more_read f c g (v ∷ vs) [] k new t within there is so_far one = absurd (omega (arith, there))
more_read f c g (v ∷ vs) (u ∷ ts) zero new t within there is so_far one = ap (λ y. y ∷ []) (one ∙ ap (λ w. g (c w)) is)
more_read f c g (v ∷ vs) (u ∷ ts) (suc k) new t within there is so_far one =
    let h : f v ≡ g (c u) = cc so_far in
    let rest = more_read f c g vs ts k new t (omega (arith, within)) (omega (arith, there)) is (cc so_far) one in
    λ i. h i ∷ rest i

-- one more was put
pub read_more : {V T C Y : Type 0} (f : V → Y) (c : T → C) (g : C → Y) (vs : List V) (ts : List T) (k : ℕ) (new : V) (t : T) → k < length vs → k < length ts → t ≡ get_or ts k t → map f (take k vs) ≡ map g (map c (take k ts)) → f new ≡ g (c t)
    → map f (take (k + 1) (set vs k new)) ≡ map g (map c (take (k + 1) ts))
read_more f c g vs ts k new t within there is so_far one =
    ap (λ n. map f (take n (set vs k new))) (add-one k) ∙ (more_read f c g vs ts k new t within there is so_far one ∙ ap (λ n. map g (map c (take n ts))) (sym (add-one k)))
