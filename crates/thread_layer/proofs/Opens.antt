-- Open calls with their uses in one list.
use Rattle.std.proofs.Common.{◌≡◌, ◌<◌, ◌≤◌, ℕ, zero, suc, ◌+◌, Bool, true, false, cond, not, List, [], ◌∷◌, ◌++◌, length, take, drop, get_or, refl, sym, ap, ◌∙◌, arith, add-one, append_assoc, length-append, take-append-drop}
use Rattle.std.proofs.Math.Seq.{drop-cons, take-add}
use Rattle.std.proofs.lemmas.List.{append-nil, drop-append-le, drop-drop, drop_all, drop_at, length-drop, length-map, length-take-le, take-append-le, take_all, take_at, take_more}
use Rattle.std.specs.Prelude.{◌==◌}
use Rattle.std.specs.List.{remove}
use Rattle.object_model.specs.Uses.{InUse}
use Rattle.thread_layer.specs.Kept.{counted, of_others, open_seen, opens_of, use_seen}
use Rattle.thread_layer.specs.Room.{uses_held}
use Rattle.thread_layer.specs.declared.object_use.ObjectUse.{ObjectUse}
use Rattle.thread_layer.specs.declared.open_call.OpenCall.{OpenCall}

-- ---- how many they are

pub opens_length : (cs : List OpenCall) (us : List ObjectUse) → length (opens_of cs us) ≡ length cs
opens_length [] us = refl
opens_length (c ∷ cs) us = ap suc (opens_length cs (drop c.count us))

-- all uses are those of the open calls
pub held_all : (cs : List OpenCall) (us : List ObjectUse) → counted cs ≡ length us → uses_held (opens_of cs us) ≡ length us
held_all [] us is = is
held_all (c ∷ cs) us is =
    let low : c.count ≤ length us = omega (arith, is) in
    let rest = held_all cs (drop c.count us) (omega (arith, is, length-drop c.count us)) in
    let one = length-map (take c.count us) use_seen ∙ length-take-le c.count us low in
    omega (arith, is, rest, one, length-drop c.count us)

pub counted_more : (cs : List OpenCall) (c : OpenCall) → counted (cs ++ c ∷ []) ≡ counted cs + c.count
counted_more [] c = omega arith
counted_more (b ∷ cs) c = let rest = counted_more cs c in omega (arith, rest)

-- those of the first so many, and of one more
pub counted_next : (cs : List OpenCall) (i : ℕ) (d : OpenCall) → i < length cs → counted (take i cs) + (get_or cs i d).count ≡ counted (take (i + 1) cs)
counted_next cs i d less = sym (ap counted (take_more cs i d less) ∙ counted_more (take i cs) (get_or cs i d))

pub counted_low : (cs : List OpenCall) (i : ℕ) → counted (take i cs) ≤ counted cs
counted_low cs zero = omega arith
counted_low [] (suc i) = omega arith
counted_low (c ∷ cs) (suc i) = let low = counted_low cs i in omega (arith, low)

-- those of the first so many, and of one more, are among all
pub counted_within : (cs : List OpenCall) (us : List ObjectUse) (i : ℕ) (d : OpenCall) → counted cs ≡ length us → i < length cs → counted (take i cs) + (get_or cs i d).count ≤ length us
counted_within cs us i d is less = let next = counted_next cs i d less in let low = counted_low cs (i + 1) in omega (arith, next, low, is)

-- those from a place on
pub counted_cut : (cs : List OpenCall) (i : ℕ) (d : OpenCall) → i < length cs → (get_or cs i d).count + counted (drop (i + 1) cs) ≡ counted (drop i cs)
counted_cut cs i d less = sym (ap counted (drop-cons cs i d less) ∙ ap (λ n. (get_or cs i d).count + counted (drop n cs)) (sym (add-one i)))

-- those behind a call end where those from it on do
pub counted_left : (cs : List OpenCall) (i start n : ℕ) (d : OpenCall) → i < length cs → start + counted (drop i cs) ≡ n → start + (get_or cs i d).count + counted (drop (i + 1) cs) ≡ n
counted_left cs i start n d less is = let cut = counted_cut cs i d less in omega (arith, cut, is)

-- ---- one call

-- the open calls from a place on are the one there and those behind it
pub opens_cut : (cs : List OpenCall) (us : List ObjectUse) (i start : ℕ) (d : OpenCall) → i < length cs
    → opens_of (drop i cs) (drop start us) ≡ open_seen (get_or cs i d) (take (get_or cs i d).count (drop start us)) ∷ opens_of (drop (i + 1) cs) (drop (start + (get_or cs i d).count) us)
opens_cut cs us i start d less =
    let c : OpenCall = get_or cs i d in
    ap (λ (xs : List OpenCall). opens_of xs (drop start us)) (drop-cons cs i d less)
    ∙ (ap (λ n. opens_of (c ∷ drop n cs) (drop start us)) (sym (add-one i)) ∙ ap (λ (vs : List ObjectUse). open_seen c (take c.count (drop start us)) ∷ opens_of (drop (i + 1) cs) vs) (drop-drop c.count start us))

opens_cons : (c : OpenCall) (cs : List OpenCall) (us vs : List ObjectUse) → length us ≡ c.count → opens_of (c ∷ cs) (us ++ vs) ≡ open_seen c us ∷ opens_of cs vs
opens_cons c cs us vs is =
    ap (λ (xs : List ObjectUse). open_seen c xs ∷ opens_of cs (drop c.count (us ++ vs))) (take_at us vs c.count is) ∙ ap (λ (xs : List ObjectUse). open_seen c us ∷ opens_of cs xs) (drop_at us vs c.count is)

-- one open call more
pub opens_more : (cs : List OpenCall) (us vs : List ObjectUse) (c : OpenCall) → counted cs ≡ length us → c.count ≡ length vs → opens_of (cs ++ c ∷ []) (us ++ vs) ≡ opens_of cs us ++ open_seen c vs ∷ []
opens_more [] [] vs c is all = ap (λ (xs : List ObjectUse). open_seen c xs ∷ []) (take_all c.count vs (omega (arith, all)))
opens_more [] (u ∷ us) vs c is all = absurd (omega (arith, is))
opens_more (b ∷ cs) us vs c is all =
    let low : b.count ≤ length us = omega (arith, is) in
    ap (λ (xs : List ObjectUse). open_seen b xs ∷ opens_of (cs ++ c ∷ []) (drop b.count (us ++ vs))) (take-append-le b.count us vs low)
    ∙ (ap (λ (xs : List ObjectUse). open_seen b (take b.count us) ∷ opens_of (cs ++ c ∷ []) xs) (drop-append-le b.count us vs low)
    ∙ ap (λ (os : List InUse). open_seen b (take b.count us) ∷ os) (opens_more cs (drop b.count us) vs c (omega (arith, is, length-drop b.count us)) all))

-- ---- without the call at a place

-- what is left of uses of which so many were put last, without these
pub cut_left : (us vs : List ObjectUse) (start count rest : ℕ) → start + count ≤ length us → rest + count ≡ length us → take start vs ≡ take start us → drop start vs ≡ drop count (drop start us) ++ take count (drop start us)
    → take rest vs ≡ take start us ++ drop (start + count) us
cut_left us vs start count rest low is front behind =
    let kept : List ObjectUse = take start us ++ drop count (drop start us) in
    let gone : List ObjectUse = take count (drop start us) in
    let parts : vs ≡ kept ++ gone
    = sym (take-append-drop start vs) ∙ (ap (λ (xs : List ObjectUse). xs ++ drop start vs) front ∙ (ap (λ (xs : List ObjectUse). take start us ++ xs) behind ∙ sym (append_assoc (take start us) (drop count (drop start us)) gone))) in
    let first : length (take start us) ≡ start = length-take-le start us (omega (arith, low)) in
    let both = length-append (take start us) (drop count (drop start us)) in
    let all = length-drop start us in
    let some = length-drop count (drop start us) in
    let long : length kept ≡ rest = omega (arith, first, both, all, some, low, is) in
    ap (λ (xs : List ObjectUse). take rest xs) parts ∙ (take_at kept gone rest long ∙ ap (λ (xs : List ObjectUse). take start us ++ xs) (drop-drop count start us))

-- the same where they stand in front of others
pub cut_all : (us vs tail : List ObjectUse) (start count n rest : ℕ) → start + count ≤ length us → n ≡ length us → rest + count ≡ length us → take start vs ≡ take start us → drop start vs ≡ drop count (drop start us) ++ take count (drop start us)
    → take rest (take n (vs ++ tail)) ≡ take start us ++ drop (start + count) us
cut_all us vs tail start count n rest low all is front behind =
    let first : length (take start us) ≡ start = length-take-le start us (omega (arith, low)) in
    let back = length-drop start us in
    let long = length-append (drop count (drop start us)) (take count (drop start us)) in
    let far = length-drop count (drop start us) in
    let last : length (take count (drop start us)) ≡ count = length-take-le count (drop start us) (omega (arith, low, back)) in
    let same : length vs ≡ n =
    ap (λ (xs : List ObjectUse). length xs) (sym (take-append-drop start vs))
    ∙ (length-append (take start vs) (drop start vs) ∙ omega (arith, ap (λ (xs : List ObjectUse). length xs) front, ap (λ (xs : List ObjectUse). length xs) behind, first, back, long, far, last, low, all)) in
    ap (λ (xs : List ObjectUse). take rest xs) (take_at vs tail n same) ∙ cut_left us vs start count rest low is front behind

-- the uses of the call at a place are among all
pub within_uses : (cs : List OpenCall) (us : List ObjectUse) (at start : ℕ) (x : OpenCall) → counted cs ≡ length us → at < length cs → start ≡ counted (take at cs) → x ≡ get_or cs at x → start + x.count ≤ length us
within_uses cs us at start x is less from here =
    let within = counted_within cs us at x is less in let same = ap (λ (c : OpenCall). c.count) here in omega (arith, within, same, from)

pub counted_out : (cs : List OpenCall) (at : ℕ) (d : OpenCall) → at < length cs → counted (remove cs at) + (get_or cs at d).count ≡ counted cs
counted_out [] at d less = absurd (omega (arith, less))
counted_out (c ∷ cs) zero d less = omega arith
counted_out (c ∷ cs) (suc at) d less = let rest = counted_out cs at d (omega (arith, less)) in omega (arith, rest)

cut_there : (cs : List OpenCall) (us : List ObjectUse) (at start : ℕ) (d : OpenCall) → counted cs ≡ length us → at < length cs → start ≡ counted (take at cs)
    → opens_of (remove cs at) (take start us ++ drop (start + (get_or cs at d).count) us) ≡ remove (opens_of cs us) at
cut_there [] us at start d is less from = absurd (omega (arith, less))
cut_there (c ∷ cs) us zero start d is less from = ap (λ n. opens_of cs (take n us ++ drop (n + c.count) us)) from ∙ ap (λ n. opens_of cs (drop n us)) none
  where
    none : 0 + c.count ≡ c.count
    none = omega arith
cut_there (c ∷ cs) us (suc at) start d is less from =
    let n : ℕ = (get_or cs at d).count in
    let s : ℕ = counted (take at cs) in
    let own : List ObjectUse = take c.count us in
    let rest : List ObjectUse = drop c.count us in
    let low : c.count ≤ length us = omega (arith, is) in
    let front : take start us ≡ own ++ take s rest = ap (λ m. take m us) from ∙ take-add c.count s us in
    let far : start + n ≡ c.count + (s + n) = omega (arith, from) in
    let back : drop (start + n) us ≡ drop (s + n) rest = ap (λ m. drop m us) far ∙ sym (drop-drop (s + n) c.count us) in
    let parts : take start us ++ drop (start + n) us ≡ own ++ (take s rest ++ drop (s + n) rest)
    = ap (λ (xs : List ObjectUse). xs ++ drop (start + n) us) front ∙ (ap (λ (xs : List ObjectUse). (own ++ take s rest) ++ xs) back ∙ append_assoc own (take s rest) (drop (s + n) rest)) in
    ap (λ (xs : List ObjectUse). opens_of (c ∷ remove cs at) xs) parts
    ∙ (opens_cons c (remove cs at) own (take s rest ++ drop (s + n) rest) (length-take-le c.count us low)
    ∙ ap (λ (os : List InUse). open_seen c own ∷ os) (cut_there cs rest at s d (omega (arith, is, length-drop c.count us)) (omega (arith, less)) refl))

pub cut_out : (cs : List OpenCall) (us : List ObjectUse) (at start : ℕ) (x : OpenCall) → counted cs ≡ length us → at < length cs → start ≡ counted (take at cs) → x ≡ get_or cs at x
    → opens_of (remove cs at) (take start us ++ drop (start + x.count) us) ≡ remove (opens_of cs us) at
cut_out cs us at start x is less from here =
    ap (λ (c : OpenCall). opens_of (remove cs at) (take start us ++ drop (start + c.count) us)) here ∙ cut_there cs us at start x is less from

-- the uses that are left are those of the calls that are left
pub counted_still : (cs ds : List OpenCall) (us vs : List ObjectUse) (at : ℕ) (x : OpenCall) → counted cs ≡ length us → at < length cs → ds ≡ remove cs at → x ≡ get_or cs at x → length vs + x.count ≡ length us → counted ds ≡ length vs
counted_still cs ds us vs at x is less gone here left =
    let out = counted_out cs at x less in
    let same = ap (λ (c : OpenCall). c.count) here in
    let rest = ap (λ (xs : List OpenCall). counted xs) gone in
    omega (arith, out, same, rest, left, is)

-- ---- the calls of a thread, from the last one on

-- the call at a place is of the thread, and is taken out
closed_there : (cs : List OpenCall) (us : List ObjectUse) (at thread : ℕ) (d : OpenCall) → at < length cs → ((get_or cs at d).thread == thread) ≡ true
    → of_others thread (take at (remove (opens_of cs us) at)) ++ drop at (remove (opens_of cs us) at) ≡ of_others thread (take (suc at) (opens_of cs us)) ++ drop (suc at) (opens_of cs us)
closed_there [] us at thread d less is = absurd (omega (arith, less))
closed_there (c ∷ cs) us zero thread d less is = go (c.thread == thread) is
  where
    rest : List InUse
    rest = opens_of cs (drop c.count us)

    go : (t : Bool) → t ≡ true → rest ≡ cond (not t) (open_seen c (take c.count us) ∷ []) [] ++ rest
    go true h = refl
    go false h = cc h
closed_there (c ∷ cs) us (suc at) thread d less is = go (c.thread == thread) (closed_there cs (drop c.count us) at thread d (omega (arith, less)) is)
  where
    one : InUse
    one = open_seen c (take c.count us)

    rest : List InUse
    rest = opens_of cs (drop c.count us)

    go : (t : Bool) → of_others thread (take at (remove rest at)) ++ drop at (remove rest at) ≡ of_others thread (take (suc at) rest) ++ drop (suc at) rest
        → cond (not t) (one ∷ of_others thread (take at (remove rest at))) (of_others thread (take at (remove rest at))) ++ drop at (remove rest at)
        ≡ cond (not t) (one ∷ of_others thread (take (suc at) rest)) (of_others thread (take (suc at) rest)) ++ drop (suc at) rest
    go true ih = ih
    go false ih = ap (λ (os : List InUse). one ∷ os) ih

-- it is of another thread, and stays
open_there : (cs : List OpenCall) (us : List ObjectUse) (at thread : ℕ) (d : OpenCall) → at < length cs → ((get_or cs at d).thread == thread) ≡ false
    → of_others thread (take at (opens_of cs us)) ++ drop at (opens_of cs us) ≡ of_others thread (take (suc at) (opens_of cs us)) ++ drop (suc at) (opens_of cs us)
open_there [] us at thread d less is = absurd (omega (arith, less))
open_there (c ∷ cs) us zero thread d less is = go (c.thread == thread) is
  where
    one : InUse
    one = open_seen c (take c.count us)

    rest : List InUse
    rest = opens_of cs (drop c.count us)

    go : (t : Bool) → t ≡ false → one ∷ rest ≡ cond (not t) (one ∷ []) [] ++ rest
    go true h = cc h
    go false h = refl
open_there (c ∷ cs) us (suc at) thread d less is = go (c.thread == thread) (open_there cs (drop c.count us) at thread d (omega (arith, less)) is)
  where
    one : InUse
    one = open_seen c (take c.count us)

    rest : List InUse
    rest = opens_of cs (drop c.count us)

    go : (t : Bool) → of_others thread (take at rest) ++ drop at rest ≡ of_others thread (take (suc at) rest) ++ drop (suc at) rest
        → cond (not t) (one ∷ of_others thread (take at rest)) (of_others thread (take at rest)) ++ drop at rest ≡ cond (not t) (one ∷ of_others thread (take (suc at) rest)) (of_others thread (take (suc at) rest)) ++ drop (suc at) rest
    go true ih = ih
    go false ih = ap (λ (os : List InUse). one ∷ os) ih

-- the same by the call itself
pub closed_here : (cs : List OpenCall) (us : List ObjectUse) (at thread : ℕ) (x : OpenCall) → at < length cs → x ≡ get_or cs at x → (x.thread == thread) ≡ true
    → of_others thread (take at (remove (opens_of cs us) at)) ++ drop at (remove (opens_of cs us) at) ≡ of_others thread (take (at + 1) (opens_of cs us)) ++ drop (at + 1) (opens_of cs us)
closed_here cs us at thread x less here is =
    closed_there cs us at thread x less (ap (λ (c : OpenCall). c.thread == thread) (sym here) ∙ is) ∙ ap (λ n. of_others thread (take n (opens_of cs us)) ++ drop n (opens_of cs us)) (sym (add-one at))

pub open_here : (cs : List OpenCall) (us : List ObjectUse) (at thread : ℕ) (x : OpenCall) → at < length cs → x ≡ get_or cs at x → (x.thread == thread) ≡ false
    → of_others thread (take at (opens_of cs us)) ++ drop at (opens_of cs us) ≡ of_others thread (take (at + 1) (opens_of cs us)) ++ drop (at + 1) (opens_of cs us)
open_here cs us at thread x less here is =
    open_there cs us at thread x less (ap (λ (c : OpenCall). c.thread == thread) (sym here) ∙ is) ∙ ap (λ n. of_others thread (take n (opens_of cs us)) ++ drop n (opens_of cs us)) (sym (add-one at))

-- none was looked at yet
pub close_begins : (cs : List OpenCall) (us : List ObjectUse) (left thread : ℕ) → left ≡ length cs → of_others thread (take left (opens_of cs us)) ++ drop left (opens_of cs us) ≡ of_others thread (opens_of cs us)
close_begins cs us left thread is =
    let low : length (opens_of cs us) ≤ left = omega (arith, is, opens_length cs us) in
    ap (λ (os : List InUse). of_others thread os ++ drop left (opens_of cs us)) (take_all left (opens_of cs us) low)
    ∙ (ap (λ (os : List InUse). of_others thread (opens_of cs us) ++ os) (drop_all left (opens_of cs us) low) ∙ append-nil (of_others thread (opens_of cs us)))
