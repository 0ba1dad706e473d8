-- Texts in byte order: a sorted list of them is the one that `in_order` makes.
use Rattle.std.proofs.Common.{◌≡◌, ◌∙◌, ℕ, ◌+◌, ◌<◌, Bool, true, false, cond, List, [], ◌∷◌, map, length, get_or, refl, ap, sym, add-one, arith, sum_by, Option, Some, Ordering, Less, Equal, Greater}
use Rattle.std.specs.Bool.{⊤}
use Rattle.std.specs.Cmp.{IsStrictWeakOrder}
use Rattle.std.specs.Cmp.Lexicographic.{slice_cmp}
use Rattle.std.specs.List.Sorted.{IsPermutation, IsSortedBy}
use Rattle.std.specs.Ordering.{nat_cmp, is_lt, is_eq, ordering_reverse}
use Rattle.std.specs.Str.{bytes_eq}
use Rattle.std.proofs.lemmas.Cmp.{nat_list_cmp_total}
use Rattle.std.proofs.lemmas.List.Sorted.{ranks_by, sorted_far, sum_by-IsPermutation, IsPermutation-map}
use Rattle.std.proofs.lemmas.List.Sums.{sum_by-cons}
use Rattle.std.proofs.lemmas.Map.Text.{is_eq-slice_cmp}
use Rattle.std.proofs.lemmas.Slice.Eq.{bytes_eq-Decides}
use Rattle.replay_base.specs.Files.{File, Lists, names_in}
use Rattle.layer_search.specs.Order.{is_before, put_in_order, in_order}

-- byte order is an order
order : IsStrictWeakOrder is_before
order = ranks_by nat_list_cmp_total (λ (x : List ℕ). x)

-- of two texts of which none stands before the other, each is the other
same_place : (x y : List ℕ) → is_before x y ≡ false → is_before y x ≡ false → x ≡ y
same_place x y no_less no_more = go (slice_cmp nat_cmp x y) refl (slice_cmp nat_cmp y x) refl (nat_list_cmp_total.antisymm x y)
  where
    equal : slice_cmp nat_cmp x y ≡ Equal → x ≡ y
    equal e = (bytes_eq-Decides x y).0 (sym (is_eq-slice_cmp x y) ∙ ap is_eq e)

    go : (o : Ordering) → slice_cmp nat_cmp x y ≡ o → (p : Ordering) → slice_cmp nat_cmp y x ≡ p → slice_cmp nat_cmp x y ≡ ordering_reverse (slice_cmp nat_cmp y x) → x ≡ y
    go Less e p f h = let wrong : true ≡ false = sym (ap is_lt e) ∙ no_less in cc
    go Equal e p f h = equal e
    go Greater e Less f h = let wrong : true ≡ false = sym (ap is_lt f) ∙ no_more in cc
    go Greater e Equal f h = let wrong : Greater ≡ Equal = sym e ∙ (h ∙ ap ordering_reverse f) in cc
    go Greater e Greater f h = let wrong : Greater ≡ Less = sym e ∙ (h ∙ ap ordering_reverse f) in cc

-- no text of a list stands before another
abbrev NoneBefore : List ℕ → List (List ℕ) → Type 0
NoneBefore x [] = ⊤
NoneBefore x (y ∷ ys) = (is_before y x ≡ false) × NoneBefore x ys

-- each text of a list stands before none that is in front of it
abbrev Rises : List (List ℕ) → Type 0
Rises [] = ⊤
Rises (x ∷ xs) = NoneBefore x xs × Rises xs

-- what stands before no text of a list stands before none that stands behind it
NoneBefore-behind : (x y : List ℕ) (ys : List (List ℕ)) → is_before y x ≡ false → NoneBefore y ys → NoneBefore x ys
NoneBefore-behind x y [] h none = tt
NoneBefore-behind x y (z ∷ ys) h none = (order.chain z y x none.0 h, NoneBefore-behind x y ys h none.1)

-- a text that is put in its place
NoneBefore-put : (x y : List ℕ) (ys : List (List ℕ)) → is_before y x ≡ false → NoneBefore x ys → NoneBefore x (put_in_order y ys)
NoneBefore-put x y [] h none = (h, tt)
NoneBefore-put x y (z ∷ ys) h none = go (is_before z y) (NoneBefore-put x y ys h none.1)
  where
    go : (t : Bool) → NoneBefore x (put_in_order y ys) → NoneBefore x (cond t (z ∷ put_in_order y ys) (y ∷ z ∷ ys))
    go true ih = (none.0, ih)
    go false ih = (h, none)

Rises-put : (x : List ℕ) (ys : List (List ℕ)) → Rises ys → Rises (put_in_order x ys)
Rises-put x [] rises = (tt, tt)
Rises-put x (y ∷ ys) rises = go (is_before y x) refl (Rises-put x ys rises.1)
  where
    go : (t : Bool) → is_before y x ≡ t → Rises (put_in_order x ys) → Rises (cond t (y ∷ put_in_order x ys) (x ∷ y ∷ ys))
    go true e ih = (NoneBefore-put y x ys (order.one_way y x e) rises.0, ih)
    go false e ih = ((e, NoneBefore-behind x y ys e rises.0), rises)

-- texts in order rise
Rises-in_order : (xs : List (List ℕ)) → Rises (in_order xs)
Rises-in_order [] = tt
Rises-in_order (x ∷ xs) = Rises-put x (in_order xs) (Rises-in_order xs)

-- one where a text is the one asked for
abbrev one_at : List ℕ → List ℕ → ℕ
one_at q x = cond (bytes_eq q x) 1 0

-- how often a text stands in a list
abbrev times : List ℕ → List (List ℕ) → ℕ
times q [] = 0
times q (x ∷ xs) = one_at q x + times q xs

-- the same, as a sum
times_is : (q : List ℕ) (xs : List (List ℕ)) → sum_by (one_at q) xs ≡ times q xs
times_is q [] = refl
times_is q (x ∷ xs) = sum_by-cons (one_at q) x xs ∙ ap (λ n. one_at q x + n) (times_is q xs)

-- another order has each text as often
times-moved : (q : List ℕ) (xs ys : List (List ℕ)) → IsPermutation xs ys → times q ys ≡ times q xs
times-moved q xs ys moved = sym (times_is q ys) ∙ (sum_by-IsPermutation (one_at q) xs ys moved ∙ times_is q xs)

times-put : (q x : List ℕ) (ys : List (List ℕ)) → times q (put_in_order x ys) ≡ one_at q x + times q ys
times-put q x [] = refl
times-put q x (y ∷ ys) = go (is_before y x) (times-put q x ys)
  where
    go : (t : Bool) → times q (put_in_order x ys) ≡ one_at q x + times q ys → times q (cond t (y ∷ put_in_order x ys) (x ∷ y ∷ ys)) ≡ one_at q x + (one_at q y + times q ys)
    go true ih = rw ih (omega arith)
    go false ih = refl

times-in_order : (q : List ℕ) (xs : List (List ℕ)) → times q (in_order xs) ≡ times q xs
times-in_order q [] = refl
times-in_order q (x ∷ xs) = times-put q x (in_order xs) ∙ ap (λ n. one_at q x + n) (times-in_order q xs)

-- a text stands at itself
one_at-same : (q : List ℕ) → one_at q q ≡ 1
one_at-same q = let h : bytes_eq q q ≡ true = (bytes_eq-Decides q q).1 refl in rw h

-- what stands in a list doesn't stand before a text before which none of it stands
not_before_behind : (q x : List ℕ) (ys : List (List ℕ)) → NoneBefore x ys → 0 < times q ys → is_before q x ≡ false
not_before_behind q x [] none h = absurd (omega arith)
not_before_behind q x (y ∷ ys) none h = go (bytes_eq q y) (bytes_eq-Decides q y).0 h (λ k. not_before_behind q x ys none.1 k)
  where
    go : (t : Bool) → (t ≡ true → q ≡ y) → 0 < cond t 1 0 + times q ys → (0 < times q ys → is_before q x ≡ false) → is_before q x ≡ false
    go true is h ih = ap (λ z. is_before z x) (is refl) ∙ none.0
    go false is h ih = ih (omega arith)

-- what stands in a list in order doesn't stand before its first
not_before : (q x : List ℕ) (xs : List (List ℕ)) → is_before x x ≡ false → NoneBefore x xs → 0 < times q (x ∷ xs) → is_before q x ≡ false
not_before q x xs self none h = go (bytes_eq q x) (bytes_eq-Decides q x).0 h
  where
    go : (t : Bool) → (t ≡ true → q ≡ x) → 0 < cond t 1 0 + times q xs → is_before q x ≡ false
    go true is h = ap (λ z. is_before z x) (is refl) ∙ self
    go false is h = not_before_behind q x xs none (omega arith)

-- no text stands before itself
not_before_self : (x : List ℕ) → is_before x x ≡ false
not_before_self x = go (is_before x x) refl
  where
    go : (t : Bool) → is_before x x ≡ t → t ≡ false
    go true e = sym e ∙ order.one_way x x e
    go false e = refl

-- two lists that rise and have each text as often are one
same_list : (xs ys : List (List ℕ)) → Rises xs → Rises ys → ((q : List ℕ) → times q xs ≡ times q ys) → xs ≡ ys
same_list [] [] rises rise same = refl
same_list [] (y ∷ ys) rises rise same = let one : one_at y y ≡ 1 = one_at-same y in let h : 0 ≡ one_at y y + times y ys = same y in absurd (omega arith)
same_list (x ∷ xs) [] rises rise same = let one : one_at x x ≡ 1 = one_at-same x in let h : one_at x x + times x xs ≡ 0 = same x in absurd (omega arith)
same_list (x ∷ xs) (y ∷ ys) rises rise same =
    let one_x : one_at x x ≡ 1 = one_at-same x in
    let one_y : one_at y y ≡ 1 = one_at-same y in
    let at_x : one_at x x + times x xs ≡ times x (y ∷ ys) = same x in
    let at_y : times y (x ∷ xs) ≡ one_at y y + times y ys = same y in
    let less : is_before x y ≡ false = not_before x y ys (not_before_self y) rise.0 (omega arith) in
    let more : is_before y x ≡ false = not_before y x xs (not_before_self x) rises.0 (omega arith) in
    let head : x ≡ y = same_place x y less more in
    let tail : xs ≡ ys = same_list xs ys rises.1 rise.1 (λ q. let h : one_at q x + times q xs ≡ one_at q y + times q ys = same q in let e : one_at q x ≡ one_at q y = ap (one_at q) head in omega arith) in
    cc

-- what stands behind a list's first element
behind_first : {X : Type 0} (x : X) (xs : List X) (k : ℕ) (d : X) → get_or (x ∷ xs) (k + 1) d ≡ get_or xs k d
behind_first x xs k d = rw add-one

-- what a sort says of neighbours holds of a list's tail
sorted_tail : {X : Type 0} (lt : X → X → Bool) (x : X) (xs : List X) → IsSortedBy lt (x ∷ xs) → IsSortedBy lt xs
sorted_tail lt x xs sorted = λ k d low high. rw (behind_first x xs (k + 1) d, behind_first x xs k d) at (sorted (k + 1) d (omega arith) (omega arith))

-- a sorted list rises, by what is read of its elements
sorted_rises : {X : Type 0} (read : X → List ℕ) (xs : List X) → IsSortedBy (λ x y. is_before (read x) (read y)) xs → Rises (map read xs)
sorted_rises read [] sorted = tt
sorted_rises {X} read (x ∷ xs) sorted = (none xs (λ k d l. far k d l), sorted_rises read xs (sorted_tail (λ x y. is_before (read x) (read y)) x xs sorted))
  where
    far : (k : ℕ) (d : X) → k < length xs → is_before (read (get_or xs k d)) (read x) ≡ false
    far k d l = rw (behind_first x xs k d) at (sorted_far (λ x y. is_before (read x) (read y)) (ranks_by nat_list_cmp_total read) (x ∷ xs) sorted 0 (k + 1) d (omega arith) (omega arith))

    none : (ys : List X) → ((k : ℕ) (d : X) → k < length ys → is_before (read (get_or ys k d)) (read x) ≡ false) → NoneBefore (read x) (map read ys)
    none [] h = tt
    none (y ∷ ys) h = (h 0 y (omega arith), none ys (λ k d l. rw (behind_first y ys k d) at (h (k + 1) d (omega arith))))

-- a sort leaves what was read of the elements in order
pub sorted_is : {X : Type 0} (read : X → List ℕ) (xs ys : List X) → IsPermutation xs ys → IsSortedBy (λ x y. is_before (read x) (read y)) ys → map read ys ≡ in_order (map read xs)
sorted_is read xs ys moved sorted =
    same_list (map read ys) (in_order (map read xs)) (sorted_rises read ys sorted) (Rises-in_order (map read xs))
    (λ q. times-moved q (map read xs) (map read ys) (IsPermutation-map read xs ys moved) ∙ sym (times-in_order q (map read xs)))

-- texts in another order are the same in order
pub in_order-moved : (xs ys : List (List ℕ)) → IsPermutation xs ys → in_order ys ≡ in_order xs
in_order-moved xs ys moved =
    same_list (in_order ys) (in_order xs) (Rises-in_order ys) (Rises-in_order xs)
    (λ q. times-in_order q ys ∙ (times-moved q xs ys moved ∙ sym (times-in_order q xs)))

-- the names that a listing gives are in order those of the folder
pub listed : (told : Option (List File)) (files : List File) (at folder : List ℕ) (names : List (List ℕ)) → told ≡ Some files → Lists told at names → at ≡ folder → in_order names ≡ in_order (names_in files folder)
listed told files at folder names is lists same =
    let moved : IsPermutation (names_in files at) names = rw is at lists in
    in_order-moved (names_in files at) names moved ∙ ap (λ f. in_order (names_in files f)) same
