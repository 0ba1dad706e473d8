-- The values that have come back, and the heap beside them.
use Rattle.std.proofs.Common.{◌≡◌, ◌≤◌, ◌<◌, ℕ, zero, suc, ◌+◌, ◌-◌, ◌∙◌, Bool, true, false, cond, List, [], ◌∷◌, ◌++◌, length, get_or, get_or-set_same, get_or-set_other, ◌≢◌, refl, ap, sym, subst, arith, length-append, eq-eqb, inl, inr, add-one, append_assoc}
use Rattle.std.specs.Prelude.{nat_le, nat_eq, ◌⊎◌}
use Rattle.std.proofs.Math.ListN.{set}
use Rattle.std.proofs.Math.Seq.{get_or-append_seam}
use Rattle.std.proofs.lemmas.Bool.{eqb-true, le-leb}
use Rattle.std.proofs.lemmas.List.Sums.{sum_by-cons, sum_by-set, sum_by_push}
use Rattle.std.proofs.lemmas.List.Sorted.{sum_by-IsPermutation}
use Rattle.std.specs.List.{AllByRecursion}
use Rattle.std.specs.Ordering.{is_lt, nat_cmp}
use Rattle.std.specs.List.Sorted.{IsPermutation}
use Rattle.std.specs.BinaryHeap.{IsHeap, IsUpperBound}
use Rattle.std.specs.declared.cmp.Reverse.{Reverse}
use Rattle.model_driver.specs.declared.driver.Policy.{Policy}
use Rattle.model_driver.specs.Policies.{after_giving, is_back, least_not_out, next_value, values_given, with_back, with_given}
use Rattle.model_driver.specs.Books.{IsBook, by_least, count_back, times}

-- what has come back was given
pub back_within : (back : List Bool) (v : ℕ) → is_back back v ≡ true → (1 ≤ v) × (v ≤ length back)
back_within back zero is = cc is
back_within back (suc i) is = go back i is
  where
    go : (back : List Bool) (i : ℕ) → get_or back i false ≡ true → (1 ≤ suc i) × (suc i ≤ length back)
    go [] i is = cc is
    go (b ∷ back) zero is = (omega arith, omega arith)
    go (b ∷ back) (suc i) is = let rest = go back i is in (omega arith, omega (arith, rest.1))

-- the least that has come back is the least that isn't out
pub least_is : (back : List Bool) (v : ℕ) → is_back back v ≡ true → ((u : ℕ) → is_back back u ≡ true → v ≤ u) → least_not_out back ≡ v
least_is back zero is least = cc is
least_is [] (suc i) is least = cc is
least_is (true ∷ back) (suc i) is least = let h : suc i ≤ 1 = least 1 refl in omega arith
least_is (false ∷ back) (suc zero) is least = cc is
least_is (false ∷ back) (suc (suc j)) is least =
    ap suc (least_is back (suc j) is above)
  where
    above : (u : ℕ) → is_back back u ≡ true → suc j ≤ u
    above zero h = cc h
    above (suc k) h = let m : suc (suc j) ≤ suc (suc k) = least (suc (suc k)) h in omega arith

count_cons : (b : Bool) (back : List Bool) → count_back (b ∷ back) ≡ cond b 1 0 + count_back back
count_cons b back = sum_by-cons (λ c. cond c 1 0) b back

-- where none has come back, it is a new one
pub least_new : (back : List Bool) → count_back back ≡ 0 → least_not_out back ≡ length back + 1
least_new [] none = refl
least_new (true ∷ back) none = absurd (omega (arith, count_cons true back, none))
least_new (false ∷ back) none = ap suc (least_new back (omega (arith, count_cons false back, none))) ∙ omega arith

-- how often a value is in a heap with one more
times_cons : (v x : ℕ) (rest : List (Reverse ℕ)) → times v (record { 0 = x } ∷ rest) ≡ cond (nat_eq x v) 1 0 + times v rest
times_cons v x rest = sum_by-cons (λ (r : Reverse ℕ). cond (nat_eq r.0 v) 1 0) (record { 0 = x }) rest

times_moved : (v : ℕ) (xs ys : List (Reverse ℕ)) → IsPermutation xs ys → times v ys ≡ times v xs
times_moved v xs ys moved = sum_by-IsPermutation (λ (r : Reverse ℕ). cond (nat_eq r.0 v) 1 0) xs ys moved

self_eq : (x : ℕ) → nat_eq x x ≡ true
self_eq x = eq-eqb x x refl

-- the top of the heap has come back
pub top_back : (back : List Bool) (items rest : List (Reverse ℕ)) (n x : ℕ) → IsBook back items n → IsPermutation items (record { 0 = x } ∷ rest) → is_back back x ≡ true
top_back back items rest n x book moved = go (is_back back x) refl
  where
    once : 1 + times x rest ≡ cond (is_back back x) 1 0
    once = ap (λ t. cond t 1 0 + times x rest) (sym (self_eq x)) ∙ (sym (times_cons x x rest) ∙ (times_moved x items (record { 0 = x } ∷ rest) moved ∙ book.each x))

    go : (t : Bool) → is_back back x ≡ t → is_back back x ≡ true
    go true e = e
    go false e =
        let none : 1 + times x rest ≡ 0 = once ∙ ap (λ t. cond t 1 0) e in
        absurd (omega (arith, none))

le_of : (a b : ℕ) → is_lt (nat_cmp b a) ≡ false → a ≤ b
le_of a b h = grind arith

-- what is in a heap isn't below a bound of it
above : (x u : ℕ) (rest : List (Reverse ℕ)) → AllByRecursion (λ y. is_lt (by_least (record { 0 = x }) y) ≡ false) rest → 1 ≤ times u rest → x ≤ u
above x u [] all some = absurd (omega arith)
above x u (r ∷ rest) all some = go (nat_eq r.0 u) refl (above x u rest all.1)
  where
    go : (t : Bool) → nat_eq r.0 u ≡ t → (1 ≤ times u rest → x ≤ u) → x ≤ u
    go true e late = subst (λ n. x ≤ n) (eqb-true r.0 u e) (le_of x r.0 all.0)
    go false e late = late (omega (arith, some, sum_by-cons (λ (q : Reverse ℕ). cond (nat_eq q.0 u) 1 0) r rest, ap {B = ℕ} (λ t. cond t 1 0) e))

-- the top of the heap is the least that has come back
pub top_least : (back : List Bool) (items rest : List (Reverse ℕ)) (n x : ℕ) → IsBook back items n → IsPermutation items (record { 0 = x } ∷ rest) → IsUpperBound by_least (record { 0 = x }) rest
    → least_not_out back ≡ x
top_least back items rest n x book moved bound = least_is back x (top_back back items rest n x book moved) least
  where
    least : (u : ℕ) → is_back back u ≡ true → x ≤ u
    least u is = go (nat_eq x u) refl
      where
        all : cond (nat_eq x u) 1 0 + times u rest ≡ 1
        all = sym (times_cons u x rest) ∙ (times_moved u items (record { 0 = x } ∷ rest) moved ∙ (book.each u ∙ ap (λ t. cond t 1 0) is))

        go : (t : Bool) → nat_eq x u ≡ t → x ≤ u
        go true e = let same : x ≡ u = eqb-true x u e in omega arith
        go false e = let some : 0 + times u rest ≡ 1 = ap (λ t. cond t 1 0 + times u rest) (sym e) ∙ all in above x u rest bound (omega (arith, some))

-- one value is set
pub set_here : (back : List Bool) (i : ℕ) (b : Bool) → i < length back → is_back (set back i b) (suc i) ≡ b
set_here back i b within = get_or-set_same back i b false within

pub set_other : (back : List Bool) (i : ℕ) (b : Bool) (v : ℕ) → nat_eq (suc i) v ≡ false → is_back (set back i b) v ≡ is_back back v
set_other back i b zero ne = refl
set_other back i b (suc k) ne =
    let apart : k ≢ i = λ (e : k ≡ i). let h : nat_eq (suc i) (suc k) ≡ true = eq-eqb (suc i) (suc k) (ap suc (sym e)) in cc in
    get_or-set_other back i k b false apart

more_false : (back : List Bool) (k : ℕ) → get_or (back ++ false ∷ []) k false ≡ get_or back k false
more_false [] zero = refl
more_false [] (suc k) = refl
more_false (b ∷ back) zero = refl
more_false (b ∷ back) (suc k) = more_false back k

pub more_out : (back : List Bool) (v : ℕ) → is_back (back ++ false ∷ []) v ≡ is_back back v
more_out back zero = refl
more_out back (suc k) = more_false back k

-- one value more, which is out
pub book_more : (back : List Bool) (items : List (Reverse ℕ)) (n : ℕ) → IsBook back items n → IsBook (back ++ false ∷ []) items n
book_more back items n book = record {
  heap = book.heap;
  each = λ v. book.each v ∙ ap (λ t. cond t 1 0) (sym (more_out back v));
  size = book.size ∙ sym (sum_by_push (λ c. cond c 1 0) back false ∙ omega arith);
}

less_at : (back : List Bool) (items rest : List (Reverse ℕ)) (n m i : ℕ) → IsBook back items n → IsPermutation items (record { 0 = suc i } ∷ rest) → IsHeap by_least rest → m + 1 ≡ n
    → IsBook (set back i false) rest m
less_at back items rest n m i book moved heap one = record {
  heap = heap;
  each = λ v. go v (nat_eq (suc i) v) refl;
  size = omega (arith, one, book.size, sum_by-set (λ c. cond c 1 0) back i false false within, ap (λ c. cond {A = ℕ} c 1 0) is);
}
  where
    is : is_back back (suc i) ≡ true
    is = top_back back items rest n (suc i) book moved

    within : i < length back
    within = omega (arith, (back_within back (suc i) is).1)

    parts : (v : ℕ) → cond (nat_eq (suc i) v) 1 0 + times v rest ≡ cond (is_back back v) 1 0
    parts v = sym (times_cons v (suc i) rest) ∙ (times_moved v items (record { 0 = suc i } ∷ rest) moved ∙ book.each v)

    go : (v : ℕ) (t : Bool) → nat_eq (suc i) v ≡ t → times v rest ≡ cond (is_back (set back i false) v) 1 0
    go v true e =
        let same : suc i ≡ v = eqb-true (suc i) v e in
        let all : 1 + times v rest ≡ 1 = ap (λ t. cond t 1 0 + times v rest) (sym e) ∙ (parts v ∙ ap (λ t. cond t 1 0) (ap (is_back back) (sym same) ∙ is)) in
        let none : times v rest ≡ 0 = omega (arith, all) in
        none ∙ ap (λ t. cond t 1 0) (sym (ap (is_back (set back i false)) (sym same) ∙ set_here back i false within))
    go v false e =
        let all : 0 + times v rest ≡ cond (is_back back v) 1 0 = ap (λ t. cond t 1 0 + times v rest) (sym e) ∙ parts v in
        omega (arith, all) ∙ ap (λ t. cond t 1 0) (sym (set_other back i false v e))

-- the top of the heap is given again
pub book_less : (back : List Bool) (items rest : List (Reverse ℕ)) (n m x : ℕ) → IsBook back items n → IsPermutation items (record { 0 = x } ∷ rest) → IsHeap by_least rest → m + 1 ≡ n
    → IsBook (set back (x - 1) false) rest m
book_less back items rest n m zero book moved heap one = let e : false ≡ true = top_back back items rest n zero book moved in cc
book_less back items rest n m (suc i) book moved heap one = subst (λ k. IsBook (set back k false) rest m) (omega arith) (less_at back items rest n m i book moved heap one)

-- a value that was out comes back
pub book_back : (back : List Bool) (items more : List (Reverse ℕ)) (n m i : ℕ) → IsBook back items n → i < length back → get_or back i false ≡ false → IsPermutation (record { 0 = suc i } ∷ items) more → IsHeap by_least more
    → m ≡ n + 1 → IsBook (set back i true) more m
book_back back items more n m i book within out moved heap one = record {
  heap = heap;
  each = λ v. times_moved v (record { 0 = suc i } ∷ items) more moved ∙ (times_cons v (suc i) items ∙ go v (nat_eq (suc i) v) refl);
  size = omega (arith, one, book.size, sum_by-set (λ c. cond c 1 0) back i true false within, ap (λ c. cond {A = ℕ} c 1 0) out);
}
  where
    go : (v : ℕ) (t : Bool) → nat_eq (suc i) v ≡ t → cond t 1 0 + times v items ≡ cond (is_back (set back i true) v) 1 0
    go v true e =
        let same : suc i ≡ v = eqb-true (suc i) v e in
        let none : times v items ≡ 0 = book.each v ∙ ap (λ t. cond t 1 0) (ap (is_back back) (sym same) ∙ out) in
        let one : 1 + times v items ≡ 1 = omega (arith, none) in
        one ∙ ap (λ t. cond t 1 0) (sym (ap (is_back (set back i true)) (sym same) ∙ set_here back i true within))
    go v false e =
        let all : 0 + times v items ≡ cond (is_back back v) 1 0 = omega (arith, book.each v) in
        all ∙ ap (λ t. cond t 1 0) (sym (set_other back i true v e))

-- one value more, which has come back
pub book_more_back : (back : List Bool) (items more : List (Reverse ℕ)) (n m v : ℕ) → IsBook back items n → v ≡ length back + 1 → IsPermutation (record { 0 = v } ∷ items) more → IsHeap by_least more → m ≡ n + 1
    → IsBook (back ++ true ∷ []) more m
book_more_back back items more n m v book next moved heap one =
    let value : v ≡ suc (length back) = omega arith in
    subst (λ b. IsBook b more m) (set_last back)
    (book_back (back ++ false ∷ []) items more n m (length back) (book_more back items n book) (omega (arith, length-append back (false ∷ []))) (get_or-append_seam back false [] false)
    (subst (λ x. IsPermutation (record { 0 = x } ∷ items) more) value moved) heap one)
  where
    set_last : (back : List Bool) → set (back ++ false ∷ []) (length back) true ≡ back ++ true ∷ []
    set_last [] = refl
    set_last (b ∷ back) = ap (λ xs. b ∷ xs) (set_last back)

-- there is room in the heap for a value that is out
pub room_for : (back : List Bool) (items : List (Reverse ℕ)) (n i : ℕ) → IsBook back items n → i < length back → get_or back i false ≡ false → n < length back
room_for back items n i book within out = subst (λ k. k < length back) (sym book.size) (few back i within out)
  where
    most : (back : List Bool) → count_back back ≤ length back
    most [] = omega arith
    most (true ∷ back) = omega (arith, count_cons true back, most back)
    most (false ∷ back) = omega (arith, count_cons false back, most back)

    few : (back : List Bool) (i : ℕ) → i < length back → get_or back i false ≡ false → count_back back < length back
    few [] i within out = absurd (omega (arith, within))
    few (true ∷ back) zero within out = cc out
    few (false ∷ back) zero within out = omega (arith, count_cons false back, most back)
    few (true ∷ back) (suc i) within out = omega (arith, count_cons true back, few back i (omega (arith, within)) out)
    few (false ∷ back) (suc i) within out = omega (arith, count_cons false back, few back i (omega (arith, within)) out)

-- where 1 is given and out, nothing changes; else it is the least that isn't out
pub one_least : (back : List Bool) → (length back ≡ 0) ⊎ (get_or back 0 false ≡ true) → least_not_out back ≡ 1
one_least [] why = refl
one_least (true ∷ back) why = refl
one_least (false ∷ back) (inl h) = absurd (omega (arith, h))
one_least (false ∷ back) (inr h) = cc h

-- a value that has come back is given again
pub given_again : (back : List Bool) (v : ℕ) → is_back back v ≡ true → set back (v - 1) false ≡ with_given back v
given_again back v is =
    let within : nat_le v (length back) ≡ true = le-leb v (length back) (back_within back v is).1 in
    sym (ap (λ t. cond t (set back (v - 1) false) (back ++ false ∷ [])) within)

-- a value comes back
pub back_again : (back : List Bool) (v : ℕ) → (v ≡ 0 → ⊥) → set back (v - 1) true ≡ with_back back v
back_again back zero not_null = absurd (not_null refl)
back_again back (suc i) not_null = ap (λ k. set back k true) (omega arith)

-- its number, where it isn't null
pub back_value : (v : ℕ) → (v ≡ 0 → ⊥) → suc (v - 1) ≡ v
back_value zero not_null = absurd (not_null refl)
back_value (suc i) not_null = omega arith

-- one that is back already, that was never given, or a null changes nothing
pub back_already : (back : List Bool) (v : ℕ) → get_or back (v - 1) false ≡ true → back ≡ with_back back v
back_already back zero is = refl
back_already back (suc i) is = go back i (ap (λ k. get_or back k false) (omega arith) ∙ is)
  where
    go : (back : List Bool) (i : ℕ) → get_or back i false ≡ true → back ≡ set back i true
    go [] i is = refl
    go (b ∷ back) zero is = ap (λ c. c ∷ back) is
    go (b ∷ back) (suc i) is = ap (λ xs. b ∷ xs) (go back i is)

pub never_given : (back : List Bool) (v : ℕ) → length back < v → back ≡ with_back back v
never_given back zero past = refl
never_given back (suc i) past = go back i (omega (arith, past))
  where
    go : (back : List Bool) (i : ℕ) → length back ≤ i → back ≡ set back i true
    go [] i past = refl
    go (b ∷ back) zero past = absurd (omega (arith, past))
    go (b ∷ back) (suc i) past = ap (λ xs. b ∷ xs) (go back i (omega (arith, past)))

-- what was read at a place
pub seen : (back : List Bool) (k : ℕ) (b : Bool) → k < length back → b ≡ get_or back k b → get_or back k false ≡ b
seen [] k b within read = absurd (omega (arith, within))
seen (c ∷ back) zero b within read = sym read
seen (c ∷ back) (suc k) b within read = seen back k b (omega (arith, within)) read

-- a value that was out comes back
pub book_back_at : (back : List Bool) (items more : List (Reverse ℕ)) (n m v : ℕ) → IsBook back items n → (v ≡ 0 → ⊥) → v ≤ length back → get_or back (v - 1) false ≡ false
    → IsPermutation (record { 0 = v } ∷ items) more → IsHeap by_least more → m ≡ n + 1 → IsBook (set back (v - 1) true) more m
book_back_at back items more n m v book not_null within out moved heap one =
    book_back back items more n m (v - 1) book (omega (arith, within, back_value v not_null)) out (subst (λ x. IsPermutation (record { 0 = x } ∷ items) more) (sym (back_value v not_null)) moved) heap one

pub null_back : (back : List Bool) (v : ℕ) → v ≡ 0 → back ≡ with_back back v
null_back back v is = ap (with_back back) (sym is)

-- one more of the values that are left to give
pub given_one : (p : Policy) (back : List Bool) (n m : ℕ) → n ≡ m + 1 → values_given p back n ≡ next_value p back ∷ values_given p (with_given back (next_value p back)) m
given_one p back n m is = ap (values_given p back) (is ∙ add-one m)

pub values_more : (p : Policy) (out done total : List ℕ) (back next : List Bool) (v n m : ℕ) → done ++ values_given p back n ≡ total → n ≡ m + 1 → v ≡ next_value p back → next ≡ with_given back v → out ≡ done ++ v ∷ []
    → out ++ values_given p next m ≡ total
values_more p out done total back next v n m so_far is value behind pushed =
    let behind_is : next ≡ with_given back (next_value p back) = behind ∙ ap (with_given back) value in
    ap (λ xs. xs ++ values_given p next m) (pushed ∙ ap (λ x. done ++ x ∷ []) value)
    ∙ (append_assoc done (next_value p back ∷ []) (values_given p next m)
    ∙ (ap (λ (b : List Bool). done ++ next_value p back ∷ values_given p b m) behind_is ∙ (ap (λ xs. done ++ xs) (sym (given_one p back n m is)) ∙ so_far)))

pub behind_more : (p : Policy) (total back next : List Bool) (v n m : ℕ) → after_giving p back n ≡ total → n ≡ m + 1 → v ≡ next_value p back → next ≡ with_given back v → after_giving p next m ≡ total
behind_more p total back next v n m so_far is value behind =
    ap (λ b. after_giving p b m) (behind ∙ ap (with_given back) value) ∙ (sym (ap (after_giving p back) (is ∙ add-one m)) ∙ so_far)
