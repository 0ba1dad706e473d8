-- Names in the rows and beside them: a look-up finds what is kept.
use Rattle.std.proofs.Common.{◌≡◌, ◌≢◌, ◌<◌, ◌+◌, ℕ, zero, suc, ◌==◌, ◌&&◌, Bool, true, false, cond, Option, Some, None, List, [], ◌∷◌, ◌++◌, ◌||◌, map, refl, sym, ap, ◌∙◌, arith}
use Rattle.std.proofs.lemmas.Bool.{eqb-true, eq-eqb}
use Rattle.std.specs.List.{find}
use Rattle.std.specs.Option.{option_map, option_map_or, option_or}
use Rattle.std.specs.Prelude.{Vec, is_some, slice_get}
use Rattle.command_tables.specs.declared.types.ObjectType.{ObjectType}
use Rattle.object_model.specs.declared.Object.{Object}
use Rattle.trace_format.specs.declared.event.Name.{Name}
use Rattle.trace_format.specs.Accepting.{same_name}
use Rattle.replay_model.specs.Births.{own_object}
use Rattle.replay_model.specs.declared.Named.{Named}
use Rattle.replay_model.specs.Past.{object_in}
use Rattle.session_tables.specs.Dense.{cell_in}
use Rattle.session_tables.specs.Named.{beside_named, is_name_listed, name_in_row, own_named, row_named, rows_named}
use Rattle.session_tables.specs.Shown.{object_at}
use Rattle.session_tables.proofs.Rows.{by_items}
use Rattle.session_tables.proofs.Same.{same_name_is}

-- ---- names that aren't the same

pub not_equal : (n m : ℕ) → n ≢ m → (n == m) ≡ false
not_equal n m apart = go (n == m) refl
  where
    go : (b : Bool) → (n == m) ≡ b → (n == m) ≡ false
    go true e = absurd (apart (eqb-true n m e))
    go false e = e

and_none : (b : Bool) → (b && false) ≡ false
and_none true = refl
and_none false = refl

other_number : (t n : ℕ) (q : Name) → n ≢ q.number → same_name (name_in_row t n) q ≡ false
other_number t n q apart = ap (λ b. t == q.thread && b) (not_equal n q.number apart) ∙ and_none (t == q.thread)

other_thread : (t n : ℕ) (q : Name) → t ≢ q.thread → same_name (name_in_row t n) q ≡ false
other_thread t n q apart = ap (λ b. b && n == q.number) (not_equal t q.thread apart)

same_sym : (a b : Name) → same_name a b ≡ same_name b a
same_sym a b = go (same_name a b) refl (same_name b a) refl
  where
    one : a ≡ b → same_name a b ≡ same_name b a
    one p = ap (same_name a) (sym p) ∙ ap (λ (x : Name). same_name x a) p

    go : (t : Bool) → same_name a b ≡ t → (u : Bool) → same_name b a ≡ u → same_name a b ≡ same_name b a
    go true e u f = one (same_name_is a b e)
    go false e true f = one (sym (same_name_is b a f))
    go false e false f = e ∙ sym f

-- ---- lists of names

-- what a name that comes first stands for
first_named : (x : Named) (xs : List Named) (q : Name) (t : Bool) → same_name x.name q ≡ t → object_in (x ∷ xs) q ≡ cond t (Some x.object) (object_in xs q)
first_named x xs q true e = ap (λ b. option_map (λ (n : Named). n.object) (cond b (Some x) (find (λ (n : Named). same_name n.name q) xs))) e
first_named x xs q false e = ap (λ b. option_map (λ (n : Named). n.object) (cond b (Some x) (find (λ (n : Named). same_name n.name q) xs))) e

pub named_behind : (xs ys : List Named) (q : Name) → object_in (xs ++ ys) q ≡ option_or (object_in xs q) (object_in ys q)
named_behind [] ys q = refl
named_behind (x ∷ xs) ys q = go (named_behind xs ys q) (same_name x.name q) refl
  where
    go : object_in (xs ++ ys) q ≡ option_or (object_in xs q) (object_in ys q) → (t : Bool) → same_name x.name q ≡ t → object_in (x ∷ xs ++ ys) q ≡ option_or (object_in (x ∷ xs) q) (object_in ys q)
    go ih true e = first_named x (xs ++ ys) q true e ∙ ap (λ (f : Option Object). option_or f (object_in ys q)) (sym (first_named x xs q true e))
    go ih false e = first_named x (xs ++ ys) q false e ∙ (ih ∙ ap (λ (f : Option Object). option_or f (object_in ys q)) (sym (first_named x xs q false e)))

pub or_none : {X : Type 0} (x : Option X) → option_or x None ≡ x
or_none None = refl
or_none (Some v) = refl

-- ---- a row

row_before : (t n : ℕ) (types : List (Option ObjectType)) (q : Name) → q.number < n → object_in (row_named t n types) q ≡ None
row_before t n [] q less = refl
row_before t n (None ∷ types) q less = row_before t (suc n) types q (omega (arith, less))
row_before t n (Some ty ∷ types) q less =
    first_named (own_named ty (name_in_row t n)) (row_named t (suc n) types) q false (other_number t n q (λ e. omega (arith, less, e))) ∙ row_before t (suc n) types q (omega (arith, less))

row_other : (t n : ℕ) (types : List (Option ObjectType)) (q : Name) → t ≢ q.thread → object_in (row_named t n types) q ≡ None
row_other t n [] q apart = refl
row_other t n (None ∷ types) q apart = row_other t (suc n) types q apart
row_other t n (Some ty ∷ types) q apart = first_named (own_named ty (name_in_row t n)) (row_named t (suc n) types) q false (other_thread t n q apart) ∙ row_other t (suc n) types q apart

row_found : (t n k : ℕ) (types : List (Option ObjectType)) (q : Name) → t ≡ q.thread → q.number ≡ n + k → object_in (row_named t n types) q ≡ option_map (λ ty. own_object ty q) (cell_in None types k)
row_found t n k [] q row at = refl
row_found t n zero (None ∷ types) q row at = row_before t (suc n) types q (omega (arith, at))
row_found t n (suc k) (None ∷ types) q row at = row_found t (suc n) k types q row (omega (arith, at))
row_found t n zero (Some ty ∷ types) q row at =
    let number : n ≡ q.number = omega (arith, at) in
    let is : name_in_row t n ≡ q = λ i. record { thread = row i; number = number i } in
    first_named (own_named ty (name_in_row t n)) (row_named t (suc n) types) q true (ap (λ b. b && n == q.number) (eq-eqb t q.thread row) ∙ eq-eqb n q.number number) ∙ ap (λ (x : Name). Some (own_object ty x)) is
row_found t n (suc k) (Some ty ∷ types) q row at =
    first_named (own_named ty (name_in_row t n)) (row_named t (suc n) types) q false (other_number t n q (λ e. omega (arith, at, e))) ∙ row_found t (suc n) k types q row (omega (arith, at))

-- ---- all rows

rows_before : (t : ℕ) (rows : List (List (Option ObjectType))) (q : Name) → q.thread < t → object_in (rows_named t rows) q ≡ None
rows_before t [] q less = refl
rows_before t (types ∷ rows) q less =
    named_behind (row_named t 0 types) (rows_named (suc t) rows) q
    ∙ (ap (λ (f : Option Object). option_or f (object_in (rows_named (suc t) rows) q)) (row_other t 0 types q (λ e. omega (arith, less, e))) ∙ rows_before (suc t) rows q (omega (arith, less)))

rows_found : (t k : ℕ) (rows : List (List (Option ObjectType))) (q : Name) → q.thread ≡ t + k
    → object_in (rows_named t rows) q ≡ option_map (λ ty. own_object ty q) (option_map_or (λ (cells : List (Option ObjectType)). cell_in None cells q.number) (slice_get rows k) None)
rows_found t k [] q at = refl
rows_found t zero (types ∷ rows) q at =
    named_behind (row_named t 0 types) (rows_named (suc t) rows) q
    ∙ (ap (option_or (object_in (row_named t 0 types) q)) (rows_before (suc t) rows q (omega (arith, at)))
    ∙ (or_none (object_in (row_named t 0 types) q) ∙ row_found t 0 q.number types q (omega (arith, at)) (omega arith)))
rows_found t (suc k) (types ∷ rows) q at =
    named_behind (row_named t 0 types) (rows_named (suc t) rows) q
    ∙ (ap (λ (f : Option Object). option_or f (object_in (rows_named (suc t) rows) q)) (row_other t 0 types q (λ e. omega (arith, at, e))) ∙ rows_found (suc t) k rows q (omega (arith, at)))

-- a name stands for what is kept of it
pub named_at : {A : Type 0} (rows : List (Vec (Option ObjectType) A)) (others : List Named) (q : Name)
    → object_in (rows_named 0 (map (λ (r : Vec (Option ObjectType) A). r.items) rows) ++ others) q ≡ object_at rows (object_in others q) q
named_at {A = A} rows others q =
    let items = map (λ (r : Vec (Option ObjectType) A). r.items) rows in
    named_behind (rows_named 0 items) others q
    ∙ ap (λ (f : Option Object). option_or f (object_in others q)) (rows_found 0 q.thread items q (omega arith) ∙ ap (option_map (λ (ty : ObjectType). own_object ty q)) (sym (by_items None rows q.thread q.number)))

-- where the same is kept, a name stands for the same
pub named_alike : {A : Type 0} (rows more : List (Vec (Option ObjectType) A)) (others left : List Named) (q : Name) → object_at more (object_in left q) q ≡ object_at rows (object_in others q) q
    → object_in (rows_named 0 (map (λ (r : Vec (Option ObjectType) A). r.items) more) ++ left) q ≡ object_in (rows_named 0 (map (λ (r : Vec (Option ObjectType) A). r.items) rows) ++ others) q
named_alike rows more others left q alike = named_at more left q ∙ (alike ∙ sym (named_at rows others q))

-- ---- beside the rows

in_list : (names : List Name) (f : Name → Option Object) (q : Name) → object_in (beside_named f names) q ≡ cond (is_name_listed names q) (f q) None
in_list [] f q = refl
in_list (n ∷ names) f q = go (f n) refl (same_name n q) refl (in_list names f q)
  where
    none : (b : Bool) (x : Option Object) → x ≡ None → cond b x None ≡ x
    none true x e = refl
    none false x e = sym e

    go : (x : Option Object) → f n ≡ x → (t : Bool) → same_name n q ≡ t → object_in (beside_named f names) q ≡ cond (is_name_listed names q) (f q) None
        → object_in (option_map_or (λ (o : Object). record { name = n; object = o } ∷ beside_named f names) x (beside_named f names)) q ≡ cond (t || is_name_listed names q) (f q) None
    go None e true s ih = ih ∙ none (is_name_listed names q) (f q) (ap f (sym (same_name_is n q s)) ∙ e)
    go None e false s ih = ih
    go (Some o) e true s ih = first_named (record { name = n; object = o }) (beside_named f names) q true s ∙ sym (ap f (sym (same_name_is n q s)) ∙ e)
    go (Some o) e false s ih = first_named (record { name = n; object = o }) (beside_named f names) q false s ∙ ih

-- a name stands for its object, where each that has one is listed
pub beside_found : (names : List Name) (f : Name → Option Object) (q : Name) → (is_some (f q) ≡ true → is_name_listed names q ≡ true) → object_in (beside_named f names) q ≡ f q
beside_found names f q listed = in_list names f q ∙ go (f q) refl
  where
    go : (x : Option Object) → f q ≡ x → cond (is_name_listed names q) (f q) None ≡ f q
    go None e = by (is_name_listed names q)
      where
        by : (b : Bool) → cond b (f q) None ≡ f q
        by true = refl
        by false = sym e
    go (Some o) e = ap (λ b. cond b (f q) None) (listed (ap is_some e))

-- one more is listed
pub listed_more : (names : List Name) (n q : Name) → is_name_listed (names ++ n ∷ []) q ≡ (is_name_listed names q || same_name n q)
listed_more [] n q = or_false (same_name n q)
  where
    or_false : (b : Bool) → (b || false) ≡ b
    or_false true = refl
    or_false false = refl
listed_more (m ∷ names) n q = go (same_name m q) (listed_more names n q)
  where
    go : (t : Bool) → is_name_listed (names ++ n ∷ []) q ≡ (is_name_listed names q || same_name n q) → (t || is_name_listed (names ++ n ∷ []) q) ≡ ((t || is_name_listed names q) || same_name n q)
    go true ih = refl
    go false ih = ih

-- and so all that have one are
pub all_listed : (names : List Name) (f g : Name → Option Object) (n : Name) (o : Object) → ((q : Name) → is_some (f q) ≡ true → is_name_listed names q ≡ true) → ((q : Name) → g q ≡ cond (same_name n q) (Some o) (f q))
    → (q : Name) → is_some (g q) ≡ true → is_name_listed (names ++ n ∷ []) q ≡ true
all_listed names f g n o listed put q some = listed_more names n q ∙ go (same_name n q) (is_name_listed names q) refl (sym (ap is_some (put q)) ∙ some)
  where
    go : (t b : Bool) → is_name_listed names q ≡ b → is_some (cond t (Some o) (f q)) ≡ true → (b || t) ≡ true
    go t true e h = refl
    go true false e h = refl
    go false false e h = sym e ∙ listed q h

-- ---- one name more

pub more_named : (ns : List Named) (x : Named) (q : Name) → object_in (ns ++ x ∷ []) q ≡ option_or (object_in ns q) (cond (same_name x.name q) (Some x.object) None)
more_named ns x q = named_behind ns (x ∷ []) q ∙ ap (option_or (object_in ns q)) (first_named x [] q (same_name x.name q) refl)

-- a name that stands for something still does
pub named_stays : (ns : List Named) (x : Named) (q : Name) → is_some (object_in ns x.name) ≡ true → object_in ns q ≡ object_in (ns ++ x ∷ []) q
named_stays ns x q some = go (same_name x.name q) refl ∙ sym (more_named ns x q)
  where
    still : (f : Option Object) → is_some f ≡ true → f ≡ option_or f (Some x.object)
    still None e = cc e
    still (Some o) e = refl

    go : (t : Bool) → same_name x.name q ≡ t → object_in ns q ≡ option_or (object_in ns q) (cond t (Some x.object) None)
    go true e = still (object_in ns q) (ap (λ (n : Name). is_some (object_in ns n)) (sym (same_name_is x.name q e)) ∙ some)
    go false e = sym (or_none (object_in ns q))

-- one that stands for nothing stands for the new object
pub named_new : (ns : List Named) (x : Named) (q : Name) (new : Option Object) → object_in ns x.name ≡ None → new ≡ cond (same_name x.name q) (Some x.object) (object_in ns q) → new ≡ object_in (ns ++ x ∷ []) q
named_new ns x q new none is = is ∙ (go (same_name x.name q) refl ∙ sym (more_named ns x q))
  where
    go : (t : Bool) → same_name x.name q ≡ t → cond t (Some x.object) (object_in ns q) ≡ option_or (object_in ns q) (cond t (Some x.object) None)
    go true e = ap (λ (f : Option Object). option_or f (Some x.object)) (sym (ap (object_in ns) (sym (same_name_is x.name q e)) ∙ none))
    go false e = sym (or_none (object_in ns q))
