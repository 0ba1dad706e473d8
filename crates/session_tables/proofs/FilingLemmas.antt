-- One value more for an object, in the rows or beside them.
use Rattle.std.proofs.Common.{◌≡◌, ◌≢◌, ◌<◌, ◌≤◌, ℕ, zero, suc, ◌==◌, ◌%◌, ◌/◌, ◌&&◌, Bool, true, false, cond, Option, Some, None, List, [], ◌∷◌, ◌++◌, length, get_or, refl, sym, ap, ◌∙◌, arith}
use Rattle.std.proofs.Math.ListN.{set}
use Rattle.std.proofs.lemmas.Bool.{eqb-true, eq-eqb, ltb-false}
use Rattle.std.proofs.lemmas.Grind.{common_steps}
use Rattle.std.proofs.lemmas.Option.{cond_some, get_or_from_slice_get, same_Some, slice_get_within}
use Rattle.std.specs.Prelude.{◌||◌, is_some, nat_lt, not, option_and_then, slice_get}
use Rattle.std.specs.HashMap.{get}
use Rattle.std.specs.Option.{option_map_or, option_or}
use Rattle.command_tables.specs.declared.types.ObjectType.{ObjectType}
use Rattle.command_tables.specs.Tests.{same_type}
use Rattle.object_model.specs.declared.Object.{Object}
use Rattle.object_model.specs.Objects.{same}
use Rattle.session_tables.specs.declared.object_places.Far.{Far}
use Rattle.session_tables.specs.declared.filed_rows.Filed.{Filed}
use Rattle.session_tables.specs.declared.filed_rows.FiledRow.{FiledRow}
use Rattle.session_tables.specs.declared.object_places.ObjectPlaces.{ObjectPlaces}
use Rattle.session_tables.specs.Dense.{cell_in}
use Rattle.session_tables.specs.FiledRows.{cells_of, filed_cell, has_filed_cell, nothing_filed}
use Rattle.session_tables.specs.Filing.{far_value, filed, filed_for, is_open, is_own, kept, own_index, own_value}
use Rattle.session_tables.proofs.Lists.{none_some}
use Rattle.session_tables.proofs.Objects.{same-true, type_is}

and_true : (a b : Bool) → (a && b) ≡ true → (a ≡ true) × (b ≡ true)
and_true true b e = (refl, e)
and_true false b e = cc e

one_number : (m n : ℕ) → m % 2048 ≡ n % 2048 → m / 2048 ≡ n / 2048 → m ≡ n
one_number m n r a = omega arith

-- a number is known by its row and its place there
pub split_number : (m n : ℕ) → (m % 2048 == n % 2048 && m / 2048 == n / 2048) ≡ (m == n)
split_number m n = go (m == n) refl (m % 2048 == n % 2048 && m / 2048 == n / 2048) refl
  where
    go : (t : Bool) → (m == n) ≡ t → (u : Bool) → (m % 2048 == n % 2048 && m / 2048 == n / 2048) ≡ u → (m % 2048 == n % 2048 && m / 2048 == n / 2048) ≡ (m == n)
    go true e u f =
        let is : m ≡ n = eqb-true m n e in
        ap (λ k. k % 2048 == n % 2048 && k / 2048 == n / 2048) is
        ∙ (ap (λ t. t && n / 2048 == n / 2048) (eq-eqb (n % 2048) (n % 2048) refl) ∙ (eq-eqb (n / 2048) (n / 2048) refl ∙ sym e))
    go false e true f =
        let parts = and_true (m % 2048 == n % 2048) (m / 2048 == n / 2048) f in
        let is : m ≡ n = one_number m n (eqb-true (m % 2048) (n % 2048) parts.0) (eqb-true (m / 2048) (n / 2048) parts.1) in
        f ∙ sym (eq-eqb m n is)
    go false e false f = f ∙ sym e

-- what is filed where it was open is filed for no other type
other_type : {V : Type 0} (f : Filed V) (ty tq : ObjectType) (other : Option V) → is_open f ty ≡ true → same_type ty tq ≡ false → filed f tq other ≡ other
other_type {V = V} f ty tq other free apart = go f.ty free
  where
    go : (t : Option ObjectType) → option_map_or (λ (u : ObjectType). same_type u ty) t true ≡ true → option_or (option_and_then (λ (u : ObjectType). cond (same_type u tq) (Some f.value) None) t) other ≡ other
    go None e = refl
    go (Some u) e = ap (λ t. option_or (cond t (Some f.value) None) other) (ap (λ t. same_type t tq) (type_is u ty e) ∙ apart)

abbrev pub filed_at : {V : Type 0} → Object → V → Filed V
filed_at o value = record { ty = Some o.ty; value = value }

-- a value that is filed where it was open
pub put_near : {V : Type 0} (old new : ℕ → ℕ → Filed V) (o : Object) (v : V) (other : Option V) (q : Object)
    → is_open (old (o.number % 2048) (o.number / 2048)) o.ty ≡ true
    → new (q.number % 2048) (q.number / 2048) ≡ cond (o.number % 2048 == q.number % 2048 && o.number / 2048 == q.number / 2048) (filed_at o v) (old (q.number % 2048) (q.number / 2048))
    → filed (new (q.number % 2048) (q.number / 2048)) q.ty other ≡ cond (same o q) (Some v) (filed (old (q.number % 2048) (q.number / 2048)) q.ty other)
put_near {V = V} old new o v other q free is =
    ap (λ (f : Filed V). filed f q.ty other) (is ∙ ap (λ t. cond t (filed_at o v) (old (q.number % 2048) (q.number / 2048))) (split_number o.number q.number))
    ∙ go (o.number == q.number) refl (same_type o.ty q.ty) refl
  where
    go : (n : Bool) → (o.number == q.number) ≡ n → (t : Bool) → same_type o.ty q.ty ≡ t
        → filed (cond n (filed_at o v) (old (q.number % 2048) (q.number / 2048))) q.ty other ≡ cond (t && n) (Some v) (filed (old (q.number % 2048) (q.number / 2048)) q.ty other)
    go true e true f = ap (λ u. option_or (cond u (Some v) None) other) f
    go true e false f =
        let one : o.number ≡ q.number = eqb-true o.number q.number e in
        ap (λ u. option_or (cond u (Some v) None) other) f
        ∙ sym (other_type (old (q.number % 2048) (q.number / 2048)) o.ty q.ty other (ap (λ n. is_open (old (n % 2048) (n / 2048)) o.ty) (sym one) ∙ free) f)
    go false e true f = refl
    go false e false f = refl

-- a value beside what is filed for another type
pub put_far : {V : Type 0} (f : Object → Filed V) (o : Object) (v : V) (old new : Option V) (q : Object) → is_some (filed_for (f o) o.ty) ≡ false → new ≡ cond (same o q) (Some v) old
    → filed (f q) q.ty new ≡ cond (same o q) (Some v) (filed (f q) q.ty old)
put_far {V = V} f o v old new q taken is = ap (λ (x : Option V). filed (f q) q.ty x) is ∙ go (same o q) refl
  where
    go : (t : Bool) → same o q ≡ t → filed (f q) q.ty (cond t (Some v) old) ≡ cond t (Some v) (filed (f q) q.ty old)
    go true e = ap (λ (u : Option V). option_or u (Some v)) (none_some (filed_for (f q) q.ty) (ap (λ (x : Object). is_some (filed_for (f x) x.ty)) (sym (same-true o q e)) ∙ taken))
    go false e = refl

-- what is filed for the type is open to it, and stands there
pub held_open : {V : Type 0} (empty : V) (rows : List (FiledRow V)) (row at : ℕ) (ty : ObjectType) → is_some (filed_for (filed_cell empty rows row at) ty) ≡ true
    → (is_open (filed_cell empty rows row at) ty ≡ true) × (has_filed_cell rows row at ≡ true)
held_open {V = V} empty rows row at ty e = (open_for (filed_cell empty rows row at) (filed_cell empty rows row at).ty e, there (slice_get rows row) e)
  where
    none : Filed V
    none = nothing_filed empty

    test : (b : Bool) (v : V) → is_some (cond b (Some v) None) ≡ true → b ≡ true
    test true v g = refl
    test false v g = cc g

    open_for : (f : Filed V) (t : Option ObjectType) → is_some (option_and_then (λ (u : ObjectType). cond (same_type u ty) (Some f.value) None) t) ≡ true → option_map_or (λ (u : ObjectType). same_type u ty) t true ≡ true
    open_for f None g = cc g
    open_for f (Some u) g = test (same_type u ty) f.value g

    beyond : (cells : List (Filed V)) → length cells ≤ at → cell_in none cells at ≡ none
    beyond cells past = grind (arith, common_steps)

    within : (cells : List (Filed V)) (b : Bool) → nat_lt at (length cells) ≡ b → is_some (filed_for (cell_in none cells at) ty) ≡ true → b ≡ true
    within cells true f g = refl
    within cells false f g =
        let past : length cells ≤ at = ltb-false at (length cells) f in
        let not_there : false ≡ true = ap (λ (x : Filed V). is_some (filed_for x ty)) (sym (beyond cells past)) ∙ g in
        not_there

    there : (r : Option (FiledRow V)) → is_some (filed_for (option_map_or (λ (v : FiledRow V). cell_in none (cells_of v) at) r none) ty) ≡ true → option_map_or (λ (v : FiledRow V). nat_lt at (length (cells_of v))) r false ≡ true
    there None g = cc g
    there (Some v) g = within (cells_of v) (nat_lt at (length (cells_of v))) refl g

-- an object without a value has none filed for its type
pub unkept_free : {V : Type 0} (f : Filed V) (ty : ObjectType) (other : Option V) → is_some (filed f ty other) ≡ false → is_some (filed_for f ty) ≡ false
unkept_free {V = V} f ty other e = go (filed_for f ty) e
  where
    go : (x : Option V) → is_some (option_or x other) ≡ false → is_some x ≡ false
    go None g = refl
    go (Some v) g = g

-- where a value doesn't go beside the rows it goes where it may, and takes no memory where there is room
pub not_far : (free there room : Bool) → (not free || (not there && room)) ≡ false → (free ≡ true) × (room ≡ true → there ≡ true)
not_far true true room e = (refl, λ r. refl)
not_far true false room e = (refl, λ r. let none : true ≡ false = sym r ∙ e in cc none)
not_far false there room e = (cc e, λ r. cc e)

-- ---- beside the rows

-- an index that leads to an object's own entry is the one that is known for it
own_found : {V : Type 0} (far : List (Far V)) (o : Object) (at : Option ℕ) (i : ℕ) → own_index far o at ≡ Some i → (at ≡ Some i) × (is_own far o i ≡ true)
own_found {V = V} far o None i e = cc e
own_found {V = V} far o (Some j) i e =
    let both = cond_some (is_own far o j) j i e in
    (ap (λ (k : ℕ). Some k) both.1, ap (is_own far o) (sym both.1) ∙ both.0)

own_entry : {V : Type 0} (far : List (Far V)) (o : Object) (i : ℕ) → is_own far o i ≡ true → (f : Far V) × (slice_get far i ≡ Some f) × (same f.object o ≡ true)
own_entry {V = V} far o i e = go (slice_get far i) refl e
  where
    go : (x : Option (Far V)) → slice_get far i ≡ x → option_map_or (λ (f : Far V). same f.object o) x false ≡ true → (f : Far V) × (slice_get far i ≡ Some f) × (same f.object o ≡ true)
    go None h k = cc k
    go (Some f) h k = (f, h, k)

-- so it is where the test was made
pub own_there : {V : Type 0} (far : List (Far V)) (o : Object) (at : Option ℕ) (i : ℕ) (t : Bool) → Some i ≡ at → t ≡ is_own far o i → t ≡ true → Some i ≡ own_index far o at
own_there {V = V} far o at i t known test so = sym (ap (own_index far o) (sym known) ∙ ap (λ b. cond b (Some i) None) (sym test ∙ so))

pub own_within : {V : Type 0} (far : List (Far V)) (o : Object) (i : ℕ) (t : Bool) → t ≡ is_own far o i → t ≡ true → i < length far
own_within {V = V} far o i t test so = let f = own_entry far o i (sym test ∙ so) in slice_get_within far i f.0 f.1

pub own_missing : {V : Type 0} (far : List (Far V)) (o : Object) (at : Option ℕ) (i : ℕ) (t : Bool) → Some i ≡ at → t ≡ is_own far o i → t ≡ false → None ≡ own_index far o at
own_missing {V = V} far o at i t known test so = sym (ap (own_index far o) (sym known) ∙ ap (λ b. cond b (Some i) None) (sym test ∙ so))

-- the place in an object's own entry
pub far_read : {V : Type 0} (far : List (Far V)) (o : Object) (at : Option ℕ) (i : ℕ) (f : Far V) → Some i ≡ own_index far o at → f ≡ get_or far i f → Some f.value ≡ far_value far o at
far_read {V = V} far o at i f known is =
    let own = own_found far o at i (sym known) in
    let e = own_entry far o i own.1 in
    let one : f ≡ e.0 = is ∙ get_or_from_slice_get far i e.0 f e.1 in
    let there : slice_get far i ≡ Some f = e.1 ∙ ap (λ (g : Far V). Some g) (sym one) in
    sym (ap (far_value far o) own.0
    ∙ (ap (λ (x : Option (Far V)). option_and_then (λ (g : Far V). cond (same g.object o) (Some g.value) None) x) there ∙ ap (λ b. cond b (Some f.value) None) (ap (λ (g : Far V). same g.object o) one ∙ e.2)))

-- an object without an entry of its own has no place there
pub far_none : {V : Type 0} (far : List (Far V)) (o : Object) (at : Option ℕ) → None ≡ own_index far o at → None ≡ far_value far o at
far_none {V = V} far o None e = refl
far_none {V = V} far o (Some i) e = go (slice_get far i) e
  where
    by : (f : Far V) (b : Bool) → None ≡ cond b (Some i) None → None ≡ cond b (Some f.value) None
    by f true h = cc h
    by f false h = refl

    go : (x : Option (Far V)) → None ≡ cond (option_map_or (λ (f : Far V). same f.object o) x false) (Some i) None → None ≡ option_and_then (λ (g : Far V). cond (same g.object o) (Some g.value) None) x
    go None h = refl
    go (Some f) h = by f (same f.object o) h

set_here : {X : Type 0} (xs : List X) (i : ℕ) (x : X) → i < length xs → slice_get (set xs i x) i ≡ Some x
set_here [] i x less = absurd (omega (arith, less))
set_here (y ∷ xs) zero x less = refl
set_here (y ∷ xs) (suc i) x less = set_here xs i x (omega (arith, less))

set_beside : {X : Type 0} (xs : List X) (i j : ℕ) (x : X) → j ≢ i → slice_get (set xs i x) j ≡ slice_get xs j
set_beside [] i j x apart = refl
set_beside (y ∷ xs) zero zero x apart = absurd (apart refl)
set_beside (y ∷ xs) zero (suc j) x apart = refl
set_beside (y ∷ xs) (suc i) zero x apart = refl
set_beside (y ∷ xs) (suc i) (suc j) x apart = set_beside xs i j x (λ e. apart (ap (λ (n : ℕ). suc n) e))

own_read : {V : Type 0} (far : List (Far V)) (q : Object) (i : ℕ) (f : Far V) → slice_get far i ≡ Some f → own_value far q i ≡ cond (same f.object q) (Some f.value) None
own_read {V = V} far q i f there = ap (λ (x : Option (Far V)). option_and_then (λ (g : Far V). cond (same g.object q) (Some g.value) None) x) there

twice : {V : Type 0} (t : Bool) (v w : V) → cond t (Some v) None ≡ cond t (Some v) (cond t (Some w) None)
twice {V = V} true v w = refl
twice {V = V} false v w = refl

-- another place in an object's own entry
pub far_set : {V : Type 0} (far more : List (Far V)) (at : Object → Option ℕ) (o : Object) (i : ℕ) (v : V) (f : Far V) → Some i ≡ own_index far o (at o) → f ≡ get_or far i f → more ≡ set far i (record f { value = v }) → (q : Object)
    → far_value more q (at q) ≡ cond (same o q) (Some v) (far_value far q (at q))
far_set {V = V} far more at o i v f known is put q = go (at q) refl (same o q) refl
  where
    own : (at o ≡ Some i) × (is_own far o i ≡ true)
    own = own_found far o (at o) i (sym known)

    entry : (g : Far V) × (slice_get far i ≡ Some g) × (same g.object o ≡ true)
    entry = own_entry far o i own.1

    one : f ≡ entry.0
    one = is ∙ get_or_from_slice_get far i entry.0 f entry.1

    there : slice_get far i ≡ Some f
    there = entry.1 ∙ ap (λ (g : Far V). Some g) (sym one)

    mine : f.object ≡ o
    mine = same-true f.object o (ap (λ (g : Far V). same g.object o) one ∙ entry.2)

    written : slice_get more i ≡ Some (record f { value = v })
    written = ap (λ (xs : List (Far V)). slice_get xs i) put ∙ set_here far i (record f { value = v }) (slice_get_within far i entry.0 entry.1)

    go : (x : Option ℕ) → at q ≡ x → (t : Bool) → same o q ≡ t → far_value more q x ≡ cond t (Some v) (far_value far q x)
    go None h true s = let none : Some i ≡ None = sym own.0 ∙ (ap at (same-true o q s) ∙ h) in cc none
    go None h false s = refl
    go (Some j) h t s = by (j == i) refl
      where
        test : same f.object q ≡ t
        test = ap (λ (x : Object). same x q) mine ∙ s

        apart_same : j ≢ i → (u : Bool) → same o q ≡ u → own_value far q j ≡ cond u (Some v) (own_value far q j)
        apart_same apart true k = let one_index : Some i ≡ Some j = sym own.0 ∙ (ap at (same-true o q k) ∙ h) in absurd (apart (sym (same_Some i j one_index)))
        apart_same apart false k = refl

        by : (b : Bool) → (j == i) ≡ b → own_value more q j ≡ cond t (Some v) (own_value far q j)
        by true k =
            let is_i : j ≡ i = eqb-true j i k in
            ap (own_value more q) is_i
            ∙ (own_read more q i (record f { value = v }) written
            ∙ (ap (λ b. cond b (Some v) None) test
            ∙ (twice t v f.value ∙ ap (λ (x : Option V). cond t (Some v) x) (ap (λ b. cond b (Some f.value) None) (sym test) ∙ (sym (own_read far q i f there) ∙ ap (own_value far q) (sym is_i))))))
        by false k =
            let apart : j ≢ i = (λ e. let so : (j == i) ≡ true = eq-eqb j i e in cc) in
            ap (λ (xs : List (Far V)). own_value xs q j) put
            ∙ (ap (λ (x : Option (Far V)). option_and_then (λ (g : Far V). cond (same g.object q) (Some g.value) None) x) (set_beside far i j (record f { value = v }) apart) ∙ apart_same apart t s)

added_here : {X : Type 0} (xs : List X) (x : X) → slice_get (xs ++ x ∷ []) (length xs) ≡ Some x
added_here [] x = refl
added_here (y ∷ xs) x = added_here xs x

added_other : {V : Type 0} (far : List (Far V)) (e : Far V) (q : Object) (j : ℕ) → same e.object q ≡ false → own_value (far ++ e ∷ []) q j ≡ own_value far q j
added_other {V = V} [] e q zero s = ap (λ b. cond b (Some e.value) None) s
added_other {V = V} [] e q (suc j) s = refl
added_other {V = V} (f ∷ far) e q zero s = refl
added_other {V = V} (f ∷ far) e q (suc j) s = added_other far e q j s

-- an entry behind the others, and its index
pub far_added : {V : Type 0} (far more : List (Far V)) (o : Object) (v : V) (n : ℕ) (old new : Option ℕ) (q : Object) → more ≡ far ++ record { object = o; value = v } ∷ [] → n ≡ length far → new ≡ cond (same o q) (Some n) old
    → far_value more q new ≡ cond (same o q) (Some v) (far_value far q old)
far_added {V = V} far more o v n old new q put last index = ap (far_value more q) index ∙ go (same o q) refl
  where
    other : (x : Option ℕ) → same o q ≡ false → far_value more q x ≡ far_value far q x
    other None s = refl
    other (Some j) s = ap (λ (xs : List (Far V)). own_value xs q j) put ∙ added_other far (record { object = o; value = v }) q j s

    go : (t : Bool) → same o q ≡ t → far_value more q (cond t (Some n) old) ≡ cond t (Some v) (far_value far q old)
    go true s =
        ap (own_value more q) last
        ∙ (ap (λ (xs : List (Far V)). own_value xs q (length far)) put
        ∙ (ap (λ (x : Option (Far V)). option_and_then (λ (g : Far V). cond (same g.object q) (Some g.value) None) x) (added_here far (record { object = o; value = v })) ∙ ap (λ b. cond b (Some v) None) s))
    go false s = other old s

-- what stands in the same rows, and else in the same place beside them, is kept the same
pub kept_same : {V : Type 0} (m n : ObjectPlaces V) → m.empty ≡ n.empty → ((empty : V) (row at : ℕ) → filed_cell empty n.rows.items row at ≡ filed_cell empty m.rows.items row at) → ((q : Object) → get same n.others q ≡ get same m.others q) → n.far.items ≡ m.far.items → (o : Object)
    → kept n o ≡ kept m o
kept_same {V = V} m n none rows others far o =
    ap (λ (e : V). filed (filed_cell e n.rows.items (o.number % 2048) (o.number / 2048)) o.ty (far_value n.far.items o (get same n.others o))) (sym none)
    ∙ (ap (λ (f : Filed V). filed f o.ty (far_value n.far.items o (get same n.others o))) (rows m.empty (o.number % 2048) (o.number / 2048))
    ∙ ap (λ (x : Option V). filed (filed_cell m.empty m.rows.items (o.number % 2048) (o.number / 2048)) o.ty x)
    (ap (λ (xs : List (Far V)). far_value xs o (get same n.others o)) far ∙ ap (far_value m.far.items o) (others o)))
