-- All objects for which a value is kept.
use Rattle.std.proofs.Common.{◌≡◌, ◌<◌, ◌+◌, ◌*◌, ◌%◌, ◌/◌, ◌||◌, ℕ, zero, suc, Bool, true, false, cond, Option, Some, None, List, [], ◌∷◌, ◌++◌, map, refl, sym, ap, ◌∙◌, arith}
use Rattle.std.specs.HashMap.{get}
use Rattle.std.specs.Option.{option_map_or, option_or}
use Rattle.std.specs.Prelude.{is_some, option_and_then, slice_get, take}
use Rattle.command_tables.specs.declared.types.ObjectType.{ObjectType}
use Rattle.command_tables.specs.Tests.{same_type}
use Rattle.object_model.specs.declared.Object.{Object}
use Rattle.object_model.specs.Objects.{is_in, same}
use Rattle.session_tables.specs.declared.object_places.Far.{Far}
use Rattle.session_tables.specs.declared.filed_rows.Filed.{Filed}
use Rattle.session_tables.specs.declared.object_places.ObjectPlaces.{ObjectPlaces}
use Rattle.session_tables.specs.Dense.{cell_in}
use Rattle.session_tables.specs.FiledRows.{cells_of, filed_cell, nothing_filed}
use Rattle.session_tables.specs.Filing.{far_value, filed_for, kept, objects_with_values, own_value, row_objects, rows_objects}
use Rattle.session_tables.proofs.Objects.{list_any-append, same_self, type_is}
use Rattle.session_tables.proofs.Columns.{by_cells}

-- what stands in the same rows and beside them are the same objects
pub objects_same : {V : Type 0} (m n : ObjectPlaces V) → map cells_of n.rows.items ≡ map cells_of m.rows.items → n.far.items ≡ m.far.items → objects_with_values n ≡ objects_with_values m
objects_same {V = V} m n rows far = λ i. rows_objects 0 (take 2048 (rows i)) ++ map (λ (f : Far V). f.object) (far i)

either : (a b : Bool) → b ≡ true → (a || b) ≡ true
either true b e = refl
either false b e = e

first : (a b : Bool) → a ≡ true → (a || b) ≡ true
first true b e = refl
first false b e = cc e

-- an object is in its row
in_row : {V : Type 0} (empty : V) (r n k : ℕ) (cells : List (Filed V)) (o : Object) → o.number ≡ (n + k) * 2048 + r → is_some (filed_for (cell_in (nothing_filed empty) cells k) o.ty) ≡ true → is_in (row_objects r n cells) o ≡ true
in_row empty r n k [] o number there = cc there
in_row {V = V} empty r n zero (f ∷ cells) o number there = go f.ty there
  where
    test : (b : Bool) (v : V) → is_some (cond b (Some v) None) ≡ true → b ≡ true
    test true v g = refl
    test false v g = cc g

    go : (t : Option ObjectType) → is_some (option_and_then (λ (u : ObjectType). cond (same_type u o.ty) (Some f.value) None) t) ≡ true
        → is_in (option_map_or (λ (u : ObjectType). record { ty = u; number = n * 2048 + r } ∷ row_objects r (suc n) cells) t (row_objects r (suc n) cells)) o ≡ true
    go None g = cc g
    go (Some u) g =
        let ty : u ≡ o.ty = type_is u o.ty (test (same_type u o.ty) f.value g) in
        let at : n * 2048 + r ≡ o.number = sym (number ∙ ap (λ (m : ℕ). m * 2048 + r) (omega arith)) in
        let is : record { ty = u; number = n * 2048 + r } ≡ o = λ i. record { ty = ty i; number = at i } in
        first (same (record { ty = u; number = n * 2048 + r }) o) (is_in (row_objects r (suc n) cells) o) (ap (λ (x : Object). same x o) is ∙ same_self o)
in_row {V = V} empty r n (suc k) (f ∷ cells) o number there = go (in_row empty r (suc n) k cells o (number ∙ ap (λ (m : ℕ). m * 2048 + r) (omega arith)) there) f.ty
  where
    go : is_in (row_objects r (suc n) cells) o ≡ true → (t : Option ObjectType) → is_in (option_map_or (λ (u : ObjectType). record { ty = u; number = n * 2048 + r } ∷ row_objects r (suc n) cells) t (row_objects r (suc n) cells)) o ≡ true
    go behind None = behind
    go behind (Some u) = either (same (record { ty = u; number = n * 2048 + r }) o) (is_in (row_objects r (suc n) cells) o) behind

-- so it is in all rows
in_rows : {V : Type 0} (empty : V) (t k n : ℕ) (rows : List (List (Filed V))) (o : Object) → o.number ≡ n * 2048 + (t + k)
    → is_some (filed_for (option_map_or (λ (cells : List (Filed V)). cell_in (nothing_filed empty) cells n) (slice_get rows k) (nothing_filed empty)) o.ty) ≡ true → is_in (rows_objects t rows) o ≡ true
in_rows empty t k n [] o number there = cc there
in_rows empty t zero n (cells ∷ rows) o number there =
    list_any-append (λ x. same x o) (row_objects t 0 cells) (rows_objects (suc t) rows)
    ∙ first (is_in (row_objects t 0 cells) o) (is_in (rows_objects (suc t) rows) o) (in_row empty t 0 n cells o (omega (arith, number)) there)
in_rows empty t (suc k) n (cells ∷ rows) o number there =
    list_any-append (λ x. same x o) (row_objects t 0 cells) (rows_objects (suc t) rows)
    ∙ either (is_in (row_objects t 0 cells) o) (is_in (rows_objects (suc t) rows) o) (in_rows empty (suc t) k n rows o (number ∙ ap (λ (m : ℕ). n * 2048 + m) (omega arith)) there)

taken_there : {X : Type 0} (n k : ℕ) (xs : List X) → k < n → slice_get (take n xs) k ≡ slice_get xs k
taken_there zero k xs less = absurd (omega (arith, less))
taken_there (suc n) k [] less = refl
taken_there (suc n) zero (x ∷ xs) less = refl
taken_there (suc n) (suc k) (x ∷ xs) less = taken_there n k xs (omega (arith, less))

-- an object with an entry of its own is among those beside the rows
in_far : {V : Type 0} (far : List (Far V)) (o : Object) (i : ℕ) → is_some (own_value far o i) ≡ true → is_in (map (λ (f : Far V). f.object) far) o ≡ true
in_far [] o i there = cc there
in_far {V = V} (f ∷ far) o zero there = first (same f.object o) (is_in (map (λ (x : Far V). x.object) far) o) (test (same f.object o) f.value there)
  where
    test : (b : Bool) (v : V) → is_some (cond b (Some v) None) ≡ true → b ≡ true
    test true v g = refl
    test false v g = cc g
in_far {V = V} (f ∷ far) o (suc i) there = either (same f.object o) (is_in (map (λ (x : Far V). x.object) far) o) (in_far far o i there)

in_far_at : {V : Type 0} (far : List (Far V)) (o : Object) (at : Option ℕ) → is_some (far_value far o at) ≡ true → is_in (map (λ (f : Far V). f.object) far) o ≡ true
in_far_at far o None there = cc there
in_far_at far o (Some i) there = in_far far o i there

-- every object for which a value is kept is among them
pub kept_among : {V : Type 0} (m : ObjectPlaces V) (o : Object) → is_some (kept m o) ≡ true → is_in (objects_with_values m) o ≡ true
kept_among {V = V} m o some = list_any-append (λ x. same x o) near beside ∙ go (is_some (filed_for here o.ty)) refl
  where
    items : List (List (Filed V))
    items = map cells_of m.rows.items

    near : List Object
    near = rows_objects 0 (take 2048 items)

    beside : List Object
    beside = map (λ (f : Far V). f.object) m.far.items

    here : Filed V
    here = filed_cell m.empty m.rows.items (o.number % 2048) (o.number / 2048)

    here_is : here ≡ option_map_or (λ (cells : List (Filed V)). cell_in (nothing_filed m.empty) cells (o.number / 2048)) (slice_get (take 2048 items) (o.number % 2048)) (nothing_filed m.empty)
    here_is =
        by_cells m.empty m.rows.items (o.number % 2048) (o.number / 2048)
        ∙ ap (λ (x : Option (List (Filed V))). option_map_or (λ (cells : List (Filed V)). cell_in (nothing_filed m.empty) cells (o.number / 2048)) x (nothing_filed m.empty)) (sym (taken_there 2048 (o.number % 2048) items (omega arith)))

    number : o.number ≡ (o.number / 2048) * 2048 + (0 + o.number % 2048)
    number = omega arith

    other : (x : Option V) → is_some x ≡ false → is_some (option_or x (far_value m.far.items o (get same m.others o))) ≡ true → is_some (far_value m.far.items o (get same m.others o)) ≡ true
    other None e h = h
    other (Some v) e h = cc e

    go : (t : Bool) → is_some (filed_for here o.ty) ≡ t → (is_in near o || is_in beside o) ≡ true
    go true e = first (is_in near o) (is_in beside o) (in_rows m.empty 0 (o.number % 2048) (o.number / 2048) (take 2048 items) o number (ap (λ (f : Filed V). is_some (filed_for f o.ty)) (sym here_is) ∙ e))
    go false e = either (is_in near o) (is_in beside o) (in_far_at m.far.items o (get same m.others o) (other (filed_for here o.ty) e some))
