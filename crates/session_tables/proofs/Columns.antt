-- Two columns as the places of a row.
use Rattle.std.proofs.Common.{◌≡◌, ◌≢◌, ◌∙◌, ◌<◌, ◌≤◌, ◌==◌, ℕ, zero, suc, Bool, true, false, cond, Option, Some, None, List, [], ◌∷◌, get_or, length, map, take, min, refl, sym, ap, subst, arith}
use Rattle.std.proofs.Math.ListN.{set}
use Rattle.std.proofs.lemmas.Bool.{eq-eqb, eqb-true}
use Rattle.std.proofs.lemmas.Grind.{get_or-set_at}
use Rattle.std.proofs.lemmas.List.{get_or-set_other}
use Rattle.std.specs.Prelude.{slice_get}
use Rattle.std.specs.Option.{option_map_or}
use Rattle.command_tables.specs.declared.types.ObjectType.{ObjectType}
use Rattle.session_tables.specs.declared.filed_rows.Filed.{Filed}
use Rattle.session_tables.specs.declared.filed_rows.FiledRow.{FiledRow}
use Rattle.session_tables.specs.Dense.{cell_in}
use Rattle.session_tables.specs.FiledRows.{cells_of, cells_zip, filed_cell, nothing_filed}

-- a place that one of the columns doesn't have
pub no_type : {V : Type 0} (ts : List (Option ObjectType)) (vs : List V) (n : ℕ) (d : Filed V) → slice_get ts n ≡ None → get_or (cells_zip ts vs) n d ≡ d
no_type [] vs n d e = refl
no_type (t ∷ ts) [] n d e = refl
no_type (t ∷ ts) (v ∷ vs) zero d e = cc e
no_type (t ∷ ts) (v ∷ vs) (suc n) d e = no_type ts vs n d e

pub no_value : {V : Type 0} (ts : List (Option ObjectType)) (vs : List V) (n : ℕ) (d : Filed V) → slice_get vs n ≡ None → get_or (cells_zip ts vs) n d ≡ d
no_value [] vs n d e = refl
no_value (t ∷ ts) [] n d e = refl
no_value (t ∷ ts) (v ∷ vs) zero d e = cc e
no_value (t ∷ ts) (v ∷ vs) (suc n) d e = no_value ts vs n d e

-- one that both have
pub both_there : {V : Type 0} (ts : List (Option ObjectType)) (vs : List V) (n : ℕ) (d : Filed V) (t : Option ObjectType) (v : V) → slice_get ts n ≡ Some t → slice_get vs n ≡ Some v → get_or (cells_zip ts vs) n d ≡ record { ty = t; value = v }
both_there [] vs n d t v e f = cc e
both_there (u ∷ ts) [] n d t v e f = cc f
both_there {V = V} (u ∷ ts) (w ∷ vs) zero d t v e f =
    let ty : u ≡ t = cc e in
    let value : w ≡ v = cc f in
    λ i. record { ty = ty i; value = value i }
both_there (u ∷ ts) (w ∷ vs) (suc n) d t v e f = both_there ts vs n d t v e f

-- as many as the shorter has
pub zip_length : {V : Type 0} (ts : List (Option ObjectType)) (vs : List V) → length (cells_zip ts vs) ≡ min (length ts) (length vs)
zip_length [] vs = omega arith
zip_length (t ∷ ts) [] = omega arith
zip_length (t ∷ ts) (v ∷ vs) = let rest = zip_length ts vs in omega arith

-- columns that are cut where the shorter ends
pub zip_take : {V : Type 0} (n : ℕ) (ts : List (Option ObjectType)) (vs : List V) → length (cells_zip ts vs) ≤ n → cells_zip (take n ts) (take n vs) ≡ cells_zip ts vs
zip_take zero [] vs e = refl
zip_take (suc n) [] vs e = refl
zip_take zero (t ∷ ts) [] e = refl
zip_take (suc n) (t ∷ ts) [] e = refl
zip_take zero (t ∷ ts) (v ∷ vs) e = absurd (omega (arith, e))
zip_take {V = V} (suc n) (t ∷ ts) (v ∷ vs) e = ap (λ (cells : List (Filed V)). record { ty = t; value = v } ∷ cells) (zip_take n ts vs (omega (arith, e)))

-- a place written in both
pub zip_set : {V : Type 0} (ts : List (Option ObjectType)) (vs : List V) (i : ℕ) (f : Filed V) → cells_zip (set ts i f.ty) (set vs i f.value) ≡ set (cells_zip ts vs) i f
zip_set [] vs i f = refl
zip_set (t ∷ ts) [] zero f = refl
zip_set (t ∷ ts) [] (suc i) f = refl
zip_set (t ∷ ts) (v ∷ vs) zero f = refl
zip_set {V = V} (t ∷ ts) (v ∷ vs) (suc i) f = ap (λ (cells : List (Filed V)). record { ty = t; value = v } ∷ cells) (zip_set ts vs i f)

-- a place of columns of one length
pub even_cell : {V : Type 0} (ts : List (Option ObjectType)) (vs : List V) (n : ℕ) (e : V) → length ts ≡ length vs → get_or (cells_zip ts vs) n (nothing_filed e) ≡ record { ty = get_or ts n None; value = get_or vs n e }
even_cell [] [] n e same = refl
even_cell [] (v ∷ vs) n e same = absurd (omega (arith, same))
even_cell (t ∷ ts) [] n e same = absurd (omega (arith, same))
even_cell (t ∷ ts) (v ∷ vs) zero e same = refl
even_cell (t ∷ ts) (v ∷ vs) (suc n) e same = even_cell ts vs n e (omega (arith, same))

-- a value and its type that were put into columns of one length, which are of one length again
pub even_put : {V : Type 0} (ts us : List (Option ObjectType)) (vs ws : List V) (at : ℕ) (f : Filed V) (e : V) → length ts ≡ length vs → length us ≡ length ws
    → ((n : ℕ) → get_or us n None ≡ cond (at == n) f.ty (get_or ts n None)) → ((n : ℕ) → get_or ws n e ≡ cond (at == n) f.value (get_or vs n e))
    → (n : ℕ) → get_or (cells_zip us ws) n (nothing_filed e) ≡ cond (at == n) f (get_or (cells_zip ts vs) n (nothing_filed e))
even_put {V = V} ts us vs ws at f e old new types values n =
    even_cell us ws n e new
    ∙ (λ i. record { ty = types n i; value = values n i })
    ∙ chosen (at == n)
    ∙ ap (λ (g : Filed V). cond (at == n) f g) (sym (even_cell ts vs n e old))
  where
    chosen : (b : Bool) → ◌≡◌ {A = Filed V} (record { ty = cond b f.ty (get_or ts n None); value = cond b f.value (get_or vs n e) }) (cond b f (record { ty = get_or ts n None; value = get_or vs n e }))
    chosen true = refl
    chosen false = refl

-- where the types alone were made longer no place shows it
pub zip_longer : {V : Type 0} (ts us : List (Option ObjectType)) (vs : List V) → length vs ≤ length ts → length vs ≤ length us → ((n : ℕ) → n < length vs → get_or us n None ≡ get_or ts n None) → cells_zip us vs ≡ cells_zip ts vs
zip_longer [] [] vs old new same = refl
zip_longer [] (u ∷ us) [] old new same = refl
zip_longer [] (u ∷ us) (v ∷ vs) old new same = absurd (omega (arith, old))
zip_longer (t ∷ ts) [] [] old new same = refl
zip_longer (t ∷ ts) [] (v ∷ vs) old new same = absurd (omega (arith, new))
zip_longer (t ∷ ts) (u ∷ us) [] old new same = refl
zip_longer {V = V} (t ∷ ts) (u ∷ us) (v ∷ vs) old new same =
    let first : u ≡ t = same 0 (omega arith) in
    let rest : cells_zip us vs ≡ cells_zip ts vs = zip_longer ts us vs (omega (arith, old)) (omega (arith, new)) (λ n less. same (suc n) (omega (arith, less))) in
    λ i. record { ty = first i; value = v } ∷ rest i

-- so it is where a value's own place was to be behind all others
pub short_put : {V : Type 0} (ts us : List (Option ObjectType)) (vs : List V) (at : ℕ) (t : Option ObjectType) → length ts ≡ length vs → length vs ≤ at → length vs ≤ length us
    → ((n : ℕ) → get_or us n None ≡ cond (at == n) t (get_or ts n None)) → cells_zip us vs ≡ cells_zip ts vs
short_put {V = V} ts us vs at t old past new types = zip_longer ts us vs (omega arith) new (λ n less. types n ∙ ap (λ b. cond b t (get_or ts n None)) (other n less (at == n) refl))
  where
    other : (n : ℕ) → n < length vs → (b : Bool) → (at == n) ≡ b → (at == n) ≡ false
    other n less true e = let is : at ≡ n = eqb-true at n e in absurd (omega arith)
    other n less false e = e

-- a place that was written
pub put_here : {X : Type 0} (xs : List X) (at : ℕ) (x d : X) (n : ℕ) → at < length xs → get_or (set xs at x) n d ≡ cond (at == n) x (get_or xs n d)
put_here {X = X} xs at x d n there = go (at == n) refl
  where
    go : (b : Bool) → (at == n) ≡ b → get_or (set xs at x) n d ≡ cond b x (get_or xs n d)
    go true e = let is : at ≡ n = eqb-true at n e in get_or-set_at xs at n x d (sym is) there
    go false e = let apart : n ≢ at = (λ is. let so : (at == n) ≡ true = eq-eqb at n (sym is) in cc) in get_or-set_other xs at n x d apart

-- a place by the cells of the rows
pub by_cells : {V : Type 0} (e : V) (rows : List (FiledRow V)) (row at : ℕ)
    → filed_cell e rows row at ≡ option_map_or (λ (cells : List (Filed V)). cell_in (nothing_filed e) cells at) (slice_get (map (λ (r : FiledRow V). cells_of r) rows) row) (nothing_filed e)
by_cells e [] row at = refl
by_cells e (r ∷ rows) zero at = refl
by_cells e (r ∷ rows) (suc row) at = by_cells e rows row at

-- rows with the same cells have the same in their places
pub filed_same : {V : Type 0} (xs ys : List (FiledRow V)) → map (λ (r : FiledRow V). cells_of r) xs ≡ map (λ (r : FiledRow V). cells_of r) ys → (e : V) (row at : ℕ) → filed_cell e xs row at ≡ filed_cell e ys row at
filed_same {V = V} xs ys same e row at =
    by_cells e xs row at
    ∙ (ap (λ (rs : List (List (Filed V))). option_map_or (λ (cells : List (Filed V)). cell_in (nothing_filed e) cells at) (slice_get rs row) (nothing_filed e)) same ∙ sym (by_cells e ys row at))

-- the column of types with one more, by the slots that were put
pub types_put : (xs ys : List (Option ObjectType)) (at : ℕ) (new gap t : Option ObjectType) → new ≡ t → gap ≡ None → ((n : ℕ) → cell_in gap ys n ≡ cond (at == n) new (cell_in gap xs n))
    → (n : ℕ) → cell_in None ys n ≡ cond (at == n) t (cell_in None xs n)
types_put xs ys at new gap t is empty put =
    subst (λ (x : Option ObjectType). (n : ℕ) → cell_in None ys n ≡ cond (at == n) x (cell_in None xs n)) is
    (subst (λ (e : Option ObjectType). (n : ℕ) → cell_in e ys n ≡ cond (at == n) new (cell_in e xs n)) empty put)
