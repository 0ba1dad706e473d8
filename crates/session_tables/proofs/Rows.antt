-- Rows that hold the same values.
use Rattle.std.proofs.Common.{◌≡◌, ◌∙◌, ◌≤◌, ◌++◌, ℕ, zero, suc, List, [], ◌∷◌, drop, length, map, refl, sym, ap}
use Rattle.std.specs.Prelude.{Vec, slice_get}
use Rattle.std.specs.Option.{option_map_or}
use Rattle.std.proofs.lemmas.List.{append-nil, drop_all}
use Rattle.session_tables.specs.Dense.{cell, cell_in}

-- a place by the items of the rows
pub by_items : {X A : Type 0} (empty : X) (rows : List (Vec X A)) (row at : ℕ) → cell empty rows row at ≡ option_map_or (λ (xs : List X). cell_in empty xs at) (slice_get (map (λ (r : Vec X A). r.items) rows) row) empty
by_items empty [] row at = refl
by_items empty (r ∷ rows) zero at = refl
by_items empty (r ∷ rows) (suc row) at = by_items empty rows row at

-- rows that were copied up to the last have the same items
pub all_copied : {X A : Type 0} (copies rows : List (Vec X A)) (n : ℕ) → length rows ≤ n
    → map (λ (r : Vec X A). r.items) copies ++ map (λ (r : Vec X A). r.items) (drop n rows) ≡ map (λ (r : Vec X A). r.items) rows → map (λ (r : Vec X A). r.items) copies ≡ map (λ (r : Vec X A). r.items) rows
all_copied {X = X} {A = A} copies rows n all so =
    let items : List (Vec X A) → List (List X) = map (λ (r : Vec X A). r.items) in
    sym (append-nil (items copies)) ∙ (ap (λ (rest : List (Vec X A)). items copies ++ items rest) (sym (drop_all n rows all)) ∙ so)
