-- Values in the places of rows. Source: this project.
use Rattle.std.specs.Prelude.{ℕ, Bool, false, List, Vec, length, nat_lt, slice_get}
use Rattle.std.specs.List.{slice_index_or}
use Rattle.std.specs.Option.{option_map_or}

-- the value in a place of a row: that of an empty place beyond the row's end
abbrev pub cell_in : {X : Type 0} → X → List X → ℕ → X
cell_in empty cells at = slice_index_or cells at empty

-- the value in a place of one of these rows: that of an empty place beyond them
abbrev pub cell : {X A : Type 0} → X → List (Vec X A) → ℕ → ℕ → X
cell empty rows row at = option_map_or (λ r. cell_in empty r.items at) (slice_get rows row) empty

-- there is such a place
abbrev pub has_cell : {X A : Type 0} → List (Vec X A) → ℕ → ℕ → Bool
has_cell rows row at = option_map_or (λ r. nat_lt at (length r.items)) (slice_get rows row) false
