-- What is filed in the places of rows that are kept as two columns. Source: this project.
use Rattle.std.specs.Prelude.{ℕ, Bool, false, List, [], ◌∷◌, Option, None, length, nat_lt, slice_get}
use Rattle.std.specs.Option.{option_map_or}
use Rattle.command_tables.specs.declared.types.ObjectType.{ObjectType}
use Rattle.session_tables.specs.declared.filed_rows.Filed.{Filed}
use Rattle.session_tables.specs.declared.filed_rows.FiledRow.{FiledRow}
use Rattle.session_tables.specs.Dense.{cell_in}

-- nothing is filed
abbrev pub nothing_filed : {V : Type 0} → V → Filed V
nothing_filed empty = record { ty = None; value = empty }

-- the places of two columns: as many as the shorter has
abbrev pub cells_zip : {V : Type 0} → List (Option ObjectType) → List V → List (Filed V)
cells_zip [] vs = []
cells_zip (t ∷ ts) [] = []
cells_zip (t ∷ ts) (v ∷ vs) = record { ty = t; value = v } ∷ cells_zip ts vs

-- the places of a row
abbrev pub cells_of : {V : Type 0} → FiledRow V → List (Filed V)
cells_of row = cells_zip row.types.items row.values.items

-- what is filed in a place of one of these rows: nothing beyond them
abbrev pub filed_cell : {V : Type 0} → V → List (FiledRow V) → ℕ → ℕ → Filed V
filed_cell {V = V} empty rows row at = option_map_or (λ (r : FiledRow V). cell_in (nothing_filed empty) (cells_of r) at) (slice_get rows row) (nothing_filed empty)

-- there is such a place
abbrev pub has_filed_cell : {V : Type 0} → List (FiledRow V) → ℕ → ℕ → Bool
has_filed_cell {V = V} rows row at = option_map_or (λ (r : FiledRow V). nat_lt at (length (cells_of r))) (slice_get rows row) false
