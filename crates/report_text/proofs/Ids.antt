-- The rows of the table by their commands.
use Rattle.std.proofs.Common.{◌≡◌, ◌∙◌, ap, refl}
use Rattle.command_tables.specs.Table.{RowSpec, row_of, seen}
use Rattle.command_tables.specs.declared.types.CommandId.{CommandId}
use Rattle.command_tables.specs.declared.types.CommandId.TheVariants as cmd
use Rattle.command_tables.specs.declared.types.Row.{Row}

-- a row names its command
own_row : (c : CommandId) → (row_of c).id ≡ c
unfolding row_of
own_row cmd.AcquireNextImageKHR = refl
own_row c = refl

-- the command of a row that was looked up
pub id_of_row : (r : Row) (c : CommandId) → seen r ≡ row_of c → r.id ≡ c
id_of_row r c is = ap (λ (s : RowSpec). s.id) is ∙ own_row c
