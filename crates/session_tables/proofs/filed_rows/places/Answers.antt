use Rattle.std.proofs.Common.{arith}
use Rattle.session_tables.proofs.Columns.{zip_length}
use Rattle.session_tables.proofs.filed_rows.places.Goals as goal

pub returns : goal.returns
returns g c = omega (arith, zip_length c.args.columns.now.types.items c.args.columns.now.values.items, c.len.ensures, c.len-2.ensures, c.min.ensures)
