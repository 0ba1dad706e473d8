use Rattle.std.proofs.Common.{◌∙◌, Option, List, ap, get_or, arith}
use Rattle.std.proofs.Math.ListN.{set}
use Rattle.command_tables.specs.declared.types.ObjectType.{ObjectType}
use Rattle.session_tables.specs.declared.filed_rows.Filed.{Filed}
use Rattle.session_tables.specs.FiledRows.{cells_of, cells_zip, nothing_filed}
use Rattle.session_tables.proofs.Columns.{put_here, zip_length, zip_set}
use Rattle.session_tables.proofs.filed_rows.overwrite_in_columns.Goals as goal

pub index_mut-requires : goal.index_mut-requires
index_mut-requires g c = omega (arith, c.requires, zip_length c.args.columns.now.types.items c.args.columns.now.values.items)

pub index_mut-requires-2 : goal.index_mut-requires-2
index_mut-requires-2 g c = omega (arith, c.requires, zip_length c.args.columns.now.types.items c.args.columns.now.values.items)

pub returns : goal.returns
returns g c = λ empty n.
    let m = c.args.columns.now in
    ap (λ (t : Option ObjectType). get_or (cells_zip (set m.types.items c.args.at t) (set m.values.items c.args.at c.args.filed.value)) n (nothing_filed empty)) c.new.ensures
    ∙ (ap (λ (cells : List (Filed g.row.V.Denot)). get_or cells n (nothing_filed empty)) (zip_set m.types.items m.values.items c.args.at c.args.filed)
    ∙ put_here (cells_of m) c.args.at c.args.filed (nothing_filed empty) n c.requires)
