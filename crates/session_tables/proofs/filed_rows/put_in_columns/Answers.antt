use Rattle.std.proofs.Common.{◌≡◌, ◌∙◌, ◌<◌, ◌≤◌, ◌==◌, ℕ, false, true, List, ap, cond, get_or, length, rules, arith}
use Rattle.session_tables.specs.declared.filed_rows.Filed.{Filed}
use Rattle.session_tables.specs.FiledRows.{cells_of, cells_zip, nothing_filed}
use Rattle.session_tables.proofs.Columns.{even_put, short_put, types_put}
use Rattle.session_tables.proofs.filed_rows.put_in_columns.Goals as goal

pub returns-in_err-put_in-2-clause-err : goal.returns-in_err-put_in-2-clause-err
returns-in_err-put_in-2-clause-err g c =
    let m = c.make_even.new.columns in
    let e = c.in_err-put_in-2.ensures in
    let full : c.args.at < length m.values.items → ⊥ = (λ less. let is : false ≡ true = e.succeeds less in cc) in
    let past : length m.values.items ≤ c.args.at = omega arith in
    let new : length m.values.items ≤ length c.put_in.new.cells.items = omega (arith, c.make_even.ensures.even, c.in_ok-put_in.ensures.long) in
    let cells : cells_zip c.put_in.new.cells.items c.put_in-2.new.cells.items ≡ cells_of c.args.columns.now =
    ap (cells_zip c.put_in.new.cells.items) e.err ∙ (short_put m.types.items c.put_in.new.cells.items m.values.items c.args.at c.args.filed.ty c.make_even.ensures.even past new (types_put m.types.items c.put_in.new.cells.items c.args.at c.new.result c.new-2.result c.args.filed.ty c.new.ensures c.new-2.ensures c.in_ok-put_in.ensures.ok) ∙ c.make_even.ensures.same) in
    let all : (n : ℕ) → get_or (cells_zip c.put_in.new.cells.items c.put_in-2.new.cells.items) n (nothing_filed c.args.empty) ≡ get_or (cells_of c.args.columns.now) n (nothing_filed c.args.empty) = (λ n. ap (λ (cs : List (Filed g.row.V.Denot)). get_or cs n (nothing_filed c.args.empty)) cells) in
    search (rules, all)

pub returns-clause-ok : goal.returns-clause-ok
returns-clause-ok g c = λ n.
    let m = c.make_even.new.columns in
    let long : length c.put_in.new.cells.items ≡ length c.put_in-2.new.cells.items = omega (arith, c.make_even.ensures.even, c.in_ok-put_in.ensures.long, c.in_ok-put_in-2.ensures.long) in
    even_put m.types.items c.put_in.new.cells.items m.values.items c.put_in-2.new.cells.items c.args.at c.args.filed c.args.empty c.make_even.ensures.even long (types_put m.types.items c.put_in.new.cells.items c.args.at c.new.result c.new-2.result c.args.filed.ty c.new.ensures c.new-2.ensures c.in_ok-put_in.ensures.ok) c.in_ok-put_in-2.ensures.ok n
    ∙ ap (λ (cells : List (Filed g.row.V.Denot)). cond (c.args.at == n) c.args.filed (get_or cells n (nothing_filed c.args.empty))) c.make_even.ensures.same
