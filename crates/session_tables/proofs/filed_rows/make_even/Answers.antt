use Rattle.std.proofs.Common.{◌∙◌, ◌≤◌, ap, length, arith}
use Rattle.std.proofs.lemmas.List.{length-take}
use Rattle.session_tables.specs.FiledRows.{cells_zip}
use Rattle.session_tables.proofs.Columns.{zip_length, zip_take}
use Rattle.session_tables.proofs.filed_rows.make_even.Goals as goal

pub returns-clause-same : goal.returns-clause-same
returns-clause-same g c =
    let m = c.args.columns.now in
    let few : length (cells_zip m.types.items m.values.items) ≤ c.places-n.result = omega (arith, c.places-n.ensures) in
    (λ i. cells_zip (c.truncate.ensures.items i) (c.truncate-2.ensures.items i)) ∙ zip_take c.places-n.result m.types.items m.values.items few

pub returns-clause-even : goal.returns-clause-even
returns-clause-even g c =
    let m = c.args.columns.now in
    omega (arith, zip_length m.types.items m.values.items, c.places-n.ensures, ap length c.truncate.ensures.items, ap length c.truncate-2.ensures.items, length-take c.places-n.result m.types.items, length-take c.places-n.result m.values.items)
