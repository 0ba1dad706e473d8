use Rattle.std.proofs.Common.{◌≡◌, ◌∙◌, Option, Some, None, ap, sym, arith}
use Rattle.std.proofs.lemmas.Option.{gets}
use Rattle.std.specs.Prelude.{slice_get}
use Rattle.command_tables.specs.declared.types.ObjectType.{ObjectType}
use Rattle.session_tables.specs.FiledRows.{nothing_filed}
use Rattle.session_tables.proofs.Columns.{both_there, no_type, no_value}
use Rattle.session_tables.proofs.filed_rows.filed_in.Goals as goal

pub returns-in-None : goal.returns-in-None
returns-in-None g c =
    let none : slice_get c.args.columns.now.types.items c.args.at ≡ None = grind (arith, gets) in
    c.nothing.ensures ∙ sym (no_type c.args.columns.now.types.items c.args.columns.now.values.items c.args.at (nothing_filed c.args.empty) none)

pub returns-in-None-get : goal.returns-in-None-get
returns-in-None-get g c =
    let none : slice_get c.args.columns.now.values.items c.args.at ≡ None = grind (arith, gets) in
    c.nothing-in-None-get.ensures ∙ sym (no_value c.args.columns.now.types.items c.args.columns.now.values.items c.args.at (nothing_filed c.args.empty) none)

pub returns-in-Some-get : goal.returns-in-Some-get
returns-in-Some-get g c =
    let ty : slice_get c.args.columns.now.types.items c.args.at ≡ Some c.in-Some.ty.now = grind (arith, gets) in
    let value : slice_get c.args.columns.now.values.items c.args.at ≡ Some c.in-Some-get.value.now = grind (arith, gets) in
    ap (λ (t : Option ObjectType). record { ty = t; value = c.in-Some-get.value.now }) c.get-in-Some-get.ensures
    ∙ sym (both_there c.args.columns.now.types.items c.args.columns.now.values.items c.args.at (nothing_filed c.args.empty) c.in-Some.ty.now c.in-Some-get.value.now ty value)
