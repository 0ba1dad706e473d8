use Rattle.std.proofs.Common.{length, ap, arith}
use Rattle.object_model.specs.Rules.{params_from}
use Rattle.object_records.specs.Shape.{arguments_of}
use Rattle.lifetime_layer.specs.Reports.{reports_at}
use Rattle.lifetime_layer.proofs.Room.{all_fit}
use Rattle.lifetime_layer.proofs.checks.check_call.Goals as goal

pub returns-in_err-check_parameters-clause-succeeds : goal.returns-in_err-check_parameters-clause-succeeds
returns-in_err-check_parameters-clause-succeeds c = λ low.
    let args = arguments_of c.args.call.now in
    let f = reports_at c.args.place c.args.records.now.kept c.args.call.now.cmd args in
    let same = ap (λ r. length (params_from f 0 r.params args)) c.row.ensures in
    let fits = all_fit c.args.place c.args.records.now.kept c.args.call.now.cmd args _ _ low in
    let wrong = c.in_err-check_parameters.ensures.succeeds (omega (arith, same, fits)) in cc wrong
