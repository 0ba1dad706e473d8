use Rattle.std.proofs.Common.{◌≡◌, List, length, ap, sym, ◌∙◌, arith}
use Rattle.std.proofs.lemmas.List.{length-map}
use Rattle.command_tables.specs.Table.{ParamSpec, seen_param}
use Rattle.object_records.specs.Shape.{arguments_of}
use Rattle.object_records.proofs.Loops.{parameter_more}
use Rattle.lifetime_layer.specs.Reports.{reports_at, reports_of}
use Rattle.lifetime_layer.proofs.Quiet.{parameter_quiet, parameters_quiet}
use Rattle.lifetime_layer.proofs.Room.{parameter_fits}
use Rattle.lifetime_layer.proofs.checks.check_parameters.Goals as goal

pub returns-in_err-check_places-clause-quiet : goal.returns-in_err-check_places-clause-quiet
returns-in_err-check_places-clause-quiet c = λ none.
    let parts = arguments_of c.args.call.now in
    let f = reports_at c.args.place c.args.records.now.kept c.args.call.now.cmd parts in
    let same : length parts ≡ length c.args.params.now =
    sym c.count_parameters-parameters.ensures.read ∙ (c.count_parameters-parameters.ensures.row ∙ (ap (λ (ps : List ParamSpec). length ps) (sym c.requires.row) ∙ length-map c.args.params.now seen_param)) in
    let wrong = c.in_err-check_places.ensures.quiet (parameter_quiet f c.args.params.now parts c.loop-i.i _ c.loop-i-test.true same (c.loop-i.invariant.quiet none)) in cc wrong

pub returns-in_err-check_places-clause-succeeds : goal.returns-in_err-check_places-clause-succeeds
returns-in_err-check_places-clause-succeeds c = λ low.
    let parts = arguments_of c.args.call.now in
    let f = reports_at c.args.place c.args.records.now.kept c.args.call.now.cmd parts in
    let same : length parts ≡ length c.args.params.now =
    sym c.count_parameters-parameters.ensures.read ∙ (c.count_parameters-parameters.ensures.row ∙ (ap (λ (ps : List ParamSpec). length ps) (sym c.requires.row) ∙ length-map c.args.params.now seen_param)) in
    let wrong = c.in_err-check_places.ensures.succeeds (parameter_fits f c.args.params.now parts c.loop-i.i _ c.args.out.now.items c.loop-i.out.items _ _ _ c.loop-i-test.true same c.loop-i.invariant.found c.loop-i.invariant.room low) in cc wrong

pub loop-i-preserved : goal.loop-i-preserved
loop-i-preserved c =
    let parts = arguments_of c.args.call.now in
    let f = reports_at c.args.place c.args.records.now.kept c.args.call.now.cmd parts in
    let same : length parts ≡ length c.args.params.now =
    sym c.count_parameters-parameters.ensures.read ∙ (c.count_parameters-parameters.ensures.row ∙ (ap (λ (ps : List ParamSpec). length ps) (sym c.requires.row) ∙ length-map c.args.params.now seen_param)) in
    record {
      found = parameter_more f c.args.params.now parts c.loop-i.i _ (reports_of c.loop-i.out.items) _ _ c.loop-i-test.true same c.loop-i.invariant.found c.in_ok-check_places.ensures.found;
      quiet = λ none. parameters_quiet f c.args.params.now parts c.loop-i.i c.loop-i-test.true same (c.loop-i.invariant.quiet none);
      room = omega (arith, c.loop-i.invariant.room, c.in_ok-check_places.ensures.room);
    }
