use Rattle.std.proofs.Common.{◌≡◌, ◌∙◌, List, length, ap, sym}
use Rattle.std.proofs.lemmas.List.{length-map}
use Rattle.command_tables.specs.Table.{ParamSpec, seen_param}
use Rattle.object_records.specs.Shape.{arguments_of}
use Rattle.thread_layer.specs.Kept.{with_opens}
use Rattle.thread_layer.specs.Findings.{argument_reports, argument_uses}
use Rattle.thread_layer.proofs.Room.{parameter_fits}
use Rattle.thread_layer.proofs.gathering.gather_params.Goals as goal

pub returns-in_err-gather_places-clause-succeeds : goal.returns-in_err-gather_places-clause-succeeds
returns-in_err-gather_places-clause-succeeds c = λ fits.
    let m = with_opens c.args.beside.records.now.kept c.args.beside.opens.now.opens in
    let parts = arguments_of c.args.call.now in
    let same : length parts ≡ length c.args.params.now =
    sym c.count_parameters-parameters.ensures.read ∙ (c.count_parameters-parameters.ensures.row ∙ (ap (λ (ps : List ParamSpec). length ps) (sym c.requires.row) ∙ length-map c.args.params.now seen_param)) in
    let wrong = c.in_err-gather_places.ensures.succeeds (parameter_fits (argument_uses m) (argument_reports c.args.beside.place c.args.beside.thread m) c.args.params.now parts c.loop-i.i _
    c.args.gathered.now c.loop-i.gathered c.args.verdict.now c.loop-i.verdict _ _ c.loop-i-test.true same c.loop-i.invariant.uses c.loop-i.invariant.findings c.loop-i.invariant.uses_room c.loop-i.invariant.findings_room fits) in cc wrong
