use Rattle.std.proofs.Common.{◌<◌, length, arith}
use Rattle.command_tables.specs.Handles.{list_at}
use Rattle.command_tables.specs.Table.{seen_param}
use Rattle.object_records.specs.Shape.{arguments_of}
use Rattle.thread_layer.specs.Kept.{with_opens}
use Rattle.thread_layer.specs.Findings.{argument_reports, argument_uses}
use Rattle.thread_layer.proofs.Room.{place_fits}
use Rattle.thread_layer.proofs.gathering.gather_places.Goals as goal

pub returns-in_err-gather_argument-clause-succeeds : goal.returns-in_err-gather_argument-clause-succeeds
returns-in_err-gather_argument-clause-succeeds c = λ fits.
    let m = with_opens c.args.beside.records.now.kept c.args.beside.opens.now.opens in
    let places = list_at (arguments_of c.args.call.now) c.args.i in
    let less : c.loop-k.k < length places = omega (arith, c.loop-k-test.true, c.count_few-k-end.ensures.count) in
    let wrong = c.in_err-gather_argument.ensures.succeeds (place_fits (argument_uses m c.args.i (seen_param c.args.param.now)) (argument_reports c.args.beside.place c.args.beside.thread m c.args.i (seen_param c.args.param.now)) places c.loop-k.k
    c.args.gathered.now c.loop-k.gathered c.args.verdict.now c.loop-k.verdict _ _ _ less c.argument_at-argument.ensures c.loop-k.invariant.uses c.loop-k.invariant.findings c.loop-k.invariant.uses_room c.loop-k.invariant.findings_room fits) in cc wrong
