use Rattle.std.proofs.Common.{◌<◌, ◌++◌, length, ap, ◌∙◌, arith}
use Rattle.command_tables.specs.Handles.{list_at}
use Rattle.command_tables.specs.Table.{seen_param}
use Rattle.object_records.specs.Shape.{arguments_of}
use Rattle.object_records.proofs.Loops.{place_more}
use Rattle.lifetime_layer.specs.Reports.{reports_at, reports_of}
use Rattle.lifetime_layer.proofs.Quiet.{places_quiet}
use Rattle.lifetime_layer.proofs.Room.{place_fits}
use Rattle.lifetime_layer.proofs.checks.check_places.Goals as goal

pub returns-in_err-check_argument-clause-succeeds : goal.returns-in_err-check_argument-clause-succeeds
returns-in_err-check_argument-clause-succeeds c = λ low.
    let f = reports_at c.args.place c.args.records.now.kept c.args.call.now.cmd (arguments_of c.args.call.now) c.args.i (seen_param c.args.param.now) in
    let places = list_at (arguments_of c.args.call.now) c.args.i in
    let less : c.loop-k.k < length places = omega (arith, c.loop-k-test.true, c.count_indexes-k-end.ensures) in
    let fits = place_fits f places c.loop-k.k c.args.out.now.items c.loop-k.out.items _ _ _ less c.loop-k.invariant.found c.loop-k.invariant.room low in
    let wrong = c.in_err-check_argument.ensures.succeeds (omega (arith, fits, ap (λ a. length (f c.loop-k.k a)) c.argument_at-argument.ensures)) in cc wrong

pub loop-k-preserved : goal.loop-k-preserved
loop-k-preserved c =
    let f = reports_at c.args.place c.args.records.now.kept c.args.call.now.cmd (arguments_of c.args.call.now) c.args.i (seen_param c.args.param.now) in
    let places = list_at (arguments_of c.args.call.now) c.args.i in
    let less : c.loop-k.k < length places = omega (arith, c.loop-k-test.true, c.count_indexes-k-end.ensures) in
    record {
      found = place_more f places c.loop-k.k (reports_of c.loop-k.out.items) _ _ less c.loop-k.invariant.found
          (c.in_ok-check_argument.ensures.found ∙ ap (λ a. reports_of c.loop-k.out.items ++ f c.loop-k.k a) c.argument_at-argument.ensures);
      quiet = λ none. places_quiet f places c.loop-k.k less (c.loop-k.invariant.quiet none);
      room = omega (arith, c.loop-k.invariant.room, c.in_ok-check_argument.ensures.room);
    }
