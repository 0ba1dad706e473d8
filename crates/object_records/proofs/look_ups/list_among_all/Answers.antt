use Rattle.object_records.specs.Records.{births_kept}
use Rattle.object_records.proofs.Fitting.{owned_fits}
use Rattle.object_records.proofs.look_ups.list_among_all.Goals as goal

pub returns-in_err-note_owned-clause-succeeds : goal.returns-in_err-note_owned-clause-succeeds
returns-in_err-note_owned-clause-succeeds c = λ low.
    let fits = owned_fits c.args.ty c.args.owner (births_kept c.args.table.now.records) c.loop-i.i c.args.out.now.items c.loop-i.out.items _ _ c.loop-i.invariant.added c.loop-i.invariant.room low in
    let wrong = c.in_err-note_owned.ensures.succeeds fits in cc wrong
