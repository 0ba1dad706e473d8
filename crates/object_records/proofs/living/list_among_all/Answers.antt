use Rattle.std.proofs.Common.{◌≤◌, ◌∙◌, ◌++◌, length, ap, arith}
use Rattle.std.specs.Prelude.{filter}
use Rattle.object_model.specs.Objects.{is_in}
use Rattle.object_model.specs.Uses.{owned_in}
use Rattle.object_records.specs.Records.{births_kept, living_kept}
use Rattle.object_records.proofs.Fitting.{tested_fits}
use Rattle.object_records.proofs.Kept.{births_all}
use Rattle.object_records.proofs.living.list_among_all.Goals as goal

pub returns-clause-added : goal.returns-clause-added
returns-clause-added c =
    let all : length c.args.table.now.records ≤ c.loop-i.i = omega (arith, c.loop-i-test.false, c.len-i-end.ensures) in
    c.loop-i.invariant.added ∙ ap (λ bs. c.args.out.now.items ++ filter (λ o. is_in (living_kept c.args.table.now.records) o) (owned_in bs c.args.ty c.args.owner)) (births_all c.args.table.now.records c.loop-i.i all)

pub returns-in_err-note_living_owned-clause-succeeds : goal.returns-in_err-note_living_owned-clause-succeeds
returns-in_err-note_living_owned-clause-succeeds c = λ low.
    let fits = tested_fits (λ o. is_in (living_kept c.args.table.now.records) o) c.args.ty c.args.owner (births_kept c.args.table.now.records) c.loop-i.i c.args.out.now.items c.loop-i.out.items _ _ c.loop-i.invariant.added c.loop-i.invariant.room low in
    let wrong = c.in_err-note_living_owned.ensures.succeeds fits in cc wrong
