use Rattle.std.proofs.Common.{◌≡◌, ◌∙◌, ◌++◌, cond, true, false, [], length, sym, ap, arith, rules}
use Rattle.std.proofs.lemmas.List.{append-nil}
use Rattle.object_records.specs.Records.{births_kept, owned_at}
use Rattle.object_records.proofs.Listing.{living_at}
use Rattle.object_records.proofs.living.note_living_owned.Goals as goal

pub returns-then-not-kept-clause-added : goal.returns-then-not-kept-clause-added
returns-then-not-kept-clause-added c =
    let here = living_at c.args.table.now.records c.args.ty c.args.owner c.args.place c.record-kept.result c.record-kept.ensures.owners c.record-kept.ensures.once c.record-kept.ensures.found in
    let off : c.record-kept.result.lives ≡ false = search rules in
    let none = here ∙ ap (λ u. cond u (owned_at (births_kept c.args.table.now.records) c.args.ty c.args.owner c.args.place) []) off in
    sym (ap (λ os. c.args.out.now.items ++ os) none ∙ append-nil c.args.out.now.items)

pub returns-clause-added : goal.returns-clause-added
returns-clause-added c =
    let here = living_at c.args.table.now.records c.args.ty c.args.owner c.args.place c.record-kept.result c.record-kept.ensures.owners c.record-kept.ensures.once c.record-kept.ensures.found in
    let on : c.record-kept.result.lives ≡ true = search rules in
    let all = here ∙ ap (λ u. cond u (owned_at (births_kept c.args.table.now.records) c.args.ty c.args.owner c.args.place) []) on in
    c.in_ok-note_owned.ensures.added ∙ sym (ap (λ os. c.args.out.now.items ++ os) all)

pub returns-in_err-note_owned-clause-succeeds : goal.returns-in_err-note_owned-clause-succeeds
returns-in_err-note_owned-clause-succeeds c = λ low.
    let here = living_at c.args.table.now.records c.args.ty c.args.owner c.args.place c.record-kept.result c.record-kept.ensures.owners c.record-kept.ensures.once c.record-kept.ensures.found in
    let on : c.record-kept.result.lives ≡ true = search rules in
    let all = here ∙ ap (λ u. cond u (owned_at (births_kept c.args.table.now.records) c.args.ty c.args.owner c.args.place) []) on in
    let wrong = c.in_err-note_owned.ensures.succeeds (omega (arith, ap length all, low)) in cc wrong
