use Rattle.std.proofs.Common.{◌∙◌, ◌++◌, length, sym, ap, arith, append-nil}
use Rattle.std.specs.Prelude.{filter}
use Rattle.object_model.specs.Objects.{is_in}
use Rattle.object_records.specs.Records.{living_kept}
use Rattle.object_records.proofs.Walked.{none_owned_unborn, owned_linked}
use Rattle.object_records.proofs.living.list_living.Goals as goal

pub returns-in-None-clause-added : goal.returns-in-None-clause-added
returns-in-None-clause-added c =
    let none = none_owned_unborn c.args.table.now.records c.args.ty c.args.owner c.in-None.ensures.owners c.in-None.ensures.once (sym c.if-has_strays.ensures) (sym c.in-None.ensures.place) in
    sym (ap (λ os. c.args.out.now.items ++ filter (λ o. is_in (living_kept c.args.table.now.records) o) os) none ∙ append-nil c.args.out.now.items)

pub returns-in-Some-clause-succeeds : goal.returns-in-Some-clause-succeeds
returns-in-Some-clause-succeeds c = λ low.
    let owned = owned_linked c.args.table.now.records c.args.ty c.args.owner c.in-Some.place c.in-Some.ensures.owners c.in-Some.ensures.once (sym c.if-has_strays.ensures) (sym c.in-Some.ensures.place) in
    let long = ap (λ os. length (filter (λ o. is_in (living_kept c.args.table.now.records) o) os)) owned in c.list_linked.ensures.succeeds (omega (arith, long, low))
