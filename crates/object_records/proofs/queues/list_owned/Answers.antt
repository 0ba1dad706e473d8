use Rattle.std.proofs.Common.{◌∙◌, ◌++◌, sym, ap, append-nil}
use Rattle.object_records.proofs.Walked.{none_owned_unborn}
use Rattle.object_records.proofs.queues.list_owned.Goals as goal

pub returns-in-None-clause-added : goal.returns-in-None-clause-added
returns-in-None-clause-added c =
    let none = none_owned_unborn c.args.table.now.records c.args.ty c.args.owner c.in-None.ensures.owners c.in-None.ensures.once (sym c.if-has_strays.ensures) (sym c.in-None.ensures.place) in
    sym (ap (λ os. c.args.out.now.items ++ os) none ∙ append-nil c.args.out.now.items)
