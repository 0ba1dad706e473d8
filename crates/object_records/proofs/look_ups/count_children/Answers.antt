use Rattle.std.proofs.Common.{◌∙◌, sym}
use Rattle.object_records.proofs.Kept.{place_within}
use Rattle.object_records.proofs.Owned.{children_counted, no_children}
use Rattle.object_records.proofs.look_ups.count_children.Goals as goal

pub count_children-requires : goal.count_children-requires
count_children-requires c = place_within c.args.table.now.records c.args.object c.in-Some.place (sym c.in-Some.ensures.place)

pub returns-in-None : goal.returns-in-None
returns-in-None c = sym (no_children c.args.table.now.records c.args.object c.in-None.ensures.owners c.in-None.ensures.once (sym c.if-has_strays.ensures) (sym c.in-None.ensures.place))

pub returns-in-Some : goal.returns-in-Some
returns-in-Some c =
    c.count_children.ensures ∙ sym (children_counted c.args.table.now.records c.args.object c.in-Some.place c.in-Some.ensures.owners c.in-Some.ensures.once (sym c.if-has_strays.ensures) (sym c.in-Some.ensures.place))
