use Rattle.std.proofs.Common.{ap, arith}
use Rattle.object_records.specs.Table.{before_owned}
use Rattle.object_records.proofs.Kept.{owner_below}
use Rattle.object_records.proofs.ends.pass_front.Goals as goal

pub is_front-requires-clause-above : goal.is_front-requires-clause-above
is_front-requires-clause-above c =
    omega (arith, c.requires, owner_below c.args.table.now.records c.args.place c.record-kept.result c.record-kept.ensures.owners c.record-kept.ensures.found, ap before_owned c.in-At.is)

pub overflow_add-place : goal.overflow_add-place
overflow_add-place c = omega (arith, c.requires, c.len-count.type_inv, c.len-count.ensures)

pub pass_over-requires-clause-place : goal.pass_over-requires-clause-place
pass_over-requires-clause-place c =
    omega (arith, c.requires, owner_below c.args.table.now.records c.args.place c.record-kept.result c.record-kept.ensures.owners c.record-kept.ensures.found, ap before_owned c.in-At.is)
