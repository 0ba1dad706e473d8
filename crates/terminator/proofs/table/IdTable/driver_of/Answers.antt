use Rattle.std.proofs.Common.{ap, sym, ◌∙◌}
use Rattle.terminator.specs.declared.entry.IdEntry.{IdEntry}
use Rattle.terminator.proofs.Placed.{driver_none, driver_there, driver_unrouted}
use Rattle.terminator.proofs.table.IdTable.driver_of.Goals as goal

pub returns-in-None : goal.returns-in-None
returns-in-None c = rw (← c.self.view_is) (sym (driver_none c.self.inside.entries.items c.args.object.ty c.args.object.number (rw c.deref.ensures.value at c.in-None.ensures.none)))

pub returns-then-is_routed : goal.returns-then-is_routed
returns-then-is_routed c =
    rw (← c.self.view_is)
    (ap (λ (e : IdEntry). e.driver) c.index-entry.ensures
    ∙ sym (driver_there c.self.inside.entries.items c.args.object.ty c.args.object.number c.in-Some.place c.index-entry.result.now (rw c.deref.ensures.value at c.in-Some.ensures.some) (sym c.is_routed.ensures ∙ c.if-is_routed.true)))

pub returns-else-is_routed : goal.returns-else-is_routed
returns-else-is_routed c = rw (← c.self.view_is) (sym (driver_unrouted c.self.inside.entries.items c.args.object.ty c.args.object.number (sym c.is_routed.ensures ∙ c.if-is_routed.false)))
