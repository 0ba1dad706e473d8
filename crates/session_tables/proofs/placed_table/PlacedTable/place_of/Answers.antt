use Rattle.std.proofs.Common.{sym, ◌∙◌}
use Rattle.session_tables.specs.Filing.{kept}
use Rattle.session_tables.proofs.PlacedLemmas.{placed_here, placed_never, placed_other}
use Rattle.session_tables.proofs.placed_table.PlacedTable.place_of.Goals as goal

pub returns-in-Some-clause-entry : goal.returns-in-Some-clause-entry
returns-in-Some-clause-entry g c =
    (placed_here (kept c.args.self.now.places) c.args.self.now.entries.items c.requires c.args.object c.in-Some.at c.deref.result.now c.is_at.result c.deref.ensures.value c.is_at.ensures c.if-is_at.true).0

pub returns-in-Some-clause-within : goal.returns-in-Some-clause-within
returns-in-Some-clause-within g c =
    (placed_here (kept c.args.self.now.places) c.args.self.now.entries.items c.requires c.args.object c.in-Some.at c.deref.result.now c.is_at.result c.deref.ensures.value c.is_at.ensures c.if-is_at.true).1

pub returns-in_default-clause-entry : goal.returns-in_default-clause-entry
returns-in_default-clause-entry g c =
    placed_other (kept c.args.self.now.places) c.args.self.now.entries.items c.requires c.args.object c.in-Some.at c.deref.result.now c.is_at.result (sym c.in-Some.is ∙ c.get.ensures) c.deref.ensures.value c.is_at.ensures c.if-is_at.false

pub returns-in_default-2-clause-entry : goal.returns-in_default-2-clause-entry
returns-in_default-2-clause-entry g c = placed_never (kept c.args.self.now.places) c.args.self.now.entries.items c.requires c.args.object (sym c.get.ensures ∙ c.in_default.is)
