use Rattle.std.proofs.Common.{ap, sym}
use Rattle.std.specs.Prelude.{Option}
use Rattle.std.specs.Option.{option_map}
use Rattle.session_tables.specs.declared.placed_table.Placed.{Placed}
use Rattle.session_tables.specs.Filing.{kept}
use Rattle.session_tables.proofs.PlacedLemmas.{left_none, taken_out}
use Rattle.session_tables.proofs.placed_table.PlacedTable.remove.Goals as goal

pub returns-in-None-clause-left : goal.returns-in-None-clause-left
returns-in-None-clause-left g c = left_none (kept c.args.self.now.places) c.args.self.now.entries.items c.requires c.args.object (sym c.in-None.ensures.entry)

pub returns-in-Some-clause-value : goal.returns-in-Some-clause-value
returns-in-Some-clause-value g c =
    ap (λ (e : Option (Placed g.row.V.Denot)). option_map (λ (p : Placed g.row.V.Denot). p.value) e) (sym (taken_out (kept c.args.self.now.places) (kept c.note_moved.new.places) c.args.self.now.entries.items c.swap_remove-taken.new.self.items c.deref.result.now c.args.object c.in-Some.at
    c.swap_remove-taken.result c.requires c.in-Some.ensures.entry c.in-Some.ensures.within c.swap_remove-taken.ensures.value c.swap_remove-taken.ensures.items c.deref.ensures.value c.note_moved.ensures.moved c.note_moved.ensures.none).2)

pub returns-in-Some-clause-left : goal.returns-in-Some-clause-left
returns-in-Some-clause-left g c =
    (taken_out (kept c.args.self.now.places) (kept c.note_moved.new.places) c.args.self.now.entries.items c.swap_remove-taken.new.self.items c.deref.result.now c.args.object c.in-Some.at
    c.swap_remove-taken.result c.requires c.in-Some.ensures.entry c.in-Some.ensures.within c.swap_remove-taken.ensures.value c.swap_remove-taken.ensures.items c.deref.ensures.value c.note_moved.ensures.moved c.note_moved.ensures.none).1

pub returns-in-Some-clause-placed : goal.returns-in-Some-clause-placed
returns-in-Some-clause-placed g c =
    (taken_out (kept c.args.self.now.places) (kept c.note_moved.new.places) c.args.self.now.entries.items c.swap_remove-taken.new.self.items c.deref.result.now c.args.object c.in-Some.at
    c.swap_remove-taken.result c.requires c.in-Some.ensures.entry c.in-Some.ensures.within c.swap_remove-taken.ensures.value c.swap_remove-taken.ensures.items c.deref.ensures.value c.note_moved.ensures.moved c.note_moved.ensures.none).0
