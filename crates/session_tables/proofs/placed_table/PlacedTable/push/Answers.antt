use Rattle.std.proofs.Common.{◌≡◌, List, length, sym, subst, arith}
use Rattle.session_tables.specs.declared.placed_table.Placed.{Placed}
use Rattle.session_tables.specs.Filing.{kept}
use Rattle.session_tables.specs.Placed.{AreTheirPlaces}
use Rattle.session_tables.proofs.PlacedLemmas.{placed_more, placed_still}
use Rattle.session_tables.proofs.placed_table.PlacedTable.push.Goals as goal

pub returns-in_err-push-clause-placed : goal.returns-in_err-push-clause-placed
returns-in_err-push-clause-placed g c =
    subst (λ (es : List (Placed g.row.V.Denot)). AreTheirPlaces (kept c.put.new.self) es) (sym c.in_err-push.ensures.items)
    (placed_still (kept c.args.self.now.places) c.args.self.now.entries.items c.requires.placed (kept c.put.new.self) c.args.object c.len-at.result c.requires.new c.in_ok-put.ensures.ok)

pub returns-clause-placed : goal.returns-clause-placed
returns-clause-placed g c =
    subst (λ (es : List (Placed g.row.V.Denot)). AreTheirPlaces (kept c.put.new.self) es) (sym c.in_ok-push.ensures.items)
    (placed_more (kept c.args.self.now.places) c.args.self.now.entries.items c.requires.placed (kept c.put.new.self) (record { object = c.args.object; value = c.args.value }) c.len-at.result c.requires.new
    (let last : c.len-at.result ≡ length c.args.self.now.entries.items = omega (arith, c.len-at.ensures) in last) c.in_ok-put.ensures.ok)
