use Rattle.std.proofs.Common.{refl}
use Rattle.session_tables.specs.Filing.{kept}
use Rattle.session_tables.proofs.PlacedLemmas.{placed_same}
use Rattle.session_tables.proofs.placed_table.PlacedTable.reserve.Goals as goal

pub returns-in_err-reserve-clause-placed : goal.returns-in_err-reserve-clause-placed
returns-in_err-reserve-clause-placed g c =
    placed_same (kept c.args.self.now.places) (kept c.args.self.now.places) c.args.self.now.entries.items c.reserve.new.self.items c.requires c.in_err-reserve.ensures.items (λ o. refl)

pub returns-in_err-reserve-2-clause-placed : goal.returns-in_err-reserve-2-clause-placed
returns-in_err-reserve-2-clause-placed g c =
    placed_same (kept c.args.self.now.places) (kept c.reserve-2.new.self) c.args.self.now.entries.items c.reserve.new.self.items c.requires c.in_ok-reserve.ensures.items c.in_err-reserve-2.ensures.kept

pub returns-clause-placed : goal.returns-clause-placed
returns-clause-placed g c =
    placed_same (kept c.args.self.now.places) (kept c.reserve-2.new.self) c.args.self.now.entries.items c.reserve.new.self.items c.requires c.in_ok-reserve.ensures.items c.in_ok-reserve-2.ensures.kept
