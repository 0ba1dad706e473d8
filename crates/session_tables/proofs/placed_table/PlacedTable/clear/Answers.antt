use Rattle.session_tables.specs.Filing.{kept}
use Rattle.session_tables.proofs.PlacedLemmas.{placed_none}
use Rattle.session_tables.proofs.placed_table.PlacedTable.clear.Goals as goal

pub returns-clause-placed : goal.returns-clause-placed
returns-clause-placed g c = placed_none (kept c.args.self.now.places) c.clear.new.self.items c.clear.ensures.items
