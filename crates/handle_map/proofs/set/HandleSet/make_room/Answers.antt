use Rattle.handle_map.proofs.Adding.{kept_table}
use Rattle.handle_map.proofs.Bounding.{bounded_same}
use Rattle.handle_map.proofs.set.HandleSet.make_room.Goals as goal

pub invariant_of-self-2 : goal.invariant_of-self-2
invariant_of-self-2 g c = (
  kept_table g.row.S c.self.inside.entries.items c.make_room.new.entries.items c.self.inside.firsts.items c.make_chains.new.firsts.items c.self.inside.bounds.greatest c.self.invariant.0 c.make_room.ensures.items c.in_ok-make_chains.ensures.ok,
  bounded_same c.self.inside.entries.items c.make_room.new.entries.items c.self.inside.bounds c.make_room.ensures.items c.self.invariant.1,
)
