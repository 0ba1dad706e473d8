use Rattle.std.proofs.Common.{sym}
use Rattle.handle_map.proofs.Links.{way_in, way_next}
use Rattle.handle_map.proofs.chain.walk.Goals as goal

pub loop-link-init : goal.loop-link-init
loop-link-init g c = way_in g.row.S c.args.entries.now c.args.ty c.args.id c.args.first c.requires.first

pub loop-link-preserved : goal.loop-link-preserved
loop-link-preserved g c = way_next g.row.S c.args.entries.now c.args.ty c.args.id c.loop-link.link _ c.requires.linked c.loop-link.invariant c.loop-link-test.true (sym c.if-is_of.ensures)
