use Rattle.session_tables.proofs.RetrievedLemmas.{way_in, way_next}
use Rattle.session_tables.proofs.retrieved_map.walk.Goals as goal

pub loop-link-init : goal.loop-link-init
loop-link-init c = way_in c.args.entries.now c.args.bytes.now c.args.key c.args.first c.requires.first

pub loop-link-preserved : goal.loop-link-preserved
loop-link-preserved c = way_next c.args.entries.now c.args.bytes.now c.args.key c.loop-link.link _ c.loop-link.found c.found_by-found.result c.requires.linked c.loop-link.invariant c.loop-link-test.true c.found_by-found.ensures
