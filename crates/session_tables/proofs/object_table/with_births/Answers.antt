use Rattle.session_tables.proofs.BirthLemmas.{birth_taken, births_taken, unborn_before}
use Rattle.session_tables.proofs.object_table.with_births.Goals as goal

pub add_new-requires : goal.add_new-requires
add_new-requires c = unborn_before c.loop-birth.table.births c.args.births.now c.loop-birth.birth-index c.birth-item.result c.requires c.loop-birth.invariant c.loop-birth-test.true c.birth-item.is

pub loop-birth-preserved : goal.loop-birth-preserved
loop-birth-preserved c =
    birth_taken c.loop-birth.table.births c.add_new.new.self.births c.args.births.now c.loop-birth.birth-index c.birth-item.result c.as_slice.result.now c.loop-birth.invariant c.loop-birth-test.true c.birth-item.is c.as_slice.ensures c.in_ok-add_new.ensures.ok

pub returns : goal.returns
returns c = births_taken c.loop-birth.table.births c.args.births.now c.loop-birth.birth-index c.loop-birth.invariant c.loop-birth-test.false
