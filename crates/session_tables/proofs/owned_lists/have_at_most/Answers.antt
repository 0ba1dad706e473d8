use Rattle.std.proofs.Common.{ap, arith, take_all}
use Rattle.session_tables.specs.Owned.{links_of}
use Rattle.session_tables.proofs.Relisting.{links_more}
use Rattle.session_tables.proofs.owned_lists.have_at_most.Goals as goal

pub loop-birth-preserved : goal.loop-birth-preserved
loop-birth-preserved c =
    let more = links_more c.args.births.now c.loop-birth.birth-index c.birth-item.result c.as_slice-count.result.now c.loop-birth-test.true c.birth-item.is c.as_slice-count.ensures in omega (arith, more, c.loop-birth.invariant)

pub returns : goal.returns
returns c = λ most.
    let all = ap links_of (take_all c.loop-birth.birth-index c.args.births.now c.loop-birth-test.false) in omega (arith, all, c.loop-birth.invariant)
