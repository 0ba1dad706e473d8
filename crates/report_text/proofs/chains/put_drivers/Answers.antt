use Rattle.layer_search.specs.Contents.{found_driver}
use Rattle.report_text.specs.Chains.{driver_line}
use Rattle.report_text.proofs.Numbers.{one_more, all_lines}
use Rattle.report_text.proofs.chains.put_drivers.Goals as goal

pub loop-index-preserved : goal.loop-index-preserved
loop-index-preserved c =
    one_more (λ n driver. driver_line n (found_driver driver)) c.args.drivers.now c.loop-index.index _ c.index-drivers-index.result c.args.out.now.items c.loop-index.out.items _
    c.loop-index-test.true c.index-drivers-index.is c.loop-index.invariant c.in_ok-put_driver.ensures

pub returns : goal.returns
returns c = all_lines driver_line found_driver c.args.drivers.now c.loop-index.index c.args.out.now.items _ c.loop-index-test.false c.loop-index.invariant
