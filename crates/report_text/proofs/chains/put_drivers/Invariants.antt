use Rattle.std.proofs.Common.{◌≡◌, ◌++◌, take}
use Rattle.layer_search.specs.Contents.{found_driver}
use Rattle.report_text.specs.Chains.{numbered, driver_line}
use Rattle.report_text.proofs.chains.put_drivers.Given as goal

abbrev pub invariant-loop-index : goal.invariant-loop-index
invariant-loop-index l = l.out.items ≡ l.fn.out.items ++ numbered (λ n driver. driver_line n (found_driver driver)) (take l.index l.drivers)
