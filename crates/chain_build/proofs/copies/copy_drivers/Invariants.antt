use Rattle.std.proofs.Common.{◌≡◌, map, take}
use Rattle.layer_search.specs.Contents.{found_driver}
use Rattle.chain_build.proofs.copies.copy_drivers.Given as goal

abbrev pub invariant-loop-driver : goal.invariant-loop-driver
invariant-loop-driver l = map found_driver l.copies.items ≡ map found_driver (take l.driver-index l.drivers)
