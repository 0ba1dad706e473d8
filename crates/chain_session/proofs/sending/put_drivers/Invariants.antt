use Rattle.std.proofs.Common.{◌≡◌, map, take}
use Rattle.model_driver.specs.Driver.{call_shown}
use Rattle.chain_session.specs.Sending.{drivers_told}
use Rattle.chain_session.proofs.sending.put_drivers.Given as goal

abbrev pub invariant-loop-target : goal.invariant-loop-target
invariant-loop-target l = l.drivers.items ≡ drivers_told (map call_shown (take l.target-index l.targets))
