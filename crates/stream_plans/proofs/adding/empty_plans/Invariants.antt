use Rattle.std.proofs.Common.{◌≡◌, [], map, take}
use Rattle.stream_plans.specs.Contents.{plan_content}
use Rattle.stream_plans.proofs.adding.empty_plans.Given as goal

abbrev pub invariant-loop-device : goal.invariant-loop-device
invariant-loop-device l = map plan_content l.plans.items ≡ map (λ d. record { device = d; streams = [] }) (take l.device-index l.devices)
