use Rattle.std.proofs.Common.{◌≡◌, map, take}
use Rattle.stream_plans.specs.Dealt.{events_in}
use Rattle.stream_plans.proofs.DealtLemmas.{no_events}
use Rattle.stream_plans.proofs.dealing.empty_parts.Given as goal

abbrev pub invariant-loop-device : goal.invariant-loop-device
invariant-loop-device l = events_in l.parts.items ≡ map no_events (take l._device-index l.devices)
