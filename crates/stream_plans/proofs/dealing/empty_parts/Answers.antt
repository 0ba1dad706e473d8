use Rattle.stream_plans.proofs.DealtLemmas.{empty_more}
use Rattle.stream_plans.proofs.dealing.empty_parts.Goals as goal

pub loop-device-preserved : goal.loop-device-preserved
loop-device-preserved c =
    empty_more c.loop-device.parts.items c.push.new.self.items c.new.result c.args.devices.now c.loop-device._device-index c.loop-device-test.true c.in_ok-push.ensures.items c.new.ensures.items c.loop-device.invariant
