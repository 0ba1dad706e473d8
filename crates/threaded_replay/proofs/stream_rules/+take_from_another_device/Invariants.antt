use Rattle.std.proofs.Common.{length}
use Rattle.threaded_replay.proofs.stream_rules.+take_from_another_device.Given as goal

abbrev pub decreases-take_from_another_device : goal.decreases-take_from_another_device
decreases-take_from_another_device l = length l.args.now
