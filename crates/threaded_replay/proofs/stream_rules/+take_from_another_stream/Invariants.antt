use Rattle.std.proofs.Common.{length}
use Rattle.threaded_replay.proofs.stream_rules.+take_from_another_stream.Given as goal

abbrev pub decreases-take_from_another_stream : goal.decreases-take_from_another_stream
decreases-take_from_another_stream l = length l.args.now
