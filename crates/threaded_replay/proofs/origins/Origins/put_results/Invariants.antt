use Rattle.std.proofs.Common.{take}
use Rattle.threaded_replay.specs.Origins.{PutResults, origin_of}
use Rattle.threaded_replay.proofs.origins.Origins.put_results.Given as goal

abbrev pub invariant-loop-name : goal.invariant-loop-name
invariant-loop-name l = PutResults l.initial.self.rows.items l.self.rows.items (take l.name-index l.results) (origin_of l.is_device l.owner l.stream)
