use Rattle.std.proofs.Common.{◌≡◌, map, take}
use Rattle.stream_log.specs.Log.{line_of}
use Rattle.log_merge.specs.Halves.{in_log}
use Rattle.log_merge.specs.Numbered.{numbered}
use Rattle.log_merge.proofs.merging.with_number.Given as goal

abbrev pub invariant-loop-entry : goal.invariant-loop-entry
invariant-loop-entry l = map numbered l.v.items ≡ map (in_log l.log) (map line_of (take l.entry-index l.entries))
