use Rattle.std.proofs.Common.{◌≡◌, map, take}
use Rattle.stream_log.specs.Log.{line_of}
use Rattle.stream_run.proofs.merged.without_numbers.Given as goal

abbrev pub invariant-loop-entry : goal.invariant-loop-entry
invariant-loop-entry l = map (λ e. line_of e.now) l.entries.items ≡ map (λ x. line_of x.1.now) (take l.entry-index l.numbered)
