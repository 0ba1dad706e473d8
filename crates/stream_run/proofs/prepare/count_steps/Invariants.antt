use Rattle.std.proofs.Common.{◌≡◌, map, take}
use Rattle.stream_run.specs.Preparing.{steps_of}
use Rattle.stream_run.proofs.prepare.count_steps.Given as goal

abbrev pub invariant-loop-own : goal.invariant-loop-own
invariant-loop-own l = l.steps ≡ steps_of (map (λ v. v.items) (take l.own-index l.places))
