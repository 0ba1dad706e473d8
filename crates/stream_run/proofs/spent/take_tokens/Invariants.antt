use Rattle.std.proofs.Common.{◌≡◌, ◌++◌}
use Rattle.std.specs.List.{flat_map}
use Rattle.stream_run.proofs.Holding.{held_by}
use Rattle.stream_run.proofs.spent.take_tokens.Given as goal

-- the tokens so far
abbrev pub invariant-loop-plan : goal.invariant-loop-plan
invariant-loop-plan l = l.tokens.items ≡ l.fn.tokens.items ++ flat_map held_by l.yielded
