use Rattle.std.proofs.Common.{◌≡◌, drop, take}
use Rattle.model_driver.proofs.flat_calls.args_at.Given as goal

abbrev pub invariant-loop-p : goal.invariant-loop-p
invariant-loop-p l = l.args.lists ≡ take l.p (drop l.at l.lists.lists)
