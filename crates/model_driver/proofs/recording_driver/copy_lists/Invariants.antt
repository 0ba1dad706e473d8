use Rattle.std.proofs.Common.{◌≡◌, take}
use Rattle.model_driver.proofs.recording_driver.copy_lists.Given as goal

abbrev pub invariant-loop-p : goal.invariant-loop-p
invariant-loop-p l = l.copy.lists ≡ take l.p l.args.lists
