use Rattle.std.proofs.Common.{◌≡◌, take}
use Rattle.thread_layer.specs.Kept.{counted}
use Rattle.thread_layer.proofs.open_uses.start_of.Given as goal

abbrev pub invariant-loop-i : goal.invariant-loop-i
invariant-loop-i l = l.start ≡ counted (take l.i l.calls)
