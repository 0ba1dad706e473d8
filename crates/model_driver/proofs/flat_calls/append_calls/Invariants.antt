use Rattle.std.proofs.Common.{◌≡◌, ◌-◌, ◌≤◌, ◌++◌, drop, length}
use Rattle.model_driver.specs.Flat.{AreCalls, exchanges_of}
use Rattle.model_driver.specs.Logs.{exchanges_shown}
use Rattle.model_driver.proofs.flat_calls.append_calls.Given as goal

abbrev pub invariant-loop-i : goal.invariant-loop-i
invariant-loop-i l = record {
  within : l.at ≤ length l.lists.lists;
  rest : AreCalls (drop l.i l.heads) (length l.lists.lists - l.at) (length l.payloads.lists - l.i);
  so_far : exchanges_shown l.out.items ++ exchanges_of (drop l.i l.heads) (drop l.at l.lists.lists) (drop l.i l.payloads.lists) ≡ exchanges_shown l.initial.out.items ++ exchanges_of l.heads l.lists.lists l.payloads.lists;
}
