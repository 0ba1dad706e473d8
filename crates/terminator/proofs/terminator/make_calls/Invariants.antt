use Rattle.std.proofs.Common.{◌≤◌, length}
use Rattle.terminator.proofs.terminator.make_calls.Given as goal

abbrev pub invariant-loop-place : goal.invariant-loop-place
invariant-loop-place l = record {
  reached : l.place ≤ length l.calls.items;
  most : length l.calls.items ≤ l.fn.count;
}
