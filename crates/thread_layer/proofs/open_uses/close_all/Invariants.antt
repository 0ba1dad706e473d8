use Rattle.std.proofs.Common.{◌≡◌, ◌≤◌, ◌++◌, length, take, drop}
use Rattle.std.specs.Prelude.{vec_capacity}
use Rattle.thread_layer.specs.Kept.{counted, of_others, opens_of}
use Rattle.thread_layer.proofs.open_uses.close_all.Given as goal

abbrev pub invariant-loop-left : goal.invariant-loop-left
invariant-loop-left l = record {
  within : l.left ≤ length l.calls.items;
  counted : counted l.calls.items ≡ length l.uses.items;
  opens : of_others l.thread (take l.left (opens_of l.calls.items l.uses.items)) ++ drop l.left (opens_of l.calls.items l.uses.items) ≡ of_others l.thread (opens_of l.fn.calls.items l.fn.uses.items);
  calls_capacity : vec_capacity l.calls ≡ vec_capacity l.fn.calls;
  uses_capacity : vec_capacity l.uses ≡ vec_capacity l.fn.uses;
}

abbrev pub decreases-loop-left : goal.decreases-loop-left
decreases-loop-left l = l.left
