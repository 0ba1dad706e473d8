use Rattle.std.proofs.Common.{◌≡◌, ◌≤◌, ◌+◌, ◌++◌, true, length, map, drop}
use Rattle.std.specs.Prelude.{vec_capacity}
use Rattle.object_model.specs.Uses.{use_of}
use Rattle.thread_layer.specs.Kept.{use_seen}
use Rattle.thread_layer.proofs.uses.add_writes.Given as goal

abbrev pub invariant-loop-i : goal.invariant-loop-i
invariant-loop-i l = record {
  added : map use_seen l.uses.items ++ map (use_of l.at.param l.at.index true) (drop l.i l.objects) ≡ map use_seen l.fn.uses.items ++ map (use_of l.at.param l.at.index true) l.objects;
  count : length l.uses.items ≡ length l.fn.uses.items + l.i;
  room : vec_capacity l.fn.uses ≤ vec_capacity l.uses;
}
