use Rattle.std.proofs.Common.{◌≤◌, ◌-◌, length, map, vec_capacity, vec_len}
use Rattle.session_parts.specs.Scratch.{KeepLists}
use Rattle.session_parts.proofs.scratch.add_lists.Given as goal

abbrev pub invariant-loop-alloc : goal.invariant-loop-alloc
invariant-loop-alloc l = record {
  longer : length l.initial.all.items ≤ length l.all.items;
  room : KeepLists (map (λ v. vec_capacity v) l.initial.all.items) (map (λ v. vec_capacity v) l.all.items);
}

abbrev pub decreases-loop-alloc : goal.decreases-loop-alloc
decreases-loop-alloc l = l.count - vec_len l.all
