use Rattle.std.proofs.Common.{◌≡◌, ◌≤◌, ◌<◌, ℕ, Some, length, map, slice_get, vec_capacity}
use Rattle.session_parts.specs.Scratch.{KeepLists}
use Rattle.session_parts.proofs.scratch.widen.Given as goal

abbrev pub invariant-loop-k : goal.invariant-loop-k
invariant-loop-k l = record {
  count : length l.all.items ≡ length l.initial.all.items;
  wide : (i : ℕ) (m : ℕ) → i < l.k → slice_get (map (λ v. vec_capacity v) l.all.items) i ≡ Some m → l.n ≤ m;
  room : KeepLists (map (λ v. vec_capacity v) l.initial.all.items) (map (λ v. vec_capacity v) l.all.items);
}
