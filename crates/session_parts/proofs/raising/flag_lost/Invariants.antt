use Rattle.std.proofs.Common.{◌≡◌, ◌≤◌, ◌+◌, ◌++◌, length, map, take, vec_capacity}
use Rattle.session_parts.proofs.raising.flag_lost.Given as goal

abbrev pub invariant-loop : goal.invariant-loop
invariant-loop l = record {
  flags : l.flags.items ≡ l.initial.flags.items ++ map (λ _. 0) (take l.index l.lost);
  count : length l.flags.items ≡ length l.initial.flags.items + l.index;
  room : vec_capacity l.initial.flags ≤ vec_capacity l.flags;
}
