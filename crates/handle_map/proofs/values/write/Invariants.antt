use Rattle.std.proofs.Common.{◌≡◌, ◌+◌, length, drop, vec_capacity}
use Rattle.handle_map.specs.Spans.{written}
use Rattle.handle_map.proofs.values.write.Given as goal

abbrev pub invariant-loop-k : goal.invariant-loop-k
invariant-loop-k l = record {
  rest : written l.flat.items (l.start + l.k) (drop l.k l.values) ≡ written l.initial.flat.items l.start l.values;
  long : length l.flat.items ≡ length l.initial.flat.items;
  capacity : vec_capacity l.flat ≡ vec_capacity l.initial.flat;
}
