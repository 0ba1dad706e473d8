use Rattle.std.proofs.Common.{◌≡◌, ◌+◌, length, drop}
use Rattle.std.specs.Prelude.{vec_capacity}
use Rattle.terminator.specs.Table.{written}
use Rattle.terminator.proofs.values.write.Given as goal

abbrev pub invariant-loop-k : goal.invariant-loop-k
invariant-loop-k l = record {
  rest : written l.flat.items (l.start + l.k) (drop l.k l.values) ≡ written l.initial.flat.items l.start l.values;
  capacity : vec_capacity l.flat ≡ vec_capacity l.initial.flat;
  long : length l.flat.items ≡ length l.initial.flat.items;
}
