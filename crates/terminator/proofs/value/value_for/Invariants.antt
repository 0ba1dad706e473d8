use Rattle.std.proofs.Common.{◌≡◌, ◌==◌, map, drop}
use Rattle.std.specs.List.{find}
use Rattle.object_model.specs.Values.{Value}
use Rattle.terminator.specs.Table.{value_of}
use Rattle.terminator.proofs.value.value_for.Given as goal

abbrev pub invariant-loop-own : goal.invariant-loop-own
invariant-loop-own l = find (λ (v : Value). v.driver == l.driver) (map value_of (drop l.own-index l.values)) ≡ find (λ (v : Value). v.driver == l.driver) (map value_of l.values)
