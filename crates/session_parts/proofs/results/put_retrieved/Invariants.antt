use Rattle.std.proofs.Common.{◌≡◌, ◌≤◌, length, map, take, vec_capacity, ℕ}
use Rattle.std.specs.List.{enumerate_from}
use Rattle.trace_format.specs.declared.event.Name.{Name}
use Rattle.replay_model.specs.Births.{retrieved_object}
use Rattle.session_parts.specs.Opened.{returning_shown}
use Rattle.session_parts.proofs.results.put_retrieved.Given as goal

abbrev pub invariant-loop-k : goal.invariant-loop-k
invariant-loop-k l = record {
  made : l.all.items ≡ map (λ (x : ℕ × Name). record { place = x.0; name = x.1; object = retrieved_object l.table.kept (returning_shown l.call) l.owner l.ty x.0 x.1 }) (enumerate_from 0 (take l.k l.names));
  count : length l.all.items ≡ l.k;
  room : vec_capacity l.initial.all ≤ vec_capacity l.all;
}
