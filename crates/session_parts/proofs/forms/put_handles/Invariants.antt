use Rattle.std.proofs.Common.{◌≡◌, ◌≤◌, length, map, take, vec_capacity}
use Rattle.chain_model.specs.Chained.{handle_by}
use Rattle.chain_model.specs.Handed.{handle_in}
use Rattle.session_parts.proofs.forms.put_handles.Given as goal

abbrev pub invariant-loop-argument : goal.invariant-loop-argument
invariant-loop-argument l = record {
  handles : l.handles.items ≡ map (handle_by (handle_in l.handed.handed)) (take l.argument-index l.at);
  count : length l.handles.items ≡ l.argument-index;
  room : vec_capacity l.initial.handles ≤ vec_capacity l.handles;
}
