use Rattle.std.proofs.Common.{◌≡◌, ◌≤◌, length, map, take, vec_capacity}
use Rattle.replay_model.specs.Past.{argument_in}
use Rattle.session_parts.proofs.names.put_places.Given as goal

abbrev pub invariant-loop-name : goal.invariant-loop-name
invariant-loop-name l = record {
  places : l.places.items ≡ map (argument_in l.names.names) (take l.name-index l.at);
  count : length l.places.items ≡ l.name-index;
  room : vec_capacity l.initial.places ≤ vec_capacity l.places;
}
