use Rattle.std.proofs.Common.{◌≡◌, length, take, vec_capacity}
use Rattle.command_tables.specs.Handles.{list_at}
use Rattle.session_parts.specs.Leaving.{recalled_places}
use Rattle.session_parts.proofs.recalling.recall_places.Given as goal

abbrev pub invariant-loop-k : goal.invariant-loop-k
invariant-loop-k l = record {
  count : length l.at.items ≡ length l.initial.at.items;
  places : l.at.items ≡ recalled_places (take l.k (list_at l.marks.marks l.p)) l.initial.at.items;
  room : vec_capacity l.at ≡ vec_capacity l.initial.at;
}
