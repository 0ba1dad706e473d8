use Rattle.std.proofs.Common.{◌≡◌, ◌≤◌, ◌+◌, ◌*◌, ◌++◌, filter, length, map, take}
use Rattle.object_model.specs.Keys.{key_payload}
use Rattle.replay_model.specs.Past.{is_new, retrieval}
use Rattle.session_parts.specs.Opened.{returning_shown}
use Rattle.session_parts.proofs.keeping.keep.Given as goal

abbrev pub invariant-loop-b : goal.invariant-loop-b
invariant-loop-b l = record {
  kept : l.table.kept ≡ l.initial.table.kept ++ map (retrieval (returning_shown l.call) l.owner) (filter (is_new l.births.births) (take l.b-index l.made));
  spare : l.initial.table.spare ≤ l.table.spare + l.b-index;
  bytes : l.initial.table.bytes ≤ l.table.bytes + l.b-index * length (key_payload l.call.cmd l.call.payload.now);
}
