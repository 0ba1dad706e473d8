use Rattle.std.proofs.Common.{◌≡◌, ◌≤◌, ◌+◌, ◌++◌, map, take}
use Rattle.trace_format.specs.declared.event.Name.{Name}
use Rattle.replay_model.specs.Past.{named_of, object_in}
use Rattle.session_parts.proofs.keeping.keep_names.Given as goal

abbrev pub invariant-loop-b : goal.invariant-loop-b
invariant-loop-b l = record {
  names : (q : Name) → object_in l.names.names q ≡ object_in (l.initial.names.names ++ map named_of (take l.b-index l.made)) q;
  count : l.names.count ≡ l.initial.names.count + l.b-index;
  spare : l.initial.names.spare ≤ l.names.spare + l.b-index;
}
