use Rattle.std.proofs.Common.{◌≡◌, set}
use Rattle.command_tables.specs.Handles.{HasRoom}
use Rattle.session_parts.proofs.Marks.{marked}
use Rattle.session_parts.proofs.forms.mark_places.Given as goal

abbrev pub invariant-loop-k : goal.invariant-loop-k
invariant-loop-k l = record {
  lists : l.all.lists ≡ l.initial.all.lists;
  marks : l.all.marks ≡ set l.initial.all.marks l.p (marked l.k l.at);
  room : HasRoom l.all l.initial.all.slots l.initial.all.room;
}
