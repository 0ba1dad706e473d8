use Rattle.std.proofs.Common.{◌≤◌, ◌+◌, ◌*◌, length, take}
use Rattle.object_model.specs.History.{births_of}
use Rattle.replay_model.specs.Past.{objects_of}
use Rattle.session_tables.specs.Lined.{AreAdded}
use Rattle.session_tables.proofs.object_table.ObjectTable.add_all.Given as goal

abbrev pub invariant-loop-born : goal.invariant-loop-born
invariant-loop-born l = record {
  added : AreAdded l.fn.self.births (births_of l.fn.self.births l.created l.owners (objects_of (take l.born-index l.made))) l.self.births;
  spare : l.fn.self.spare ≤ l.self.spare + l.born-index;
  links : length l.owners ≤ 3 → l.fn.self.links ≤ l.self.links + 3 * l.born-index;
  owners : l.fn.self.owners ≤ l.self.owners;
}
