use Rattle.std.proofs.Common.{◌≡◌, ◌≤◌, false, length}
use Rattle.object_model.specs.declared.Object.{Object}
use Rattle.object_model.specs.Objects.{is_in}
use Rattle.object_model.specs.History.{owners_in}
use Rattle.session_tables.specs.Owned.{objects_from, head_in}
use Rattle.session_tables.specs.Placed.{ArePlaced, table_room}
use Rattle.session_tables.proofs.Listing.{AreWalked}
use Rattle.session_tables.proofs.object_table.end_each.Given as goal

abbrev pub invariant-loop-link : goal.invariant-loop-link
invariant-loop-link l = record {
  within : l.link ≤ length l.nodes;
  walked : AreWalked l.initial.births.births l.births.births (objects_from l.nodes l.fn.head) (objects_from l.nodes l.link) l.named;
  heads : (w : Object) → is_in (owners_in l.initial.births.births w) l.named ≡ false → head_in l.heads w ≡ head_in l.initial.heads w;
  fewer : (w : Object) → head_in l.heads w ≤ head_in l.initial.heads w;
  spare : l.initial.births.spare ≤ l.births.spare;
  room : table_room l.initial.heads ≤ table_room l.heads;
  placed : ArePlaced l.heads;
}

abbrev pub decreases-loop-link : goal.decreases-loop-link
decreases-loop-link l = l.link
