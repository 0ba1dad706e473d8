use Rattle.std.proofs.Common.{◌≡◌, ◌≤◌, length, take, true, vec_capacity}
use Rattle.object_model.specs.declared.Object.{Object}
use Rattle.object_model.specs.Objects.{is_in}
use Rattle.object_model.specs.History.{owners_in}
use Rattle.session_tables.specs.Births.{births_shown}
use Rattle.session_tables.specs.Owned.{LeadToNodes, has_head, links_of, listed_in}
use Rattle.session_tables.specs.Placed.{table_room}
use Rattle.session_tables.proofs.owned_lists.relist.Given as goal

abbrev pub invariant-loop-birth : goal.invariant-loop-birth
invariant-loop-birth l = record {
  listed : (w o : Object) → has_head l.initial.lists.heads w ≡ true → is_in (owners_in (births_shown (take l.birth-index l.births)) o) w ≡ true → is_in (listed_in l.lists w) o ≡ true;
  heads : (w : Object) → has_head l.lists.heads w ≡ has_head l.initial.lists.heads w;
  few : length l.lists.nodes.items ≤ links_of (take l.birth-index l.births);
  capacity : vec_capacity l.initial.lists.nodes ≤ vec_capacity l.lists.nodes;
  room : table_room l.initial.lists.heads ≤ table_room l.lists.heads;
  chained : LeadToNodes l.lists.heads l.lists.nodes.items;
}
