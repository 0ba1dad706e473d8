use Rattle.std.proofs.Common.{◌≡◌, ◌≤◌, ◌+◌, length, take, true, vec_capacity}
use Rattle.object_model.specs.declared.Object.{Object}
use Rattle.object_model.specs.Objects.{is_in}
use Rattle.session_tables.specs.Owned.{LeadToNodes, has_head, listed_in}
use Rattle.session_tables.specs.Placed.{table_room}
use Rattle.session_tables.proofs.owned_lists.relist_at_all.Given as goal

abbrev pub invariant-loop-owner : goal.invariant-loop-owner
invariant-loop-owner l = record {
  listed : (w : Object) → has_head l.initial.lists.heads w ≡ true → is_in (take l.owner-index l.owners) w ≡ true → is_in (listed_in l.lists w) l.object ≡ true;
  stays : (w o : Object) → is_in (listed_in l.initial.lists w) o ≡ true → is_in (listed_in l.lists w) o ≡ true;
  heads : (w : Object) → has_head l.lists.heads w ≡ has_head l.initial.lists.heads w;
  few : length l.lists.nodes.items ≤ length l.initial.lists.nodes.items + l.owner-index;
  capacity : vec_capacity l.initial.lists.nodes ≤ vec_capacity l.lists.nodes;
  room : table_room l.initial.lists.heads ≤ table_room l.lists.heads;
  chained : LeadToNodes l.lists.heads l.lists.nodes.items;
}
