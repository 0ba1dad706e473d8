use Rattle.std.proofs.Common.{◌≡◌, ◌≤◌, ◌+◌, true, take}
use Rattle.object_model.specs.declared.Object.{Object}
use Rattle.object_model.specs.Objects.{is_in}
use Rattle.session_tables.specs.Owned.{LeadToNodes, listed_in, lists_room}
use Rattle.session_tables.proofs.owned_lists.list_at_all.Given as goal

abbrev pub invariant-loop-owner : goal.invariant-loop-owner
invariant-loop-owner l = record {
  done : (w : Object) → is_in (take l.owner-index l.owners) w ≡ true → is_in (listed_in l.lists w) l.object ≡ true;
  stays : (w o : Object) → is_in (listed_in l.initial.lists w) o ≡ true → is_in (listed_in l.lists w) o ≡ true;
  room : lists_room l.initial.lists ≤ lists_room l.lists + l.owner-index;
  chained : LeadToNodes l.lists.heads l.lists.nodes.items;
}
