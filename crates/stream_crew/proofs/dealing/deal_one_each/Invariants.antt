use Rattle.std.proofs.Common.{◌≡◌, ◌+◌, List, ◌++◌, drop, length, map, reverse, take}
use Rattle.stream_log.specs.Log.{SeenView}
use Rattle.trace_format.specs.declared.event.Name.{Name}
use Rattle.stream_crew.specs.Dealing.{dealt, items_of, slot_of}
use Rattle.stream_crew.proofs.dealing.deal_one_each.Given as goal

abbrev pub invariant-loop-number : goal.invariant-loop-number
invariant-loop-number l = record {
  count : length l.slots.items ≡ length l.fn.slots.items;
  left : length l.tokens.items + l.number ≡ length l.fn.tokens.items;
  dealt : (round rest : List (Name × SeenView)) → reverse l.fn.tokens.items ≡ round ++ rest → length round ≡ length l.fn.slots.items
      → (items_of l.slots.items ≡ dealt (items_of l.fn.slots.items) (take l.number (map slot_of round))) × (reverse l.tokens.items ≡ drop l.number round ++ rest);
}
