use Rattle.std.proofs.Common.{◌≡◌, ◌≤◌, ◌+◌, map, drop, length}
use Rattle.std.specs.Prelude.{vec_capacity}
use Rattle.command_tables.specs.Calls.{call_content}
use Rattle.object_records.specs.Shape.{HasParams}
use Rattle.lifetime_layer.specs.Shape.{HasFewPlaces}
use Rattle.dispatch_chain.specs.Entries.{AllWithin, enter_entries, with_front, down_of}
use Rattle.dispatch_chain.specs.Forms.{IsAsLarge, KeepsForm, KeepsForms, form_room}
use Rattle.dispatch_chain.specs.Kept.{AllKept}
use Rattle.dispatch_chain.specs.Room.{AllCanEnter, KeepRooms, room_of}
use Rattle.dispatch_chain.specs.Seats.{seat_of, state_of}
use Rattle.dispatch_chain.proofs.walks.down.Given as goal

abbrev pub invariant-loop-entry : goal.invariant-loop-entry
invariant-loop-entry g l = record {
  told : with_front l.held.forms (enter_entries l.thread l.number (drop l.entry-index l.entries) (down_of (map state_of l.parts) l.call l.verdict))
      ≡ with_front l.fn.held.forms (enter_entries l.thread l.number l.entries (down_of (map state_of l.fn.parts) l.fn.call l.fn.verdict));
  within : AllWithin (length l.parts) (drop l.entry-index l.entries);
  seats : map seat_of l.parts ≡ map seat_of l.fn.parts;
  kept : AllKept (map state_of l.parts);
  shape : HasParams l.call;
  few : HasFewPlaces l.call;
  cmd : l.call.cmd ≡ l.held.cmd;
  held : l.held.cmd ≡ l.fn.held.cmd;
  size : IsAsLarge (call_content l.call) (call_content l.fn.call);
  form_room : KeepsForm (form_room l.fn.call) (form_room l.call);
  rooms : KeepRooms (map room_of l.fn.parts) (map room_of l.parts);
  findings_room : vec_capacity l.fn.verdict.findings ≤ vec_capacity l.verdict.findings;
  held_rooms : KeepsForms l.fn.held.rooms l.held.rooms;
  count : length l.held.forms ≡ length l.fn.held.forms + l.entry-index;
  can : AllCanEnter l.thread l.number (map room_of l.fn.parts) l.entries (down_of (map state_of l.fn.parts) l.fn.call l.fn.verdict)
      → AllCanEnter l.thread l.number (map room_of l.fn.parts) (drop l.entry-index l.entries) (down_of (map state_of l.parts) l.call l.verdict);
}
