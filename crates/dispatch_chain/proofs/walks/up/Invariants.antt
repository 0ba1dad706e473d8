use Rattle.std.proofs.Common.{◌≡◌, ◌≤◌, map, drop, length}
use Rattle.command_tables.specs.Calls.{call_content}
use Rattle.dispatch_chain.specs.Entries.{leave_entries}
use Rattle.dispatch_chain.specs.Kept.{AllKept}
use Rattle.dispatch_chain.specs.Room.{room_of}
use Rattle.dispatch_chain.specs.Seats.{seat_of, state_of}
use Rattle.dispatch_chain.proofs.Taken.{AreTaken}
use Rattle.dispatch_chain.proofs.walks.up.Given as goal

abbrev pub invariant-loop-i : goal.invariant-loop-i
invariant-loop-i g l = record {
  told : leave_entries l.thread (drop l.i l.entries) (drop l.i (map call_content l.forms)) (record { states = map state_of l.fn.parts; results = l.fn.results }) ≡ record { states = map state_of l.parts; results = l.results };
  entries : l.i ≤ length l.entries;
  forms : l.i ≤ length l.forms;
  seats : map seat_of l.parts ≡ map seat_of l.fn.parts;
  kept : AllKept (map state_of l.parts);
  count : length l.results ≡ length l.fn.results;
  taken : AreTaken l.entries l.i (length l.fn.results) (map room_of l.fn.parts) (map room_of l.parts);
}

abbrev pub decreases-loop-i : goal.decreases-loop-i
decreases-loop-i g l = l.i
