use Rattle.std.proofs.Common.{◌≡◌, map}
use Rattle.dispatch_chain.specs.Room.{KeepRooms, room_of}
use Rattle.dispatch_chain.specs.Seats.{seat_of, state_of}
use Rattle.dispatch_chain.proofs.Reserved.{AreGiven}
use Rattle.dispatch_chain.proofs.states.reserve_parts.Given as goal

abbrev pub invariant-loop-i : goal.invariant-loop-i
invariant-loop-i l = record {
  states : map state_of l.parts ≡ map state_of l.fn.parts;
  seats : map seat_of l.parts ≡ map seat_of l.fn.parts;
  rooms : KeepRooms (map room_of l.fn.parts) (map room_of l.parts);
  given : AreGiven (map state_of l.fn.parts) (map room_of l.parts) l.i l.births l.uses;
}
