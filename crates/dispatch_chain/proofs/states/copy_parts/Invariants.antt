use Rattle.std.proofs.Common.{◌≡◌, map, take}
use Rattle.dispatch_chain.specs.Seats.{seat_of, state_of}
use Rattle.dispatch_chain.proofs.states.copy_parts.Given as goal

abbrev pub invariant-loop-i : goal.invariant-loop-i
invariant-loop-i l = record {
  states : map state_of l.copy.items ≡ map state_of (take l.i l.parts);
  seats : map seat_of l.copy.items ≡ map seat_of (take l.i l.parts);
}
