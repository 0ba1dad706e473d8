use Rattle.std.proofs.Common.{◌≡◌, ◌++◌, ◌+◌, map, drop}
use Rattle.layer_model.specs.Walks.{new_part}
use Rattle.dispatch_chain.specs.Rows.{kinds_placed}
use Rattle.dispatch_chain.specs.Seats.{seat_of, seats_from, state_of}
use Rattle.dispatch_chain.proofs.states.new_parts.Given as goal

abbrev pub invariant-loop-part : goal.invariant-loop-part
invariant-loop-part l = record {
  states : map state_of l.parts.items ++ map new_part (kinds_placed (drop l.part-index l.placed)) ≡ map new_part (kinds_placed l.placed);
  seats : map seat_of l.parts.items ++ seats_from (l.place + 1) (kinds_placed (drop l.part-index l.placed)) ≡ seats_from 1 (kinds_placed l.placed);
}
