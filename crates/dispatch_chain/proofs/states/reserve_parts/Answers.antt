use Rattle.std.proofs.Common.{map, length, ◌<◌, ◌∙◌, arith}
use Rattle.dispatch_chain.specs.Room.{room_of}
use Rattle.dispatch_chain.specs.Seats.{state_of}
use Rattle.dispatch_chain.proofs.Reserved.{births_given, given_more, rooms_on, rooms_set, seats_set, states_set, uses_given}
use Rattle.dispatch_chain.proofs.states.reserve_parts.Goals as goal

pub returns-in_err-reserve_part-clause-rooms : goal.returns-in_err-reserve_part-clause-rooms
returns-in_err-reserve_part-clause-rooms c =
    rooms_on (map room_of c.args.parts.now) (map room_of c.loop-i.parts) _ c.loop-i.invariant.rooms
    (rooms_set c.loop-i.parts c.loop-i.i c.reserve_part.new.part c.index-parts-i.result c.reserve_part.ensures.births_room c.reserve_part.ensures.uses_room)

pub loop-i-preserved : goal.loop-i-preserved
loop-i-preserved c =
    let less : c.loop-i.i < length c.loop-i.parts = omega (arith, c.loop-i-test.true, c.loop-i.auto.parts) in
    record {
      states = states_set c.loop-i.parts c.loop-i.i c.reserve_part.new.part c.index-parts-i.result less c.reserve_part.ensures.state ∙ c.loop-i.invariant.states;
      seats = seats_set c.loop-i.parts c.loop-i.i c.reserve_part.new.part c.index-parts-i.result less c.reserve_part.ensures.seat ∙ c.loop-i.invariant.seats;
      rooms = rooms_on (map room_of c.args.parts.now) (map room_of c.loop-i.parts) _ c.loop-i.invariant.rooms
          (rooms_set c.loop-i.parts c.loop-i.i c.reserve_part.new.part c.index-parts-i.result c.reserve_part.ensures.births_room c.reserve_part.ensures.uses_room);
      given = given_more (map state_of c.args.parts.now) c.loop-i.parts c.loop-i.i c.args.births c.args.uses c.reserve_part.new.part c.index-parts-i.result less c.loop-i.invariant.states c.loop-i.invariant.given
          c.in_ok-reserve_part.ensures.births c.in_ok-reserve_part.ensures.uses;
    }

pub returns-clause-births : goal.returns-clause-births
returns-clause-births c = births_given (map state_of c.args.parts.now) c.loop-i.parts c.loop-i.i c.args.births c.args.uses (omega (arith, c.loop-i-test.false, c.loop-i.auto.parts)) c.loop-i.invariant.given

pub returns-clause-uses : goal.returns-clause-uses
returns-clause-uses c = uses_given (map state_of c.args.parts.now) c.loop-i.parts c.loop-i.i c.args.births c.args.uses (omega (arith, c.loop-i-test.false, c.loop-i.auto.parts)) c.loop-i.invariant.given
