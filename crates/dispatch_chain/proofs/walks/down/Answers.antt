use Rattle.std.proofs.Common.{◌<◌, ◌+◌, map, drop, length, ◌∙◌, arith, sym}
use Rattle.std.specs.Prelude.{vec_capacity}
use Rattle.std.proofs.lemmas.List.{drop_more}
use Rattle.command_tables.specs.Calls.{call_content}
use Rattle.dispatch_chain.specs.Entries.{down_of, enter_entries}
use Rattle.dispatch_chain.specs.Forms.{form_room}
use Rattle.dispatch_chain.specs.Room.{room_of}
use Rattle.dispatch_chain.specs.Seats.{state_of}
use Rattle.dispatch_chain.proofs.Buffers.{form_on, keeps_on}
use Rattle.dispatch_chain.proofs.Reserved.{rooms_on}
use Rattle.dispatch_chain.proofs.Roomy.{can_now, can_then, holds_there, large_on, one_held, step_fits, within_next}
use Rattle.dispatch_chain.proofs.Seats.{seats_stay}
use Rattle.dispatch_chain.proofs.Stepping.{stopped_there}
use Rattle.dispatch_chain.proofs.Walked.{held_there, told_more}
use Rattle.dispatch_chain.proofs.walks.down.Goals as goal

pub returns-then-verdict-clause-walk : goal.returns-then-verdict-clause-walk
returns-then-verdict-clause-walk g c = held_there _ c.loop-entry.held.forms _ (stopped_there c.args.thread c.args.number (drop c.loop-entry.entry-index c.args.entries.now) (down_of (map state_of c.loop-entry.parts) c.loop-entry.call c.loop-entry.verdict) c.if-verdict.true) ∙ c.loop-entry.invariant.told

pub enter_at-requires-clause-seats : goal.enter_at-requires-clause-seats
enter_at-requires-clause-seats g c = seats_stay c.args.parts.now c.loop-entry.parts c.requires.seats c.loop-entry.invariant.seats

pub returns-in_err-hold-clause-held_rooms : goal.returns-in_err-hold-clause-held_rooms
returns-in_err-hold-clause-held_rooms g c = keeps_on c.args.held.now.rooms c.loop-entry.held.rooms c.hold.new.self.rooms c.loop-entry.invariant.held_rooms c.hold.ensures.rooms

pub returns-in_err-hold-clause-succeeds : goal.returns-in_err-hold-clause-succeeds
returns-in_err-hold-clause-succeeds g c = λ can fits hold.
    let less : length c.loop-entry.held.forms < length c.args.held.now.forms + length c.args.entries.now = omega (arith, c.loop-entry-test.true, c.loop-entry.invariant.count) in
    let wrong = c.in_err-hold.ensures.succeeds (omega (arith, less, hold.count, c.loop-entry.invariant.held_rooms.count))
    (holds_there c.args.held.now.rooms c.loop-entry.held.rooms (length c.args.held.now.forms + length c.args.entries.now) (length c.loop-entry.held.forms) (call_content c.args.call.now) (call_content c.loop-entry.call) hold c.loop-entry.invariant.held_rooms c.loop-entry.invariant.size less) in cc wrong

pub returns-in_err-enter_at-clause-rooms : goal.returns-in_err-enter_at-clause-rooms
returns-in_err-enter_at-clause-rooms g c = rooms_on (map room_of c.args.parts.now) (map room_of c.loop-entry.parts) (map room_of c.enter_at.new.parts) c.loop-entry.invariant.rooms c.enter_at.ensures.rooms

pub returns-in_err-enter_at-clause-held_rooms : goal.returns-in_err-enter_at-clause-held_rooms
returns-in_err-enter_at-clause-held_rooms g c = keeps_on c.args.held.now.rooms c.loop-entry.held.rooms c.hold.new.self.rooms c.loop-entry.invariant.held_rooms c.hold.ensures.rooms

pub returns-in_err-enter_at-clause-succeeds : goal.returns-in_err-enter_at-clause-succeeds
returns-in_err-enter_at-clause-succeeds g c = λ can fits hold.
    let wrong = c.in_err-enter_at.ensures.succeeds
    (can_now c.args.thread c.args.number (map room_of c.args.parts.now) (map room_of c.loop-entry.parts) (drop c.loop-entry.entry-index c.args.entries.now) (drop (c.loop-entry.entry-index + 1) c.args.entries.now) _ (down_of (map state_of c.loop-entry.parts) c.loop-entry.call c.loop-entry.verdict) (drop_more c.args.entries.now c.loop-entry.entry-index _ (omega (arith, c.loop-entry-test.true))) c.if-verdict.false c.loop-entry.invariant.rooms (c.loop-entry.invariant.can can))
    (step_fits c.args.thread c.args.number (drop c.loop-entry.entry-index c.args.entries.now) (drop (c.loop-entry.entry-index + 1) c.args.entries.now) _ (down_of (map state_of c.loop-entry.parts) c.loop-entry.call c.loop-entry.verdict) c.loop-entry.held.forms c.args.held.now.forms (enter_entries c.args.thread c.args.number c.args.entries.now (down_of (map state_of c.args.parts.now) c.args.call.now c.args.verdict.now)) (vec_capacity c.args.verdict.now.findings) (vec_capacity c.loop-entry.verdict.findings) (drop_more c.args.entries.now c.loop-entry.entry-index _ (omega (arith, c.loop-entry-test.true))) c.if-verdict.false c.loop-entry.invariant.told fits c.loop-entry.invariant.findings_room) in cc wrong

pub returns-in_err-enter_at-clause-form_room : goal.returns-in_err-enter_at-clause-form_room
returns-in_err-enter_at-clause-form_room g c = form_on (form_room c.args.call.now) (form_room c.loop-entry.call) (form_room c.enter_at.new.call) c.loop-entry.invariant.form_room c.enter_at.ensures.form_room

pub loop-entry-preserved : goal.loop-entry-preserved
loop-entry-preserved g c = record {
  told = told_more c.args.thread c.args.number (drop c.loop-entry.entry-index c.args.entries.now) (drop (c.loop-entry.entry-index + 1) c.args.entries.now) _ (down_of (map state_of c.loop-entry.parts) c.loop-entry.call c.loop-entry.verdict) (down_of (map state_of c.enter_at.new.parts) c.enter_at.new.call c.enter_at.new.verdict) c.loop-entry.held.forms c.hold.new.self.forms (drop_more c.args.entries.now c.loop-entry.entry-index _ (omega (arith, c.loop-entry-test.true))) c.if-verdict.false c.in_ok-enter_at.ensures.down c.in_ok-hold.ensures.forms
      ∙ c.loop-entry.invariant.told;
  within = within_next (length c.loop-entry.parts) (length c.enter_at.new.parts) c.args.entries.now c.loop-entry.entry-index c.enter_at.auto.parts c.loop-entry.invariant.within;
  seats = c.in_ok-enter_at.ensures.seats ∙ c.loop-entry.invariant.seats;
  kept = c.in_ok-enter_at.ensures.kept;
  shape = c.in_ok-enter_at.ensures.shape;
  few = c.in_ok-enter_at.ensures.few;
  cmd = c.in_ok-enter_at.ensures.cmd ∙ (c.loop-entry.invariant.cmd ∙ sym c.in_ok-hold.ensures.cmd);
  held = c.in_ok-hold.ensures.cmd ∙ c.loop-entry.invariant.held;
  size = large_on (call_content c.args.call.now) (call_content c.loop-entry.call) (call_content c.enter_at.new.call) c.loop-entry.invariant.size c.in_ok-enter_at.ensures.size;
  form_room = form_on (form_room c.args.call.now) (form_room c.loop-entry.call) (form_room c.enter_at.new.call) c.loop-entry.invariant.form_room c.in_ok-enter_at.ensures.form_room;
  rooms = rooms_on (map room_of c.args.parts.now) (map room_of c.loop-entry.parts) (map room_of c.enter_at.new.parts) c.loop-entry.invariant.rooms c.in_ok-enter_at.ensures.rooms;
  findings_room = omega (arith, c.loop-entry.invariant.findings_room, c.in_ok-enter_at.ensures.findings_room);
  held_rooms = keeps_on c.args.held.now.rooms c.loop-entry.held.rooms c.hold.new.self.rooms c.loop-entry.invariant.held_rooms c.in_ok-hold.ensures.rooms;
  count = one_held c.loop-entry.held.forms c.hold.new.self.forms (call_content c.loop-entry.call) (length c.args.held.now.forms) c.loop-entry.entry-index c.in_ok-hold.ensures.forms c.loop-entry.invariant.count;
  can = λ h. can_then c.args.thread c.args.number (map room_of c.args.parts.now) (drop c.loop-entry.entry-index c.args.entries.now) (drop (c.loop-entry.entry-index + 1) c.args.entries.now) _ (down_of (map state_of c.loop-entry.parts) c.loop-entry.call c.loop-entry.verdict) (down_of (map state_of c.enter_at.new.parts) c.enter_at.new.call c.enter_at.new.verdict) (drop_more c.args.entries.now c.loop-entry.entry-index _ (omega (arith, c.loop-entry-test.true))) c.if-verdict.false c.in_ok-enter_at.ensures.down (c.loop-entry.invariant.can h);
}
