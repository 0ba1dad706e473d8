use Rattle.std.proofs.Common.{◌-◌, ◌∙◌, ap, arith, get_or}
use Rattle.std.specs.Prelude.{vec_capacity}
use Rattle.command_tables.specs.Calls.{CallContent, call_content}
use Rattle.dispatch_chain.specs.Seats.{state_of}
use Rattle.dispatch_chain.proofs.Kept.{kept_set}
use Rattle.dispatch_chain.proofs.Reserved.{rooms_set}
use Rattle.dispatch_chain.proofs.Roomy.{can_here, fits_here}
use Rattle.dispatch_chain.proofs.Seats.{seat_there, seat_set}
use Rattle.dispatch_chain.proofs.Stepping.{on_ok, on_four, entered_at, entered_cmd}
use Rattle.dispatch_chain.proofs.walks.enter_at.Goals as goal

pub enter_part-requires-clause-seat : goal.enter_part-requires-clause-seat
enter_part-requires-clause-seat g c = seat_there c.args.parts.now 1 (c.args.entry.place - 1) c.args.entry.place _ c.requires.seats c.requires.to (omega arith)

pub returns-clause-down : goal.returns-clause-down
returns-clause-down g c =
    on_four c.enter_part.result (entered_at c.args.thread c.args.number c.args.entry c.args.parts.now c.index-parts-index.result c.enter_part.new.part c.args.call.now c.enter_part.new.call c.args.verdict.now c.enter_part.new.verdict c.requires.to)
    c.enter_part.ensures.state c.enter_part.ensures.call c.enter_part.ensures.reports c.enter_part.ensures.skip

pub returns-clause-seats : goal.returns-clause-seats
returns-clause-seats g c = seat_set c.args.parts.now (c.args.entry.place - 1) c.enter_part.new.part c.index-parts-index.result c.requires.to c.enter_part.ensures.seat

pub returns-clause-cmd : goal.returns-clause-cmd
returns-clause-cmd g c = on_ok c.enter_part.result (λ h. ap (λ (x : CallContent). x.cmd) h ∙ entered_cmd c.args.thread c.args.number c.args.entry.place (state_of (get_or c.args.parts.now (c.args.entry.place - 1) c.index-parts-index.result)) (call_content c.args.call.now)) c.enter_part.ensures.call

pub returns-clause-kept : goal.returns-clause-kept
returns-clause-kept g c = kept_set c.args.parts.now (c.args.entry.place - 1) c.enter_part.new.part c.index-parts-index.result c.requires.to c.enter_part.ensures.kept c.requires.kept

pub returns-clause-rooms : goal.returns-clause-rooms
returns-clause-rooms g c = rooms_set c.args.parts.now (c.args.entry.place - 1) c.enter_part.new.part c.index-parts-index.result c.enter_part.ensures.births_room c.enter_part.ensures.uses_room

pub returns-clause-succeeds : goal.returns-clause-succeeds
returns-clause-succeeds g c = λ can fits.
    c.enter_part.ensures.succeeds (can_here c.args.thread c.args.number c.args.parts.now (c.args.entry.place - 1) c.index-parts-index.result (call_content c.args.call.now) c.requires.to can)
    (fits_here c.args.thread c.args.number c.args.entry c.args.parts.now c.index-parts-index.result c.args.call.now c.args.verdict.now (vec_capacity c.args.verdict.now.findings) c.requires.to fits)
