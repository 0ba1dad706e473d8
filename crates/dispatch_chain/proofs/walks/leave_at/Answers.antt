use Rattle.std.proofs.Common.{◌-◌, length, subst}
use Rattle.command_tables.specs.Calls.{call_content}
use Rattle.dispatch_chain.specs.Entries.{MayLeaveAt}
use Rattle.dispatch_chain.proofs.Kept.{kept_set}
use Rattle.dispatch_chain.proofs.Seats.{seat_set}
use Rattle.dispatch_chain.proofs.Stepping.{on_both, on_ok, left_at, state_there}
use Rattle.dispatch_chain.proofs.Taken.{births_here, births_left, others_stay, uses_left}
use Rattle.dispatch_chain.proofs.walks.leave_at.Goals as goal

pub leave_part-requires-clause-once : goal.leave_part-requires-clause-once
leave_part-requires-clause-once g c = subst (MayLeaveAt (call_content c.args.form.now) c.args.results.now) (state_there c.args.parts.now (c.args.entry.place - 1) c.index-parts-index.result c.requires.to) c.requires.once

pub returns-clause-left : goal.returns-clause-left
returns-clause-left g c =
    on_both c.leave_part.result (left_at c.args.thread c.args.entry c.args.parts.now c.index-parts-index.result c.leave_part.new.part (call_content c.args.form.now) c.args.results.now c.leave_part.new.results c.requires.to)
    c.leave_part.ensures.state c.leave_part.ensures.results

pub returns-clause-seats : goal.returns-clause-seats
returns-clause-seats g c = seat_set c.args.parts.now (c.args.entry.place - 1) c.leave_part.new.part c.index-parts-index.result c.requires.to c.leave_part.ensures.seat

pub returns-clause-kept : goal.returns-clause-kept
returns-clause-kept g c = kept_set c.args.parts.now (c.args.entry.place - 1) c.leave_part.new.part c.index-parts-index.result c.requires.to c.leave_part.ensures.kept c.requires.kept

pub returns-clause-others : goal.returns-clause-others
returns-clause-others g c = others_stay c.args.parts.now (c.args.entry.place - 1) c.leave_part.new.part

pub returns-clause-births : goal.returns-clause-births
returns-clause-births g c = on_ok c.leave_part.result (births_left c.args.parts.now (c.args.entry.place - 1) c.leave_part.new.part c.index-parts-index.result (length c.args.results.now)) c.leave_part.ensures.births

pub returns-clause-succeeds : goal.returns-clause-succeeds
returns-clause-succeeds g c = λ has. c.leave_part.ensures.succeeds (births_here c.args.parts.now (c.args.entry.place - 1) c.index-parts-index.result (length c.args.results.now) c.requires.to has)

pub returns-clause-uses : goal.returns-clause-uses
returns-clause-uses g c = uses_left c.args.parts.now (c.args.entry.place - 1) c.leave_part.new.part c.index-parts-index.result c.leave_part.ensures.uses
