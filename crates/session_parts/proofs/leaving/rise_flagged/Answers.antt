use Rattle.std.proofs.Common.{◌≡◌, ◌∙◌, ◌+◌, List, length, map, ap, refl, rules, subst, sym}
use Rattle.command_tables.specs.Calls.{call_content}
use Rattle.model_driver.specs.Driver.{reply_shown}
use Rattle.object_model.specs.Values.{Value}
use Rattle.layer_model.specs.Ids.{IssuedAll}
use Rattle.layer_model.specs.Terminator.{terminator_leave}
use Rattle.dispatch_chain.specs.Room.{AllHaveBirths}
use Rattle.terminator.specs.Calls.{answered, drivers_for}
use Rattle.session_parts.specs.Leaving.{Rising, left_of}
use Rattle.session_parts.proofs.CameUp.{risen}
use Rattle.session_parts.proofs.Rising.{none_stopped, once_of}
use Rattle.session_parts.proofs.leaving.rise_flagged.Goals as goal

pub walk_leave-requires-clause-once : goal.walk_leave-requires-clause-once
walk_leave-requires-clause-once g c =
    let t = c.args.parts.now.terminator in
    let r : Rising = record { thread = c.args.thread; call = call_content c.args.call.now; replies = map reply_shown c.args.replies.now; made = c.args.made.now; lost = c.args.lost.now } in
    let same : c.leave.new.results ≡ (left_of t r).results
    = ap (λ (all : IssuedAll (List Value)). all.results) c.in_ok-leave.ensures.ids ∙ ap (λ born. (terminator_leave t.ids r.call (answered (drivers_for t r.call) r.replies) born).results) c.requires.flags in
    once_of c.args.thread c.args.parts.now.states.kept c.args.held.now c.leave.new.results (left_of t r).results c.requires.may.rise same

pub walk_leave-requires-clause-lost : goal.walk_leave-requires-clause-lost
walk_leave-requires-clause-lost g c = none_stopped c.args.thread c.args.parts.now.states.kept c.args.held.now c.leave.new.results _ c.requires.may.rise

pub returns-clause-chain : goal.returns-clause-chain
returns-clause-chain g c = λ forms h.
    let x = c.args.parts.now in
    let t = c.args.parts.now.terminator in
    let r : Rising = record { thread = c.args.thread; call = call_content c.args.call.now; replies = map reply_shown c.args.replies.now; made = c.args.made.now; lost = c.args.lost.now } in
    let all : IssuedAll (List Value) = record { results = c.leave.new.results; ids = c.leave.new.self.ids } in
    let is : all ≡ left_of t r = c.in_ok-leave.ensures.ids ∙ ap (λ born. terminator_leave t.ids r.call (answered (drivers_for t r.call) r.replies) born) c.requires.flags in
    risen x r forms all c.walk_leave.new.states c.leave.new.self c.walk_leave.new.results c.hand_each.new.self is refl c.in_ok-leave.ensures.routes
    (c.in_ok-walk_leave.ensures.states forms h)
    (c.in_ok-walk_leave.ensures.results forms h)
    c.in_ok-hand_each.ensures.handed

pub returns-clause-births : goal.returns-clause-births
returns-clause-births g c = λ m h.
    let same : length c.leave.new.results ≡ length c.args.results.now = search rules in
    c.in_ok-walk_leave.ensures.births m (subst (λ l. AllHaveBirths (m + l) c.args.parts.now.states.rooms) (sym same) h)
