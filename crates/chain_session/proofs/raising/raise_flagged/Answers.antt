use Rattle.session_parts.proofs.Rising.{none_stopped, once_of}
use Rattle.chain_session.proofs.Rising.{below_so, sent_so}
use Rattle.chain_session.proofs.raising.raise_flagged.Goals as goal

pub walk_leave-requires-clause-once : goal.walk_leave-requires-clause-once
walk_leave-requires-clause-once g c =
    once_of c.args.call.now.thread c.args.states.now.kept c.args.held.now c.answer.new.results _ c.requires.rise
    (below_so c.args.terminator.now c.answer.new.terminator.ids c.args.call.now c.args.made.now c.args.results.now c.answer.new.results c.requires.flags c.in_ok-answer.ensures.left)

pub walk_leave-requires-clause-lost : goal.walk_leave-requires-clause-lost
walk_leave-requires-clause-lost g c = none_stopped c.args.call.now.thread c.args.states.now.kept c.args.held.now c.answer.new.results _ c.requires.rise

pub returns-clause-chain : goal.returns-clause-chain
returns-clause-chain g c = λ forms h.
    sent_so c.args.states.now.kept c.walk_leave.new.states.kept c.args.terminator.now c.answer.new.terminator c.args.names.now.kept.handed c.hand_each.new.self.kept.handed c.args.call.now forms c.args.made.now c.args.results.now c.answer.new.results c.walk_leave.new.results
    c.requires.flags c.in_ok-answer.ensures.left c.in_ok-answer.ensures.routes (c.in_ok-walk_leave.ensures.states forms h) (c.in_ok-walk_leave.ensures.results forms h) c.in_ok-hand_each.ensures.handed
