use Rattle.dispatch_chain.proofs.Buffers.{keeps_more}
use Rattle.dispatch_chain.proofs.held.make_room.Goals as goal

pub returns-in_ok-push-clause-rooms : goal.returns-in_ok-push-clause-rooms
returns-in_ok-push-clause-rooms c = keeps_more c.args.forms.now.items c.push.new.self.items _ c.in_ok-push.ensures.items
