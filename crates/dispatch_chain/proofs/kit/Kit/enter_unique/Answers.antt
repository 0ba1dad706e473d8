use Rattle.dispatch_chain.proofs.Buffers.{form_kept}
use Rattle.dispatch_chain.proofs.kit.Kit.enter_unique.Goals as goal

pub returns-clause-call : goal.returns-clause-call
returns-clause-call g c = (c.args.self.now.unique_enters _ _ _ _ c.unique_enter.ensures.0).0

pub returns-clause-form_room : goal.returns-clause-form_room
returns-clause-form_room g c =
    let room = (c.args.self.now.unique_enters _ _ _ _ c.unique_enter.ensures.0).1 in form_kept c.args.call.now c.unique_enter.new.arg3 room.0 room.1
