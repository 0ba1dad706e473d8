use Rattle.dispatch_chain.proofs.Buffers.{buffer_more}
use Rattle.dispatch_chain.proofs.held.buffers.Goals as goal

pub loop-part-preserved : goal.loop-part-preserved
loop-part-preserved c =
    buffer_more c.loop-part.forms.items c.push.new.self.items c.in_ok-with_room.field-0 c.loop-part._part c.args.handles c.args.bytes c.loop-part.invariant c.in_ok-push.ensures.items c.in_ok-with_room.ensures.handles
    c.in_ok-with_room.ensures.bytes
