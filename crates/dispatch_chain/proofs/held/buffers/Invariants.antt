use Rattle.dispatch_chain.proofs.Buffers.{AreMade}
use Rattle.dispatch_chain.proofs.held.buffers.Given as goal

abbrev pub invariant-loop-part : goal.invariant-loop-part
invariant-loop-part l = AreMade l.forms.items l._part l.handles l.bytes
