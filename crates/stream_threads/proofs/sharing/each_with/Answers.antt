use Rattle.stream_threads.proofs.Left.{leaves_so}
use Rattle.stream_threads.proofs.sharing.each_with.Goals as goal

pub returns-clause-changes : goal.returns-clause-changes
returns-clause-changes g c i d less = let x = (c.for_each_mut.ensures i d less).1 in leaves_so x.call x.argument_is x.left
