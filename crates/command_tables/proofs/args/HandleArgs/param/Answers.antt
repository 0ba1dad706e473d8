use Rattle.std.proofs.Common.{ap, arith}
use Rattle.command_tables.specs.Handles.{Handles}
use Rattle.command_tables.proofs.Cut.{counts_seen}
use Rattle.command_tables.proofs.args.HandleArgs.param.Goals as goal

pub piece_of-requires-clause-param : goal.piece_of-requires-clause-param
piece_of-requires-clause-param g c =
    let counts = counts_seen _ _ _ _ _ c.self.invariant (ap (λ (h : Handles). h.lists) c.self.view_is) in
    rw c.deref.ensures.value (omega (arith, counts.params, c.requires))
