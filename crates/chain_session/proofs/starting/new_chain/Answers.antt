use Rattle.std.proofs.Common.{List, map, subst}
use Rattle.object_model.specs.declared.PartKind.{PartKind}
use Rattle.chain_model.specs.Simulated.{base_of}
use Rattle.dispatch_chain.specs.Holding.{IsHeldOf}
use Rattle.chain_session.specs.Opened.{opened_of}
use Rattle.chain_session.proofs.starting.new_chain.Goals as goal

pub returns-clause-held : goal.returns-clause-held
returns-clause-held g c = subst (λ (ks : List PartKind). IsHeldOf c.take_in.new.held ks (map (λ _. base_of (opened_of c.args.call.now)) ks)) c.in_ok-table.ensures c.in_ok-take_in.ensures.held
