use Rattle.std.proofs.Common.{◌∙◌, List, ap, map, subst, sym}
use Rattle.object_model.specs.declared.PartKind.{PartKind}
use Rattle.chain_model.specs.Simulated.{base_of}
use Rattle.chain_model.proofs.Simulating.{fresh_kinds}
use Rattle.dispatch_chain.specs.Holding.{IsHeldOf}
use Rattle.dispatch_chain.specs.Seats.{kinds_of}
use Rattle.chain_session.specs.Opened.{opened_of}
use Rattle.chain_session.specs.Shown.{kinds_chained}
use Rattle.chain_session.proofs.starting.start.Goals as goal

pub returns-in_ok-started-in-Some-clause-held : goal.returns-in_ok-started-in-Some-clause-held
returns-in_ok-started-in-Some-clause-held g c =
    subst (λ (ks : List PartKind). IsHeldOf c.in_ok-started-in-Some.started.held ks (map (λ _. base_of (opened_of c.args.call.now)) ks)) (sym (ap kinds_chained c.in-Some.is)) c.in_ok-started-in-Some.ensures.held

pub returns-in_ok-started-in-Some-clause-table : goal.returns-in_ok-started-in-Some-clause-table
returns-in_ok-started-in-Some-clause-table g c = c.in_ok-started-in-Some.ensures.rows ∙ sym (ap kinds_of c.in_ok-started-in-Some.ensures.states ∙ fresh_kinds (opened_of c.args.call.now) _)
