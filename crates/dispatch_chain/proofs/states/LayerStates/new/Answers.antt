use Rattle.std.proofs.Common.{◌∙◌, ap, subst, sym}
use Rattle.dispatch_chain.specs.Kept.{AllKept}
use Rattle.dispatch_chain.specs.Rows.{kinds_placed}
use Rattle.dispatch_chain.specs.Seats.{kinds_of, seats_from}
use Rattle.dispatch_chain.proofs.Kept.{all_new}
use Rattle.dispatch_chain.proofs.Seats.{kinds_new}
use Rattle.dispatch_chain.proofs.states.LayerStates.new.Goals as goal

pub invariant_of-result : goal.invariant_of-result
invariant_of-result c = record {
  seats = c.in_ok-parts.ensures.seats ∙ ap (seats_from 1) (sym (ap kinds_of c.in_ok-parts.ensures.states ∙ kinds_new (kinds_placed c.deref.result.now)));
  kept = subst AllKept (sym c.in_ok-parts.ensures.states) (all_new (kinds_placed c.deref.result.now));
}
