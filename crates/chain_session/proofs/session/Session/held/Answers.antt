use Rattle.std.proofs.Common.{◌∙◌, Some, ap, sym, subst}
use Rattle.std.specs.Option.{option_map}
use Rattle.chain_session.specs.Standing.{Holds}
use Rattle.chain_session.proofs.Held.{holds_none, holds_so}
use Rattle.chain_session.proofs.session.Session.held.Goals as goal

pub returns-in-None : goal.returns-in-None
returns-in-None g c = subst (λ o. Holds o 0) (sym (ap (λ t. option_map (λ x. x.value.kept) t) c.in-None.is)) holds_none

pub returns-in-Some : goal.returns-in-Some
returns-in-Some g c =
    subst (λ o. Holds o c.held.result) (sym (ap (λ t. option_map (λ x. x.value.kept) t) c.in-Some.is ∙ ap (λ x. Some x.kept) (sym c.deref.ensures)))
    (holds_so c.deref.result.now.kept c.held.result c.held.ensures.count c.held.ensures.apart)
