use Rattle.std.proofs.Common.{◌≡◌, ◌∙◌, ap, sym, subst}
use Rattle.std.specs.Prelude.{IfOk}
use Rattle.std.specs.Option.{option_map}
use Rattle.dispatch_chain.specs.Seats.{kinds_of}
use Rattle.session_parts.specs.Parts.{KeepAlike}
use Rattle.chain_session.specs.Splitting.{AreSplit, KeepNothing, kinds_in_force}
use Rattle.chain_session.proofs.session.Session.split.Goals as goal

pub returns-in-None-clause-parts : goal.returns-in-None-clause-parts
returns-in-None-clause-parts g c =
    let nothing : KeepNothing c.new.result = record { states = c.new.ensures.states; ids = c.new.ensures.ids; routes = c.new.ensures.routes; drivers = c.new.ensures.drivers; names = c.new.ensures.names } in
    subst (λ o. AreSplit o c.new.result) (sym (ap (λ t. option_map (λ x. x.value.kept) t) c.in-None.is)) nothing

pub returns-in-None-clause-kinds : goal.returns-in-None-clause-kinds
returns-in-None-clause-kinds g c = ap kinds_of c.new.ensures.states ∙ sym (ap (λ t. kinds_in_force (option_map (λ x. x.value.kept) t)) c.in-None.is)

pub returns-in-Some-clause-parts : goal.returns-in-Some-clause-parts
returns-in-Some-clause-parts g c =
    let alike = subst (λ x. IfOk c.copy.result (λ parts. KeepAlike parts x.kept.parts)) c.deref.ensures c.copy.ensures.alike in
    subst (λ o. IfOk c.copy.result (λ parts. AreSplit o parts)) (sym (ap (λ t. option_map (λ x. x.value.kept) t) c.in-Some.is)) alike

pub returns-in-Some-clause-kinds : goal.returns-in-Some-clause-kinds
returns-in-Some-clause-kinds g c =
    let kinds = subst (λ x. IfOk c.copy.result (λ parts. kinds_of parts.states.kept ≡ kinds_of x.kept.parts.states.kept)) c.deref.ensures c.copy.ensures.kinds in
    subst (λ o. IfOk c.copy.result (λ parts. kinds_of parts.states.kept ≡ kinds_in_force o)) (sym (ap (λ t. option_map (λ x. x.value.kept) t) c.in-Some.is)) kinds
