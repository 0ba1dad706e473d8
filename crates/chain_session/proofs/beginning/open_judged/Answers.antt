use Rattle.std.proofs.Common.{◌≡◌, ◌∙◌, ap, subst, sym}
use Rattle.session_parts.specs.Opening.{begin_content, opened_first}
use Rattle.chain_session.specs.declared.call.OpenCall.{OpenCall}
use Rattle.chain_session.specs.Judging.{IsJudged}
use Rattle.chain_session.specs.Opened.{opened_of}
use Rattle.chain_session.proofs.beginning.open_judged.Goals as goal

pub judge-requires-clause-opened : goal.judge-requires-clause-opened
judge-requires-clause-opened g c =
    let e = begin_content c.args.begin in
    let x = c.args.kept.now.parts in
    subst (λ (p : OpenCall). opened_of p ≡ opened_first c.args.number x.names.kept.names e p.refusal) (sym c.deref_mut.ensures.value)
    (c.in_ok-call.ensures.opened
    ∙ (ap (λ ns. opened_first c.args.number ns e c.args.start.refusal) c.named.ensures.names ∙ ap (λ r. opened_first c.args.number x.names.kept.names e r) (sym c.in_ok-call.ensures.refusal)))

pub returns-clause-judged : goal.returns-clause-judged
returns-clause-judged g c =
    let e = begin_content c.args.begin in
    let x = c.args.kept.now.parts in
    subst (λ r. IsJudged x.names.kept.births x.names.kept.handed x.states.kept (opened_first c.args.number x.names.kept.names e r) c.judge.new.call c.judge.new.verdict c.judge.new.parts.states.kept)
    (ap (λ (p : OpenCall). p.refusal) c.deref_mut.ensures.value ∙ c.in_ok-call.ensures.refusal) c.in_ok-judge.ensures.judged
