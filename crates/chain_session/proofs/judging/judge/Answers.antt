use Rattle.std.proofs.Common.{◌≡◌, ap, rules, subst, true}
use Rattle.std.specs.Prelude.{is_some}
use Rattle.replay_model.specs.Past.{Opened}
use Rattle.chain_session.specs.Judging.{IsJudged}
use Rattle.chain_session.proofs.Judged.{refused_passes, refused_so}
use Rattle.chain_session.proofs.judging.judge.Goals as goal

pub returns-then-is_some-clause-judged : goal.returns-then-is_some-clause-judged
returns-then-is_some-clause-judged g c =
    let x = c.args.parts.now in
    let refused : is_some c.args.call.now.refusal ≡ true = search rules in
    subst (λ (o : Opened). IsJudged x.names.kept.births x.names.kept.handed x.states.kept o c.args.call.now c.args.verdict.now x.states.kept) c.requires.opened
    (refused_so x.names.kept.births x.names.kept.handed x.states.kept c.args.call.now c.args.verdict.now refused (ap (λ (o : Opened). o.stop) c.requires.opened) c.requires.empty c.requires.unheld)

pub returns-then-is_some-clause-passes : goal.returns-then-is_some-clause-passes
returns-then-is_some-clause-passes g c =
    let refused : is_some c.args.call.now.refusal ≡ true = search rules in
    refused_passes c.args.parts.now c.args.call.now refused
