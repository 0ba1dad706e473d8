use Rattle.std.proofs.Common.{◌≡◌, ◌++◌, ◌∙◌, length, ap, subst, arith, Option, ℕ, List}
use Rattle.std.specs.List.{flat_map}
use Rattle.std.specs.Prelude.{OnOk}
use Rattle.command_tables.specs.Table.{seen_param}
use Rattle.object_model.specs.Findings.{at_place}
use Rattle.object_model.specs.Uses.{Use, conflicts_in, least, overlap_at}
use Rattle.thread_layer.specs.Kept.{with_opens}
use Rattle.lifetime_layer.specs.Reports.{reports_of}
use Rattle.thread_layer.specs.Findings.{argument_uses}
use Rattle.thread_layer.proofs.Gathered.{behind}
use Rattle.thread_layer.proofs.gathering.gather_argument.Goals as goal

pub returns-clause-findings : goal.returns-clause-findings
returns-clause-findings c =
    let uses = argument_uses (with_opens c.args.beside.records.now.kept c.args.beside.opens.now.opens) c.args.at.param (seen_param c.args.param.now) c.args.at.index c.args.argument in
    let conflict = c.least_conflict-conflict.ensures
    ∙ ap (λ (us : List Use). least (flat_map (conflicts_in c.args.beside.opens.now.opens c.args.beside.thread) us))
    (behind c.add_uses.new.uses.items c.args.gathered.now.uses.items c.deref.result.now c.len-start.result uses (c.len-start.ensures ∙ c.args.gathered.now.uses.ok.0) c.deref.ensures.value c.in_ok-add_uses.ensures.added) in
    subst (λ (x : Option ℕ). OnOk c.report.result (reports_of c.report.new.verdict.findings.items ≡ reports_of c.args.verdict.now.findings.items ++ at_place c.args.beside.place (overlap_at c.args.at.param c.args.at.index x))) conflict c.report.ensures.findings

pub returns-clause-succeeds : goal.returns-clause-succeeds
returns-clause-succeeds c = λ fits.
    let uses = argument_uses (with_opens c.args.beside.records.now.kept c.args.beside.opens.now.opens) c.args.at.param (seen_param c.args.param.now) c.args.at.index c.args.argument in
    let conflict = c.least_conflict-conflict.ensures
    ∙ ap (λ (us : List Use). least (flat_map (conflicts_in c.args.beside.opens.now.opens c.args.beside.thread) us))
    (behind c.add_uses.new.uses.items c.args.gathered.now.uses.items c.deref.result.now c.len-start.result uses (c.len-start.ensures ∙ c.args.gathered.now.uses.ok.0) c.deref.ensures.value c.in_ok-add_uses.ensures.added) in
    let long = ap (λ (x : Option ℕ). length (at_place c.args.beside.place (overlap_at c.args.at.param c.args.at.index x))) conflict in c.report.ensures.succeeds (omega (arith, long, fits.reports))

pub returns-in_err-add_uses-clause-succeeds : goal.returns-in_err-add_uses-clause-succeeds
returns-in_err-add_uses-clause-succeeds c = λ fits. let wrong = c.in_err-add_uses.ensures.succeeds (omega (arith, fits.uses)) (omega (arith, fits.uses)) in cc wrong
