use Rattle.std.proofs.Common.{◌≡◌, ◌++◌, ◌∙◌, ℕ, length, ap, subst, arith, refl, List}
use Rattle.std.specs.List.{flat_map}
use Rattle.std.specs.Prelude.{OnOk}
use Rattle.command_tables.specs.Table.{ParamSpec, RowSpec, row_of}
use Rattle.object_model.specs.declared.Argument.{Argument}
use Rattle.object_model.specs.Findings.{Report}
use Rattle.object_model.specs.Objects.{is_in, object_of}
use Rattle.object_model.specs.Rules.{params_from}
use Rattle.object_model.specs.Uses.{conflicts_in, least, overlap_at, uses_at, uses_in}
use Rattle.layer_model.specs.Parts.{use_failures}
use Rattle.object_records.specs.Shape.{arguments_of}
use Rattle.thread_layer.specs.Kept.{with_opens}
use Rattle.thread_layer.specs.declared.object_use.ObjectUse.{ObjectUse}
use Rattle.lifetime_layer.specs.Reports.{reports_of}
use Rattle.thread_layer.specs.Findings.{argument_reports, argument_uses}
use Rattle.lifetime_layer.proofs.Room.{long_at}
use Rattle.thread_layer.proofs.Gathered.{params_placed}
use Rattle.thread_layer.proofs.gathering.gather.Goals as goal

pub returns-clause-findings : goal.returns-clause-findings
returns-clause-findings c =
    subst (λ (x : List Report). OnOk c.gather_params.result (reports_of c.gather_params.new.verdict.findings.items ≡ reports_of c.args.verdict.now.findings.items ++ x))
    (ap (λ (r : RowSpec). params_from (argument_reports c.args.beside.place c.args.beside.thread (with_opens c.args.beside.records.now.kept c.args.beside.opens.now.opens)) 0 r.params (arguments_of c.args.call.now)) c.row.ensures
    ∙ params_placed c.args.beside.place
    (λ i p k a. overlap_at i k (least (flat_map (conflicts_in c.args.beside.opens.now.opens c.args.beside.thread) (uses_at c.args.beside.records.now.kept.births (is_in c.args.beside.records.now.kept.living) i p k (object_of a)))))
    0 (row_of c.args.call.now.cmd).params (arguments_of c.args.call.now))
    c.gather_params.ensures.findings

pub returns-clause-succeeds : goal.returns-clause-succeeds
returns-clause-succeeds c = λ uses reports.
    let m = with_opens c.args.beside.records.now.kept c.args.beside.opens.now.opens in
    let parts = arguments_of c.args.call.now in
    let failures = λ (i : ℕ) (p : ParamSpec) (k : ℕ) (a : Argument). overlap_at i k (least (flat_map (conflicts_in c.args.beside.opens.now.opens c.args.beside.thread) (uses_at c.args.beside.records.now.kept.births (is_in c.args.beside.records.now.kept.living) i p k (object_of a)))) in
    let empty = ap (λ (us : List ObjectUse). length us) c.clear.ensures.items in
    let same_uses : length (params_from (argument_uses m) 0 (row_of c.args.call.now.cmd).params parts) ≡ length (uses_in m.births (is_in m.living) c.args.call.now.cmd parts) = refl in
    let same_reports : length (params_from failures 0 (row_of c.args.call.now.cmd).params parts) ≡ length (use_failures m c.args.beside.thread c.args.call.now.cmd parts) = refl in
    let long_uses = ap (λ (r : RowSpec). length (params_from (argument_uses m) 0 r.params parts)) c.row.ensures in
    let long_reports = ap (λ (r : RowSpec). length (params_from (argument_reports c.args.beside.place c.args.beside.thread m) 0 r.params parts)) c.row.ensures
    ∙ (ap (λ (rs : List Report). length rs) (params_placed c.args.beside.place failures 0 (row_of c.args.call.now.cmd).params parts) ∙ long_at c.args.beside.place (params_from failures 0 (row_of c.args.call.now.cmd).params parts)) in
    c.gather_params.ensures.succeeds (record { uses = omega (arith, long_uses, same_uses, uses, empty, c.clear.ensures.capacity); reports = omega (arith, long_reports, same_reports, reports) })
