use Rattle.std.proofs.Common.{map, sym, subst}
use Rattle.std.proofs.lemmas.List.{length-map}
use Rattle.std.proofs.lemmas.Result.{IfOk-weaker}
use Rattle.log_merge.specs.Halves.{IsMergeBetween}
use Rattle.log_merge.specs.Numbered.{closed_lines, numbered}
use Rattle.log_merge.proofs.Between.{all_between}
use Rattle.log_merge.proofs.merging.merge_logs.Goals as goal

pub returns : goal.returns
returns c =
    let logs = map closed_lines c.args.logs.now in
    IfOk-weaker c.merge_between.result _ _
    (λ v merged. all_between logs (map numbered v.items) (subst (λ n. IsMergeBetween logs 0 n (map numbered v.items)) (sym (length-map c.args.logs.now closed_lines)) merged))
    c.merge_between.ensures
