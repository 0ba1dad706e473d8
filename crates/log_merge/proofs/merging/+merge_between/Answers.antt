use Rattle.std.proofs.Common.{◌≡◌, ◌+◌, ◌-◌, ◌/◌, ◌<◌, ◌≤◌, map, length, ap, sym, ◌∙◌, subst, arith, [], slice_index_or}
use Rattle.std.proofs.lemmas.List.{get_or-map, length-map}
use Rattle.std.proofs.lemmas.Result.{IfOk-weaker}
use Rattle.std.specs.Global.{Vec}
use Rattle.trace_format.specs.declared.event.Name.{Name}
use Rattle.stream_log.specs.Log.{RisesFrom, line_of}
use Rattle.stream_log.specs.declared.entry.Entry.{Entry}
use Rattle.log_merge.specs.Halves.{IsMergeBetween, IsMergeOfTwo, in_log}
use Rattle.log_merge.specs.Numbered.{closed_lines, numbered}
use Rattle.log_merge.proofs.Between.{one_between, two_between}
use Rattle.log_merge.proofs.Kept.{all_at}
use Rattle.log_merge.proofs.merging.+merge_between.Goals as goal

pub returns-then-count-eq1 : goal.returns-then-count-eq1
returns-then-count-eq1 t c =
    let logs = c.args.logs.now in
    let from = c.args.from in
    let log = c.index-logs-from.result in
    let lt : from < length logs = omega (arith, c.requires.inside) in
    let there : length (map closed_lines logs) ≡ length logs = length-map logs closed_lines in
    let is : slice_index_or (map closed_lines logs) from [] ≡ closed_lines log = get_or-map closed_lines logs from log [] lt ∙ ap closed_lines (sym c.index-logs-from.is) in
    let rises : RisesFrom 0 (closed_lines log) = subst (RisesFrom 0) is (all_at (RisesFrom 0) (map closed_lines logs) from [] (omega arith) c.requires.rising) in
    let entries : map line_of c.deref.result.now ≡ closed_lines log = ap (map line_of) (c.deref.ensures.value ∙ ap (λ (x : Name × Vec Entry). x.1.items) (sym c.index-logs-from.is)) in
    let one = one_between (map closed_lines logs) from c.args.to (closed_lines log) (omega arith) is rises in
    IfOk-weaker c.with_number.result _ _
    (λ v same. subst (IsMergeBetween (map closed_lines logs) from c.args.to) (sym (same ∙ ap (map (in_log from)) entries)) one)
    c.with_number.ensures

pub returns : goal.returns
returns t c =
    let logs = map closed_lines c.args.logs.now in
    let from = c.args.from in
    let to = c.args.to in
    let middle = from + (to - from) / 2 in
    let xs = map numbered c.in_ok-left.left.items in
    let ys = map numbered c.in_ok-right.right.items in
    let low : from ≤ middle = omega arith in
    let high : middle ≤ to = omega arith in
    let l : c.deref-2.result.now ≡ c.in_ok-left.left.items = c.deref-2.ensures.value in
    let r : c.deref-3.result.now ≡ c.in_ok-right.right.items = c.deref-3.ensures.value in
    IfOk-weaker c.merge_two.result _ _
    (λ v merged. two_between logs from middle to xs ys (map numbered v.items) low high c.in_ok-left.ensures c.in_ok-right.ensures
    (subst (λ b. IsMergeOfTwo xs (map numbered b) (map numbered v.items)) r (subst (λ a. IsMergeOfTwo (map numbered a) (map numbered c.deref-3.result.now) (map numbered v.items)) l merged)))
    c.merge_two.ensures
