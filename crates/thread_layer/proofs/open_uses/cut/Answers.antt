use Rattle.std.proofs.Common.{◌∙◌, ◌++◌, ◌-◌, List, take, drop, length, ap, sym, arith}
use Rattle.thread_layer.specs.declared.object_use.ObjectUse.{ObjectUse}
use Rattle.thread_layer.proofs.Opens.{cut_all}
use Rattle.thread_layer.proofs.open_uses.cut.Goals as goal

pub returns-clause-items : goal.returns-clause-items
returns-clause-items c =
    let us : List ObjectUse = c.args.uses.now.items in
    let n = sym (ap (λ (xs : List ObjectUse). length xs) c.as_mut_slice.ensures.value) ∙ c.as_mut_slice.ensures.len in
    let front = c.put_last.ensures.before ∙ ap (λ (xs : List ObjectUse). take c.args.start xs) c.as_mut_slice.ensures.value in
    let behind = c.put_last.ensures.behind ∙ ap (λ (xs : List ObjectUse). drop c.args.count (drop c.args.start xs) ++ take c.args.count (drop c.args.start xs)) c.as_mut_slice.ensures.value in
    c.truncate.ensures.items ∙ cut_all us c.put_last.new.uses _ c.args.start c.args.count c.args.uses.now.len (c.len.result - c.args.count) c.requires (sym n) (omega (arith, n, c.len.ensures, c.requires)) front behind
