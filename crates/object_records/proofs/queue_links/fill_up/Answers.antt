use Rattle.std.proofs.Common.{◌≡◌, ◌-◌, ◌++◌, ◌∙◌, length, ap, arith, vec_len}
use Rattle.std.specs.Prelude.{replicate}
use Rattle.std.proofs.lemmas.List.{take_all}
use Rattle.object_records.specs.Queues.{no_links}
use Rattle.object_records.proofs.queue_links.fill_up.Goals as goal

pub returns-clause-items : goal.returns-clause-items
returns-clause-items c =
    let items = c.args.queues.now.items in
    let long : vec_len c.args.queues.now ≡ length items = omega arith in
    (rw c.unwrap.ensures at c.resize.ensures.items)
    ∙ (ap (λ ls. ls ++ replicate (c.args.count - vec_len c.args.queues.now) no_links) (take_all c.args.count items c.requires.long)
    ∙ ap (λ n. items ++ replicate (c.args.count - n) no_links) long)
