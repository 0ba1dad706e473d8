use Rattle.std.proofs.Common.{◌+◌, ◌∙◌, false, ap, arith}
use Rattle.object_records.specs.Links.{with_linked}
use Rattle.object_records.proofs.Padding.{padded_full, padded_next}
use Rattle.object_records.proofs.queue_links.add_queue_links.Goals as goal

pub returns-in-Nobody-clause-links : goal.returns-in-Nobody-clause-links
returns-in-Nobody-clause-links c = padded_next c.args.count c.args.queues.now.items c.args.owner c.requires.long c.in-Nobody.is

pub returns-in-At-clause-links : goal.returns-in-At-clause-links
returns-in-At-clause-links c =
    padded_full (c.args.count + 1) c.add_links.new.links.items (omega (arith, c.add_links.ensures.count, c.fill_up.ensures.count))
    ∙ (c.add_links.ensures.links ∙ ap (λ ls. with_linked ls c.args.owner false) c.fill_up.ensures.items)
