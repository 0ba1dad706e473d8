use Rattle.std.proofs.Common.{◌<◌, ◌∙◌, List, length, get_or, ap, sym, subst}
use Rattle.object_records.specs.declared.links.Links.{Links}
use Rattle.object_records.specs.Queues.{no_links}
use Rattle.object_records.specs.Table.{TableState}
use Rattle.object_records.proofs.SeenQueues.{last_queue_read}
use Rattle.object_records.proofs.record_table.RecordTable.last_queue.Goals as goal

pub returns : goal.returns
returns c =
    rw (← c.self.view_is)
    (ap (λ (l : Links). l.last_owned) (c.queue_links.ensures ∙ ap (λ (xs : List Links). get_or xs c.args.place no_links) c.as_slice.ensures.value)
    ∙ last_queue_read c.self.inside.records.records c.self.inside.queues.items c.args.place c.self.invariant.queued (subst (λ (s : TableState). c.args.place < length s.records) (sym c.self.view_is) c.requires))
