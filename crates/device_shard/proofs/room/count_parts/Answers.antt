use Rattle.std.proofs.Common.{◌∙◌, List, ap, length}
use Rattle.object_model.specs.declared.PartKind.{PartKind}
use Rattle.dispatch_chain.specs.declared.entry.Entry.{Entry}
use Rattle.device_shard.proofs.Roomy.{all_intercept}
use Rattle.device_shard.proofs.room.count_parts.Goals as goal

pub returns : goal.returns
returns g c = ap (λ (es : List Entry). length es) c.at.ensures ∙ (all_intercept c.table.result.now.rows ∙ ap (λ (ks : List PartKind). length ks) c.table.ensures)
