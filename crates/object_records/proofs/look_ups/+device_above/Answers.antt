use Rattle.std.proofs.Common.{◌∙◌, cond, Some, sym, ap}
use Rattle.std.specs.Prelude.{find}
use Rattle.object_records.specs.Records.{births_kept, is_device, line_kept}
use Rattle.object_records.proofs.Kept.{device_here}
use Rattle.object_records.proofs.look_ups.+device_above.Goals as goal

pub returns-then-is_device-2 : goal.returns-then-is_device-2
returns-then-is_device-2 t c =
    let here = device_here c.args.table.now.records c.in-At.place c.record-kept.result c.record-kept.ensures.owners c.record-kept.ensures.found in
    sym (ap (λ w. find is_device (line_kept (births_kept c.args.table.now.records) w)) c.in-At.is
    ∙ (here ∙ ap (λ u. cond u (Some c.record-kept.result.object) (find is_device (line_kept (births_kept c.args.table.now.records) c.record-kept.result.owner))) (sym c.is_device-in-At.ensures ∙ c.if-is_device-2.true)))

pub returns-else-is_device-2 : goal.returns-else-is_device-2
returns-else-is_device-2 t c =
    let here = device_here c.args.table.now.records c.in-At.place c.record-kept.result c.record-kept.ensures.owners c.record-kept.ensures.found in
    c.device_above.ensures ∙ sym (ap (λ w. find is_device (line_kept (births_kept c.args.table.now.records) w)) c.in-At.is
    ∙ (here ∙ ap (λ u. cond u (Some c.record-kept.result.object) (find is_device (line_kept (births_kept c.args.table.now.records) c.record-kept.result.owner))) (sym c.is_device-in-At.ensures ∙ c.if-is_device-2.false)))
