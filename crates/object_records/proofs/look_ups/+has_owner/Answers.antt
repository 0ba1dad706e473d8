use Rattle.std.proofs.Common.{◌∙◌, ◌||◌, sym, ap}
use Rattle.object_model.specs.Objects.{is_in}
use Rattle.object_records.specs.Records.{births_kept, line_kept}
use Rattle.object_records.proofs.Kept.{has_here}
use Rattle.object_records.proofs.look_ups.+has_owner.Goals as goal

pub returns-then-is_same : goal.returns-then-is_same
returns-then-is_same t c =
    let here = has_here c.args.table.now.records c.in-At.place c.record-kept.result c.args.object c.record-kept.ensures.owners c.record-kept.ensures.found in
    c.if-is_same.true ∙ sym (ap (λ w. is_in (line_kept (births_kept c.args.table.now.records) w) c.args.object) c.in-At.is
    ∙ (here ∙ ap (λ u. u || is_in (line_kept (births_kept c.args.table.now.records) c.record-kept.result.owner) c.args.object) (sym c.is_same-in-At.ensures ∙ c.if-is_same.true)))

pub returns-else-is_same : goal.returns-else-is_same
returns-else-is_same t c =
    let here = has_here c.args.table.now.records c.in-At.place c.record-kept.result c.args.object c.record-kept.ensures.owners c.record-kept.ensures.found in
    c.has_owner.ensures ∙ sym (ap (λ w. is_in (line_kept (births_kept c.args.table.now.records) w) c.args.object) c.in-At.is
    ∙ (here ∙ ap (λ u. u || is_in (line_kept (births_kept c.args.table.now.records) c.record-kept.result.owner) c.args.object) (sym c.is_same-in-At.ensures ∙ c.if-is_same.false)))
