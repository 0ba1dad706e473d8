use Rattle.std.proofs.Common.{◌≡◌, ◌<◌, ◌∙◌, List, length, ap, arith}
use Rattle.std.specs.Prelude.{Bool}
use Rattle.object_model.specs.declared.Object.{Object}
use Rattle.object_model.specs.History.{Birth, ends_by}
use Rattle.object_records.specs.declared.record.ObjectRecord.{ObjectRecord}
use Rattle.object_records.specs.Records.{births_kept}
use Rattle.object_records.specs.Shape.{arguments_of}
use Rattle.object_records.proofs.Swept.{births_swept, count_less, count_same, swept_length, swept_more}
use Rattle.object_records.proofs.ends.end_among_all.Goals as goal
use Rattle.object_records.proofs.ends.end_among_all.Goals.{then-end_one, else-end_one}

pub end_one-requires-clause-place : goal.end_one-requires-clause-place
end_one-requires-clause-place c =
    let ends : Object → Bool = ends_by (births_kept c.args.table.now.records) (arguments_of c.args.call.now) c.args.effect in
    omega (arith, c.loop-i-test.true, c.len-i-end.ensures, ap length c.loop-i.invariant.records, swept_length ends c.loop-i.i c.args.table.now.records)

pub loop-i-preserved : goal.loop-i-preserved
loop-i-preserved c =
    let ends : Object → Bool = ends_by (births_kept c.args.table.now.records) (arguments_of c.args.call.now) c.args.effect in
    let ends_now : Object → Bool = ends_by (births_kept c.loop-i.table.records) (arguments_of c.args.call.now) c.args.effect in
    let less : c.loop-i.i < length c.args.table.now.records = omega (arith, c.loop-i-test.true, c.len-i-end.ensures) in
    let low : c.loop-i.i < length c.loop-i.table.records = omega (arith, less, ap length c.loop-i.invariant.records, swept_length ends c.loop-i.i c.args.table.now.records) in
    let births : births_kept c.loop-i.table.records ≡ births_kept c.args.table.now.records
    = ap (λ (xs : List ObjectRecord). births_kept xs) c.loop-i.invariant.records ∙ births_swept ends c.loop-i.i c.args.table.now.records in
    let same : ends_now ≡ ends = ap (λ (bs : List Birth). ends_by bs (arguments_of c.args.call.now) c.args.effect) births in record {
      records = swept_more ends ends_now c.args.table.now.records c.loop-i.table.records c.end_one.new.table.records c.loop-i.i c.end_one.result less c.loop-i.invariant.records same c.end_one.ensures.ends c.end_one.ensures.records;
      count = elim c.if-end_one.branch [
        | then-end_one w ↦ omega (arith, c.loop-i.invariant.count, w.ended-is, count_less c.loop-i.table.records c.end_one.new.table.records c.loop-i.i ends_now c.end_one.result low c.end_one.ensures.ends c.end_one.ensures.records w.if-end_one.true)
        | else-end_one w ↦ omega (arith, c.loop-i.invariant.count, w.ended-is, count_same c.loop-i.table.records c.end_one.new.table.records c.loop-i.i c.end_one.result c.end_one.ensures.records w.if-end_one.false)
      ];
      few = elim c.if-end_one.branch [
        | then-end_one w ↦ omega (arith, c.loop-i.invariant.few, w.ended-is)
        | else-end_one w ↦ omega (arith, c.loop-i.invariant.few, w.ended-is)
      ];
      spare = c.end_one.ensures.spare ∙ c.loop-i.invariant.spare;
    }
