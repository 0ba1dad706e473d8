use Rattle.std.proofs.Common.{◌<◌, ◌+◌, ◌∙◌, length, sym, arith}
use Rattle.object_records.specs.Records.{living_kept}
use Rattle.object_records.proofs.Kept.{place_within}
use Rattle.object_records.proofs.Sweeping.{below_length, created_born, ended_given, ended_named, ends_fit}
use Rattle.object_records.proofs.ends.end_named.Goals as goal

pub returns-then-not-is_created-clause-records : goal.returns-then-not-is_created-clause-records
returns-then-not-is_created-clause-records c = ended_given c.args.table.now.records c.args.named (sym c.is_created.ensures ∙ c.if-not-is_created.true)

pub end_below-owned-requires-clause-place : goal.end_below-owned-requires-clause-place
end_below-owned-requires-clause-place c = place_within c.args.table.now.records c.args.named c.in-Some.place (sym c.in-Some.ensures.place)

pub end_record-requires : goal.end_record-requires
end_record-requires c =
    let low : c.in-Some.place < length c.args.table.now.records = place_within c.args.table.now.records c.args.named c.in-Some.place (sym c.in-Some.ensures.place) in
    omega (arith, low, below_length c.args.table.now.records c.end_below-owned.new.table.records c.in-Some.place low c.end_below-owned.ensures.records)

pub overflow_add-result : goal.overflow_add-result
overflow_add-result c =
    omega (
      arith,
      ends_fit c.args.table.now.records (c.end_below-owned.result + c.end_record.result) (length (living_kept c.end_record.new.table.records)) c.len-count.result c.len-count.type_inv c.len-count.ensures
          (omega (arith, c.end_below-owned.ensures.count, c.end_record.ensures.count)),
    )

pub returns-in-None-clause-records : goal.returns-in-None-clause-records
returns-in-None-clause-records c = absurd (created_born c.args.table.now.records c.args.named c.in-None.ensures.once (sym c.is_created.ensures ∙ c.if-not-is_created.false) (sym c.in-None.ensures.place))

pub returns-in-Some-clause-records : goal.returns-in-Some-clause-records
returns-in-Some-clause-records c =
    ended_named c.args.table.now.records c.end_below-owned.new.table.records c.end_record.new.table.records c.args.named c.in-Some.place c.in-Some.ensures.once (sym c.is_created.ensures ∙ c.if-not-is_created.false) (sym c.in-Some.ensures.place)
    c.end_below-owned.ensures.records c.end_record.ensures.records
