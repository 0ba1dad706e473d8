use Rattle.std.proofs.Common.{◌≡◌, ◌∙◌, cond, true, false, List, length, sym, ap, arith, rules}
use Rattle.object_records.specs.declared.record.ObjectRecord.{ObjectRecord}
use Rattle.object_records.specs.Table.{ended_at}
use Rattle.object_records.proofs.Linking.{ended_length}
use Rattle.object_records.proofs.Owned.{one_swept}
use Rattle.object_records.proofs.ends.end_record.Goals as goal

pub returns-then-not-kept-clause-records : goal.returns-then-not-kept-clause-records
returns-then-not-kept-clause-records c =
    let rs = c.args.table.now.records in
    let dead : c.record-kept.result.lives ≡ false = search rules in
    λ ends only. sym (one_swept ends rs c.args.place c.record-kept.result only c.record-kept.ensures.found ∙ ap (λ u. cond u (ended_at rs c.args.place) rs) dead)

pub returns-clause-records : goal.returns-clause-records
returns-clause-records c =
    let rs = c.args.table.now.records in
    let lived : c.record-kept.result.lives ≡ true = search rules in
    λ ends only. c.pass_front.ensures.records ∙ (c.end_at.ensures.records ∙ sym (one_swept ends rs c.args.place c.record-kept.result only c.record-kept.ensures.found ∙ ap (λ u. cond u (ended_at rs c.args.place) rs) lived))

pub pass_front-requires : goal.pass_front-requires
pass_front-requires c =
    omega (arith, c.requires, ended_length c.args.table.now.records c.args.place, ap (λ (xs : List ObjectRecord). length xs) c.end_at.ensures.records)
