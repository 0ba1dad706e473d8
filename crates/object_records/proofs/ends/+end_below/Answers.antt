use Rattle.std.proofs.Common.{◌≡◌, ◌<◌, ◌-◌, ◌+◌, ◌∙◌, suc, List, length, ap, arith, refl}
use Rattle.object_records.specs.declared.record.ObjectRecord.{ObjectRecord}
use Rattle.object_records.specs.Records.{IsEndedBelow, living_kept}
use Rattle.object_records.proofs.Sweeping.{below_length, ends_fit, leaves_begin, leaves_end, leaves_go, sweep_back, sweep_begins, sweep_ends, sweep_goes, sweep_leads, sweep_length, sweep_strays}
use Rattle.object_records.proofs.ends.+end_below.Goals as goal

pub loop-link-init : goal.loop-link-init
loop-link-init t c = record {
  walked = sweep_begins c.args.table.now.records c.args.place c.last_owned-link.result c.last_owned-link.ensures.link;
  leaves = λ yes. leaves_begin c.args.table.now.records c.args.place c.last_owned-link.result c.last_owned-link.ensures.link;
  count = omega arith;
  spare = refl;
}

pub previous-link-requires : goal.previous-link-requires
previous-link-requires t c =
    let is : c.loop-link.link ≡ suc (c.loop-link.link - 1) = omega (arith, c.loop-link-test.true) in
    let leads = sweep_leads c.args.table.now.records c.loop-link.table.records c.args.place c.loop-link.link (c.loop-link.link - 1) c.last_owned-link.ensures.owners c.loop-link.invariant.walked is in
    omega (arith, leads.1, sweep_length c.args.table.now.records c.loop-link.table.records c.args.place c.loop-link.link c.loop-link.invariant.walked)

pub are_leaves_with-are_leaves-requires : goal.are_leaves_with-are_leaves-requires
are_leaves_with-are_leaves-requires t c =
    let is : c.loop-link.link ≡ suc (c.loop-link.link - 1) = omega (arith, c.loop-link-test.true) in
    let leads = sweep_leads c.args.table.now.records c.loop-link.table.records c.args.place c.loop-link.link (c.loop-link.link - 1) c.last_owned-link.ensures.owners c.loop-link.invariant.walked is in
    omega (arith, leads.1, sweep_length c.args.table.now.records c.loop-link.table.records c.args.place c.loop-link.link c.loop-link.invariant.walked)

pub end_below-ended-requires : goal.end_below-ended-requires
end_below-ended-requires t c =
    let is : c.loop-link.link ≡ suc (c.loop-link.link - 1) = omega (arith, c.loop-link-test.true) in
    let leads = sweep_leads c.args.table.now.records c.loop-link.table.records c.args.place c.loop-link.link (c.loop-link.link - 1) c.last_owned-link.ensures.owners c.loop-link.invariant.walked is in
    let count : length c.loop-link.table.records ≡ length c.args.table.now.records = sweep_length c.args.table.now.records c.loop-link.table.records c.args.place c.loop-link.link c.loop-link.invariant.walked in (
      omega (arith, c.decreases, leads.0, leads.1, count),
      (
        omega (arith, leads.1, count),
        sweep_strays c.args.table.now.records c.loop-link.table.records c.args.place c.loop-link.link c.loop-link.invariant.walked ∙ c.requires.born,
      ),
    )

pub overflow_add-ended : goal.overflow_add-ended
overflow_add-ended t c =
    omega (
      arith,
      ends_fit c.args.table.now.records (c.loop-link.ended + c.end_below-ended.result) (length (living_kept c.end_below-ended.new.table.records)) c.len-count.result c.len-count.type_inv c.len-count.ensures
          (omega (arith, c.loop-link.invariant.count, c.end_below-ended.ensures.count)),
    )

pub end_record-ended-requires : goal.end_record-ended-requires
end_record-ended-requires t c =
    let is : c.loop-link.link ≡ suc (c.loop-link.link - 1) = omega (arith, c.loop-link-test.true) in
    let leads = sweep_leads c.args.table.now.records c.loop-link.table.records c.args.place c.loop-link.link (c.loop-link.link - 1) c.last_owned-link.ensures.owners c.loop-link.invariant.walked is in
    let count : length c.loop-link.table.records ≡ length c.args.table.now.records = sweep_length c.args.table.now.records c.loop-link.table.records c.args.place c.loop-link.link c.loop-link.invariant.walked in
    let low : c.loop-link.link - 1 < length c.loop-link.table.records = omega (arith, leads.1, count) in
    omega (arith, low, below_length c.loop-link.table.records c.end_below-ended.new.table.records (c.loop-link.link - 1) low c.end_below-ended.ensures.records)

pub overflow_add-ended-in-loop-link : goal.overflow_add-ended-in-loop-link
overflow_add-ended-in-loop-link t c =
    omega (
      arith,
      ends_fit c.args.table.now.records (c.loop-link.ended + c.end_below-ended.result + c.end_record-ended.result) (length (living_kept c.end_record-ended.new.table.records)) c.len-count.result c.len-count.type_inv c.len-count.ensures
          (omega (arith, c.loop-link.invariant.count, c.end_below-ended.ensures.count, c.end_record-ended.ensures.count)),
    )

pub loop-link-preserved : goal.loop-link-preserved
loop-link-preserved t c =
    let is : c.loop-link.link ≡ suc (c.loop-link.link - 1) = omega (arith, c.loop-link-test.true) in record {
      walked = sweep_goes c.args.table.now.records c.loop-link.table.records c.end_below-ended.new.table.records c.end_record-ended.new.table.records c.args.place c.loop-link.link (c.loop-link.link - 1) c.previous-link.result
          c.last_owned-link.ensures.once c.loop-link.invariant.walked is c.previous-link.ensures c.end_below-ended.ensures.records c.end_record-ended.ensures.records;
      leaves = λ yes. let both = c.are_leaves_with-are_leaves.ensures yes in
          leaves_go c.args.table.now.records c.loop-link.table.records c.args.place c.loop-link.link (c.loop-link.link - 1) c.previous-link.result c.loop-link.invariant.walked is c.previous-link.ensures (c.loop-link.invariant.leaves both.0) both.1;
      count = omega (arith, c.loop-link.invariant.count, c.end_below-ended.ensures.count, c.end_record-ended.ensures.count);
      spare = c.end_record-ended.ensures.spare ∙ (c.end_below-ended.ensures.spare ∙ c.loop-link.invariant.spare);
    }

pub loop-link-smaller : goal.loop-link-smaller
loop-link-smaller t c =
    let is : c.loop-link.link ≡ suc (c.loop-link.link - 1) = omega (arith, c.loop-link-test.true) in
    omega (arith, c.loop-link-test.true, sweep_back c.args.table.now.records c.loop-link.table.records c.args.place c.loop-link.link (c.loop-link.link - 1) c.previous-link.result c.loop-link.invariant.walked is c.previous-link.ensures)

pub pass_leaves-requires-clause-place : goal.pass_leaves-requires-clause-place
pass_leaves-requires-clause-place t c = omega (arith, c.requires.place, sweep_length c.args.table.now.records c.loop-link.table.records c.args.place c.loop-link.link c.loop-link.invariant.walked)

pub pass_leaves-requires-clause-passed : goal.pass_leaves-requires-clause-passed
pass_leaves-requires-clause-passed t c =
    let rs = c.args.table.now.records in
    let ended : IsEndedBelow rs c.args.place c.loop-link.table.records
    = sweep_ends rs c.loop-link.table.records c.args.place c.loop-link.link c.passed-passed.result c.last_owned-link.ensures.owners c.last_owned-link.ensures.once c.requires.born c.loop-link.invariant.walked c.passed-passed.ensures c.loop-link-test.false in
    λ yes. leaves_end rs c.loop-link.table.records c.args.place c.loop-link.link c.passed-passed.result c.last_owned-link.ensures.owners c.last_owned-link.ensures.once c.requires.place ended c.passed-passed.ensures c.loop-link-test.false (c.loop-link.invariant.leaves yes)

pub returns-clause-records : goal.returns-clause-records
returns-clause-records t c =
    let rs = c.args.table.now.records in
    let ended : IsEndedBelow rs c.args.place c.loop-link.table.records
    = sweep_ends rs c.loop-link.table.records c.args.place c.loop-link.link c.passed-passed.result c.last_owned-link.ensures.owners c.last_owned-link.ensures.once c.requires.born c.loop-link.invariant.walked c.passed-passed.ensures c.loop-link-test.false in
    λ p e. c.pass_leaves.ensures.records ∙ ended p e

pub returns-clause-count : goal.returns-clause-count
returns-clause-count t c = omega (arith, c.loop-link.invariant.count, ap (λ (xs : List ObjectRecord). length (living_kept xs)) c.pass_leaves.ensures.records)
