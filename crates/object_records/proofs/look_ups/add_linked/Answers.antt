use Rattle.std.proofs.Common.{◌≡◌, ◌≤◌, ◌-◌, suc, arith}
use Rattle.object_records.proofs.Fitting.{walk_fits}
use Rattle.object_records.proofs.Walked.{walk_back, walk_begins, walk_ends, walk_goes, walk_within}
use Rattle.object_records.proofs.look_ups.add_linked.Goals as goal

pub loop-link-init : goal.loop-link-init
loop-link-init c = record {
  walk = walk_begins c.args.table.now.records c.args.ty c.args.place c.args.out.now.items c.last_owned-link.result c.last_owned-link.ensures.link;
  room = omega arith;
}

pub record-requires : goal.record-requires
record-requires c =
    let is : c.loop-link.link ≡ suc (c.loop-link.link - 1) = omega (arith, c.loop-link-test.true) in
    walk_within c.args.table.now.records c.args.ty c.args.place c.args.out.now.items c.loop-link.out.items c.loop-link.link (c.loop-link.link - 1) c.loop-link.invariant.walk is

pub previous-link-requires : goal.previous-link-requires
previous-link-requires c =
    let is : c.loop-link.link ≡ suc (c.loop-link.link - 1) = omega (arith, c.loop-link-test.true) in
    walk_within c.args.table.now.records c.args.ty c.args.place c.args.out.now.items c.loop-link.out.items c.loop-link.link (c.loop-link.link - 1) c.loop-link.invariant.walk is

pub loop-link-smaller : goal.loop-link-smaller
loop-link-smaller c =
    let back : c.previous-link.result ≤ c.loop-link.link - 1 = walk_back c.args.table.now.records (c.loop-link.link - 1) c.previous-link.result c.record.result c.record.ensures.found c.previous-link.ensures in
    omega (arith, c.loop-link-test.true, back)

pub loop-link-preserved : goal.loop-link-preserved
loop-link-preserved c =
    let is : c.loop-link.link ≡ suc (c.loop-link.link - 1) = omega (arith, c.loop-link-test.true) in record {
      walk = walk_goes c.args.table.now.records c.args.ty c.args.place c.args.out.now.items c.loop-link.out.items c.note_of_type.new.out.items c.loop-link.link (c.loop-link.link - 1) c.previous-link.result c.record.result c.loop-link.invariant.walk is
          c.record.ensures.found c.previous-link.ensures c.in_ok-note_of_type.ensures.added;
      room = omega (arith, c.loop-link.invariant.room, c.in_ok-note_of_type.ensures.room);
    }

pub returns-clause-added : goal.returns-clause-added
returns-clause-added c =
    let none : c.loop-link.link ≡ 0 = omega (arith, c.loop-link-test.false) in
    walk_ends c.args.table.now.records c.args.ty c.args.place c.args.out.now.items c.loop-link.out.items c.loop-link.link c.loop-link.invariant.walk none

pub returns-in_err-note_of_type-clause-succeeds : goal.returns-in_err-note_of_type-clause-succeeds
returns-in_err-note_of_type-clause-succeeds c = λ low.
    let is : c.loop-link.link ≡ suc (c.loop-link.link - 1) = omega (arith, c.loop-link-test.true) in
    let fits = walk_fits c.args.table.now.records c.args.ty c.args.place c.args.out.now.items c.loop-link.out.items c.loop-link.link (c.loop-link.link - 1) c.record.result _ _ c.loop-link.invariant.walk is c.record.ensures.found c.loop-link.invariant.room low in
    let wrong = c.in_err-note_of_type.ensures.succeeds fits in cc wrong
