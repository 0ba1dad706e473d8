use Rattle.std.proofs.Common.{◌≡◌, ◌≤◌, ◌-◌, suc, arith}
use Rattle.command_tables.specs.declared.types.ObjectType.TheVariants as ty
use Rattle.object_records.specs.Queues.{queues_seen}
use Rattle.object_records.proofs.Fitting.{queue_fits}
use Rattle.object_records.proofs.SeenQueues.{queue_back, queue_ends, queue_goes, queue_within}
use Rattle.object_records.proofs.Walked.{walk_begins}
use Rattle.object_records.proofs.queues.add_queues.Goals as goal

pub loop-link-init : goal.loop-link-init
loop-link-init c = record {
  walk = walk_begins (queues_seen c.args.table.now.records) ty.Queue c.args.place c.args.out.now.items c.last_queue-link.result c.last_queue-link.ensures;
  room = omega arith;
}

pub record-requires : goal.record-requires
record-requires c =
    let is : c.loop-link.link ≡ suc (c.loop-link.link - 1) = omega (arith, c.loop-link-test.true) in
    queue_within c.args.table.now.records c.args.place c.args.out.now.items c.loop-link.out.items c.loop-link.link (c.loop-link.link - 1) c.loop-link.invariant.walk is

pub previous_queue-link-requires : goal.previous_queue-link-requires
previous_queue-link-requires c =
    let is : c.loop-link.link ≡ suc (c.loop-link.link - 1) = omega (arith, c.loop-link-test.true) in
    queue_within c.args.table.now.records c.args.place c.args.out.now.items c.loop-link.out.items c.loop-link.link (c.loop-link.link - 1) c.loop-link.invariant.walk is

pub loop-link-smaller : goal.loop-link-smaller
loop-link-smaller c =
    let back : c.previous_queue-link.result ≤ c.loop-link.link - 1 = queue_back c.args.table.now.records (c.loop-link.link - 1) c.previous_queue-link.result c.record.result c.record.ensures.found c.previous_queue-link.ensures in
    omega (arith, c.loop-link-test.true, back)

pub loop-link-preserved : goal.loop-link-preserved
loop-link-preserved c =
    let is : c.loop-link.link ≡ suc (c.loop-link.link - 1) = omega (arith, c.loop-link-test.true) in record {
      walk = queue_goes c.args.table.now.records c.args.place c.args.out.now.items c.loop-link.out.items c.push.new.self.items c.loop-link.link (c.loop-link.link - 1) c.previous_queue-link.result c.record.result c.loop-link.invariant.walk is c.record.ensures.found
          c.previous_queue-link.ensures c.in_ok-push.ensures.items;
      room = omega (arith, c.loop-link.invariant.room, c.in_ok-push.ensures.capacity);
    }

pub returns-clause-added : goal.returns-clause-added
returns-clause-added c =
    let none : c.loop-link.link ≡ 0 = omega (arith, c.loop-link-test.false) in
    queue_ends c.args.table.now.records c.args.place c.args.out.now.items c.loop-link.out.items c.loop-link.link c.loop-link.invariant.walk none

pub returns-in_err-push-clause-succeeds : goal.returns-in_err-push-clause-succeeds
returns-in_err-push-clause-succeeds c = λ low.
    let is : c.loop-link.link ≡ suc (c.loop-link.link - 1) = omega (arith, c.loop-link-test.true) in
    let fits = queue_fits c.args.table.now.records c.args.place c.args.out.now.items c.loop-link.out.items c.loop-link.link (c.loop-link.link - 1) c.record.result _ _ c.loop-link.invariant.walk is c.record.ensures.found c.loop-link.invariant.room low in
    let wrong = c.in_err-push.ensures.succeeds (omega (arith, fits, c.loop-link.out.ok.0)) in cc wrong
