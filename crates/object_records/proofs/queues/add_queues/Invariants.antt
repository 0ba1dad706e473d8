use Rattle.std.proofs.Common.{◌≤◌}
use Rattle.std.specs.Prelude.{vec_capacity}
use Rattle.command_tables.specs.declared.types.ObjectType.TheVariants as ty
use Rattle.object_records.specs.Queues.{queues_seen}
use Rattle.object_records.proofs.Walked.{IsWalked}
use Rattle.object_records.proofs.queues.add_queues.Given as goal

abbrev pub invariant-loop-link : goal.invariant-loop-link
invariant-loop-link l = record {
  walk : IsWalked (queues_seen l.table.records) ty.Queue l.place l.fn.out.items l.out.items l.link;
  room : vec_capacity l.fn.out ≤ vec_capacity l.out;
}

abbrev pub decreases-loop-link : goal.decreases-loop-link
decreases-loop-link l = l.link
