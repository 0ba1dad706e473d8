use Rattle.std.proofs.Common.{◌≡◌, ◌+◌, ◌-◌, true, length}
use Rattle.object_records.specs.Records.{living_kept}
use Rattle.object_records.proofs.Sweeping.{AreLeaves, IsSweeping}
use Rattle.object_records.proofs.ends.+end_below.Given as goal

abbrev pub invariant-loop-link : goal.invariant-loop-link
invariant-loop-link l = record {
  walked : IsSweeping l.fn.table.records l.table.records l.place l.link;
  leaves : l.are_leaves ≡ true → AreLeaves l.fn.table.records l.place l.link;
  count : l.ended + length (living_kept l.table.records) ≡ length (living_kept l.fn.table.records);
  spare : l.table.spare ≡ l.fn.table.spare;
}

abbrev pub decreases-loop-link : goal.decreases-loop-link
decreases-loop-link l = l.link

abbrev pub decreases-end_below : goal.decreases-end_below
decreases-end_below l = length l.table.now.records - l.place
