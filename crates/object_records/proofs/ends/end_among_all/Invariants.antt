use Rattle.std.proofs.Common.{◌≡◌, ◌≤◌, ◌+◌, length}
use Rattle.object_model.specs.History.{ends_by}
use Rattle.object_records.specs.Records.{births_kept, living_kept, swept}
use Rattle.object_records.specs.Shape.{arguments_of}
use Rattle.object_records.proofs.ends.end_among_all.Given as goal

abbrev pub invariant-loop-i : goal.invariant-loop-i
invariant-loop-i l = record {
  records : l.table.records ≡ swept (ends_by (births_kept l.fn.table.records) (arguments_of l.call) l.effect) l.i l.fn.table.records;
  count : l.ended + length (living_kept l.table.records) ≡ length (living_kept l.fn.table.records);
  spare : l.table.spare ≡ l.fn.table.spare;
  few : l.ended ≤ l.i;
}
