use Rattle.std.proofs.Common.{◌≡◌, ◌+◌, length}
use Rattle.command_tables.specs.Handles.{list_at}
use Rattle.object_model.specs.History.{ends_with}
use Rattle.object_records.specs.Records.{living_kept}
use Rattle.object_records.specs.Shape.{arguments_of}
use Rattle.object_records.proofs.Sweeping.{IsEnding}
use Rattle.object_records.proofs.ends.end_all_named.Given as goal

abbrev pub invariant-loop-k : goal.invariant-loop-k
invariant-loop-k l = record {
  ended : IsEnding ends_with l.fn.table.records l.table.records (list_at (arguments_of l.call) l.p) l.k;
  count : l.ended + length (living_kept l.table.records) ≡ length (living_kept l.fn.table.records);
  spare : l.table.spare ≡ l.fn.table.spare;
}
