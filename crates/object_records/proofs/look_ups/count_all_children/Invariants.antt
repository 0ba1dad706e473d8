use Rattle.std.proofs.Common.{◌≡◌, ◌≤◌, length, take}
use Rattle.object_model.specs.Objects.{is_in}
use Rattle.object_model.specs.History.{children_in}
use Rattle.object_records.specs.Records.{births_kept, living_kept}
use Rattle.object_records.proofs.look_ups.count_all_children.Given as goal

abbrev pub invariant-loop-i : goal.invariant-loop-i
invariant-loop-i l = record {
  count : l.count ≡ length (children_in (take l.i (births_kept l.table.records)) (is_in (living_kept l.table.records)) l.object);
  few : l.count ≤ l.i;
}
