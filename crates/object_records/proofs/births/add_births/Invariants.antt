use Rattle.std.proofs.Common.{◌≡◌, ◌≤◌, ◌+◌, ◌++◌, length, drop}
use Rattle.layer_model.specs.Reading.{read_results}
use Rattle.object_records.specs.Records.{births_kept, new_records}
use Rattle.object_records.specs.Shape.{AreNewOnce}
use Rattle.object_records.specs.Table.{before_owned}
use Rattle.object_records.proofs.births.add_births.Given as goal

abbrev pub invariant-loop-k : goal.invariant-loop-k
invariant-loop-k l = record {
  records : l.table.records ++ new_records l.is_created l.owner (births_kept l.table.records) l.ty (drop l.k l.results) ≡ l.fn.table.records ++ new_records l.is_created l.owner (births_kept l.fn.table.records) l.ty l.results;
  once : AreNewOnce (births_kept l.table.records) (read_results l.ty (drop l.k l.results));
  room : length l.results ≤ l.table.spare + l.k;
  spare : l.fn.table.spare ≤ l.table.spare + l.k;
  within : before_owned l.owner ≤ length l.table.records;
}
