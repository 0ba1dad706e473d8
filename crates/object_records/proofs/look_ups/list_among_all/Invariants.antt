use Rattle.std.proofs.Common.{◌≡◌, ◌≤◌, ◌++◌, take}
use Rattle.std.specs.Prelude.{vec_capacity}
use Rattle.object_model.specs.Uses.{owned_in}
use Rattle.object_records.specs.Records.{births_kept}
use Rattle.object_records.proofs.look_ups.list_among_all.Given as goal

abbrev pub invariant-loop-i : goal.invariant-loop-i
invariant-loop-i l = record {
  added : l.out.items ≡ l.fn.out.items ++ owned_in (take l.i (births_kept l.table.records)) l.ty l.owner;
  room : vec_capacity l.fn.out ≤ vec_capacity l.out;
}
