use Rattle.std.proofs.Common.{◌≡◌, ◌≤◌, ◌++◌, take}
use Rattle.std.specs.Prelude.{filter, vec_capacity}
use Rattle.object_model.specs.Objects.{is_in}
use Rattle.object_model.specs.Uses.{owned_in}
use Rattle.object_records.specs.Records.{births_kept, living_kept}
use Rattle.object_records.proofs.living.list_among_all.Given as goal

abbrev pub invariant-loop-i : goal.invariant-loop-i
invariant-loop-i l = record {
  added : l.out.items ≡ l.fn.out.items ++ filter (λ o. is_in (living_kept l.table.records) o) (owned_in (take l.i (births_kept l.table.records)) l.ty l.owner);
  room : vec_capacity l.fn.out ≤ vec_capacity l.out;
}
