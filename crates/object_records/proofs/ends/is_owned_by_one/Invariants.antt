use Rattle.std.proofs.Common.{◌≡◌, false, drop}
use Rattle.std.specs.List.{list_any}
use Rattle.std.specs.Option.{option_map_or}
use Rattle.command_tables.specs.Handles.{list_at}
use Rattle.object_model.specs.History.{owners_in}
use Rattle.object_model.specs.Objects.{is_in, object_of}
use Rattle.object_records.specs.Records.{births_kept}
use Rattle.object_records.specs.Shape.{arguments_of}
use Rattle.object_records.proofs.ends.is_owned_by_one.Given as goal

abbrev pub invariant-loop-k : goal.invariant-loop-k
invariant-loop-k l =
    list_any (λ a. option_map_or (is_in (owners_in (births_kept l.table.records) l.object)) (object_of a) false) (drop l.k (list_at (arguments_of l.call) l.p))
    ≡ list_any (λ a. option_map_or (is_in (owners_in (births_kept l.table.records) l.object)) (object_of a) false) (list_at (arguments_of l.call) l.p)
