use Rattle.std.proofs.Common.{take}
use Rattle.stream_plans.specs.Tables.{PutResults, device_of_result}
use Rattle.stream_plans.proofs.filling.put_results.Given as goal

abbrev pub invariant-loop-name : goal.invariant-loop-name
invariant-loop-name l = PutResults l.initial.table.rows.items l.table.rows.items (take l.name-index l.results) (device_of_result l.is_device l.owner)
