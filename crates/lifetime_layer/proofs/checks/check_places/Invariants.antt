use Rattle.std.proofs.Common.{◌≡◌, ◌≤◌, [], ◌++◌, drop}
use Rattle.std.specs.Prelude.{vec_capacity}
use Rattle.command_tables.specs.Handles.{list_at}
use Rattle.command_tables.specs.Table.{seen_param}
use Rattle.object_model.specs.Rules.{places_from}
use Rattle.object_records.specs.Shape.{arguments_of}
use Rattle.lifetime_layer.specs.Reports.{reports_at, reports_of}
use Rattle.lifetime_layer.proofs.checks.check_places.Given as goal

abbrev pub invariant-loop-k : goal.invariant-loop-k
invariant-loop-k l = record {
  found : reports_of l.out.items ++ places_from (reports_at l.place l.records.kept l.call.cmd (arguments_of l.call) l.i (seen_param l.param)) l.k (drop l.k (list_at (arguments_of l.call) l.i))
      ≡ reports_of l.fn.out.items ++ places_from (reports_at l.place l.records.kept l.call.cmd (arguments_of l.call) l.i (seen_param l.param)) 0 (list_at (arguments_of l.call) l.i);
  quiet : places_from (reports_at l.place l.records.kept l.call.cmd (arguments_of l.call) l.i (seen_param l.param)) 0 (list_at (arguments_of l.call) l.i) ≡ [] → places_from (reports_at l.place l.records.kept l.call.cmd (arguments_of l.call) l.i (seen_param l.param)) l.k (drop l.k (list_at (arguments_of l.call) l.i)) ≡ [];
  room : vec_capacity l.fn.out ≤ vec_capacity l.out;
}
