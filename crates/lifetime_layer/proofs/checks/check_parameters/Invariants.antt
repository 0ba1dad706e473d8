use Rattle.std.proofs.Common.{◌≡◌, ◌≤◌, [], ◌++◌, drop, map}
use Rattle.std.specs.Prelude.{vec_capacity}
use Rattle.command_tables.specs.Table.{seen_param}
use Rattle.object_model.specs.Rules.{params_from}
use Rattle.object_records.specs.Shape.{arguments_of}
use Rattle.lifetime_layer.specs.Reports.{reports_at, reports_of}
use Rattle.lifetime_layer.proofs.checks.check_parameters.Given as goal

abbrev pub invariant-loop-i : goal.invariant-loop-i
invariant-loop-i l = record {
  found : reports_of l.out.items ++ params_from (reports_at l.place l.records.kept l.call.cmd (arguments_of l.call)) l.i (map seen_param (drop l.i l.params)) (drop l.i (arguments_of l.call))
      ≡ reports_of l.fn.out.items ++ params_from (reports_at l.place l.records.kept l.call.cmd (arguments_of l.call)) 0 (map seen_param l.params) (arguments_of l.call);
  quiet : params_from (reports_at l.place l.records.kept l.call.cmd (arguments_of l.call)) 0 (map seen_param l.params) (arguments_of l.call) ≡ [] → params_from (reports_at l.place l.records.kept l.call.cmd (arguments_of l.call)) l.i (map seen_param (drop l.i l.params)) (drop l.i (arguments_of l.call)) ≡ [];
  room : vec_capacity l.fn.out ≤ vec_capacity l.out;
}
