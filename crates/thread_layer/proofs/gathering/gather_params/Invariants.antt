use Rattle.std.proofs.Common.{◌≡◌, ◌≤◌, ◌++◌, map, drop}
use Rattle.std.specs.Prelude.{vec_capacity}
use Rattle.command_tables.specs.Table.{seen_param}
use Rattle.object_model.specs.Rules.{params_from}
use Rattle.object_records.specs.Shape.{arguments_of}
use Rattle.thread_layer.specs.Kept.{use_seen, with_opens}
use Rattle.lifetime_layer.specs.Reports.{reports_of}
use Rattle.thread_layer.specs.Room.{gathered_room}
use Rattle.thread_layer.specs.Findings.{argument_reports, argument_uses}
use Rattle.thread_layer.proofs.gathering.gather_params.Given as goal

abbrev pub invariant-loop-i : goal.invariant-loop-i
invariant-loop-i l = record {
  uses : map use_seen l.gathered.uses.items ++ params_from (argument_uses (with_opens l.beside.records.now.kept l.beside.opens.now.opens)) l.i (map seen_param (drop l.i l.params)) (drop l.i (arguments_of l.call))
      ≡ map use_seen l.fn.gathered.uses.items ++ params_from (argument_uses (with_opens l.beside.records.now.kept l.beside.opens.now.opens)) 0 (map seen_param l.params) (arguments_of l.call);
  findings : reports_of l.verdict.findings.items ++ params_from (argument_reports l.beside.place l.beside.thread (with_opens l.beside.records.now.kept l.beside.opens.now.opens)) l.i (map seen_param (drop l.i l.params)) (drop l.i (arguments_of l.call))
      ≡ reports_of l.fn.verdict.findings.items ++ params_from (argument_reports l.beside.place l.beside.thread (with_opens l.beside.records.now.kept l.beside.opens.now.opens)) 0 (map seen_param l.params) (arguments_of l.call);
  skip : l.verdict.skip ≡ l.fn.verdict.skip;
  uses_room : gathered_room l.fn.gathered ≤ gathered_room l.gathered;
  findings_room : vec_capacity l.fn.verdict.findings ≤ vec_capacity l.verdict.findings;
}
