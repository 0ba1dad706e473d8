use Rattle.std.proofs.Common.{◌≡◌, ◌≤◌, ◌++◌, map, drop}
use Rattle.std.specs.Prelude.{vec_capacity}
use Rattle.command_tables.specs.Handles.{list_at}
use Rattle.command_tables.specs.Table.{seen_param}
use Rattle.object_model.specs.Rules.{places_from}
use Rattle.object_records.specs.Shape.{arguments_of}
use Rattle.thread_layer.specs.Kept.{use_seen, with_opens}
use Rattle.lifetime_layer.specs.Reports.{reports_of}
use Rattle.thread_layer.specs.Room.{gathered_room}
use Rattle.thread_layer.specs.Findings.{argument_reports, argument_uses}
use Rattle.thread_layer.proofs.gathering.gather_places.Given as goal

abbrev pub invariant-loop-k : goal.invariant-loop-k
invariant-loop-k l = record {
  uses : map use_seen l.gathered.uses.items ++ places_from (argument_uses (with_opens l.beside.records.now.kept l.beside.opens.now.opens) l.i (seen_param l.param)) l.k (drop l.k (list_at (arguments_of l.call) l.i))
      ≡ map use_seen l.fn.gathered.uses.items ++ places_from (argument_uses (with_opens l.beside.records.now.kept l.beside.opens.now.opens) l.i (seen_param l.param)) 0 (list_at (arguments_of l.call) l.i);
  findings : reports_of l.verdict.findings.items ++ places_from (argument_reports l.beside.place l.beside.thread (with_opens l.beside.records.now.kept l.beside.opens.now.opens) l.i (seen_param l.param)) l.k (drop l.k (list_at (arguments_of l.call) l.i))
      ≡ reports_of l.fn.verdict.findings.items ++ places_from (argument_reports l.beside.place l.beside.thread (with_opens l.beside.records.now.kept l.beside.opens.now.opens) l.i (seen_param l.param)) 0 (list_at (arguments_of l.call) l.i);
  skip : l.verdict.skip ≡ l.fn.verdict.skip;
  uses_room : gathered_room l.fn.gathered ≤ gathered_room l.gathered;
  findings_room : vec_capacity l.fn.verdict.findings ≤ vec_capacity l.verdict.findings;
}
