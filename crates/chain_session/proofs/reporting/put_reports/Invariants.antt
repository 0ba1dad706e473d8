use Rattle.std.proofs.Common.{◌≡◌, ◌++◌, map, take}
use Rattle.std.specs.List.{flat_map}
use Rattle.trace_format.specs.Content.{arg_content}
use Rattle.lifetime_layer.specs.Reports.{report_of}
use Rattle.chain_session.specs.Reporting.{line_at}
use Rattle.chain_session.proofs.reporting.put_reports.Given as goal

abbrev pub invariant-loop-finding : goal.invariant-loop-finding
invariant-loop-finding l = l.lines.items ≡ l.fn.lines.items ++ flat_map (line_at l.number l.cmd (map arg_content l.args)) (map report_of (take l.finding-index l.findings))
