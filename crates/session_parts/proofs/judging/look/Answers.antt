use Rattle.std.proofs.Common.{◌≡◌, false, refl, rules, true}
use Rattle.command_tables.specs.Calls.{call_content}
use Rattle.command_tables.specs.Table.{row_of}
use Rattle.object_model.specs.Findings.{is_failing}
use Rattle.object_model.specs.History.{born_in}
use Rattle.object_model.specs.Rules.{loader_failures}
use Rattle.session_tables.specs.Shown.{args_shown}
use Rattle.session_parts.specs.Opening.{begin_content, opened_read}
use Rattle.session_parts.proofs.Judged.{loader_found, walked_found}
use Rattle.session_parts.proofs.judging.look.Goals as goal

pub returns-in_ok-report_first-clause-found : goal.returns-in_ok-report_first-clause-found
returns-in_ok-report_first-clause-found g c =
    let failing : is_failing (loader_failures (born_in c.args.objects.now.births) (row_of c.args.begin.cmd).params (args_shown c.args.args.now)) ≡ true = search rules in
    loader_found c.args.objects.now.births c.args.handed.now.handed c.args.states.now.kept (opened_read c.args.number (begin_content c.args.begin) (args_shown c.args.args.now)) (call_content c.args.form.now) c.args.held.now c.args.verdict.now
    c.report_first.new.verdict refl failing c.requires.empty c.requires.unheld c.in_ok-report_first.ensures.skip c.in_ok-report_first.ensures.reports

pub returns-in_ok-walk_down-clause-found : goal.returns-in_ok-walk_down-clause-found
returns-in_ok-walk_down-clause-found g c =
    let failing : is_failing (loader_failures (born_in c.args.objects.now.births) (row_of c.args.begin.cmd).params (args_shown c.args.args.now)) ≡ false = search rules in
    walked_found c.args.objects.now.births c.args.handed.now.handed c.args.states.now.kept c.walk_down.new.states.kept (opened_read c.args.number (begin_content c.args.begin) (args_shown c.args.args.now)) (call_content c.walk_down.new.form) c.walk_down.new.held c.walk_down.new.verdict
    refl failing c.in_ok-walk_down.ensures.reports c.in_ok-walk_down.ensures.skip c.in_ok-walk_down.ensures.states c.in_ok-walk_down.ensures.bottom c.in_ok-walk_down.ensures.held
