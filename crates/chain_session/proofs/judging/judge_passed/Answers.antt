use Rattle.std.proofs.Common.{◌≡◌, ◌∙◌, ap, refl, rules, subst, sym}
use Rattle.command_tables.specs.Calls.{call_content}
use Rattle.replay_model.specs.Past.{Opened}
use Rattle.session_tables.specs.Shown.{args_shown}
use Rattle.session_parts.specs.Judging.{FitsCall}
use Rattle.session_parts.specs.Opening.{begin_content, opened_read}
use Rattle.chain_session.specs.Opened.{opened_of}
use Rattle.chain_session.proofs.Judged.{came_judged, came_passes}
use Rattle.chain_session.proofs.judging.judge_passed.Goals as goal

pub come_down-requires-clause-fits : goal.come_down-requires-clause-fits
come_down-requires-clause-fits g c =
    let read : args_shown c.deref.result.now ≡ args_shown c.args.call.now.args.items = search rules in
    subst (λ args. FitsCall (opened_read c.args.number (begin_content c.args.begin) args)) (sym (read ∙ ap (λ (o : Opened). o.args) c.requires.opened)) c.requires.fits

pub returns-clause-judged : goal.returns-clause-judged
returns-clause-judged g c =
    let read : args_shown c.deref.result.now ≡ args_shown c.args.call.now.args.items = search rules in
    came_judged c.args.parts.now c.come_down.new.self c.args.number (begin_content c.args.begin) (args_shown c.deref.result.now) c.args.call.now _ (call_content c.come_down.new.form) c.come_down.new.held c.come_down.new.verdict
    c.requires.allowed c.requires.opened read c.in_ok-come_down.ensures.down (ap (λ t. record (opened_of c.args.call.now) { stop = t }) c.stop_of-call.ensures) refl refl

pub returns-clause-passes : goal.returns-clause-passes
returns-clause-passes g c =
    let read : args_shown c.deref.result.now ≡ args_shown c.args.call.now.args.items = search rules in
    came_passes c.args.parts.now c.come_down.new.self c.args.number (begin_content c.args.begin) (args_shown c.deref.result.now) c.args.call.now (record c.args.call.now { stop = c.stop_of-call.result; held = c.come_down.new.held; bottom = c.come_down.new.form }) (call_content c.come_down.new.form) c.come_down.new.held c.come_down.new.verdict
    c.requires.allowed c.requires.opened read c.in_ok-come_down.ensures.down (ap (λ t. record (opened_of c.args.call.now) { stop = t }) c.stop_of-call.ensures)
