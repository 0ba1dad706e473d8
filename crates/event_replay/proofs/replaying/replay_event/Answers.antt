use Rattle.std.proofs.Common.{◌+◌, ap, arith}
use Rattle.std.specs.Option.{option_map}
use Rattle.trace_format.specs.Content.{content}
use Rattle.chain_build.specs.Setup.{setup_content}
use Rattle.report_text.specs.Setups.{trace_setup}
use Rattle.chain_session.proofs.Guarded.{gives_guarded}
use Rattle.event_replay.proofs.Onward.{can_return, goes_begun, goes_returned, number_fits, number_is}
use Rattle.event_replay.proofs.replaying.replay_event.Goals as goal

pub overflow_add-number : goal.overflow_add-number
overflow_add-number g c =
    let fits = number_fits (trace_setup (setup_content c.args.setup.now)) (option_map (λ x. x.value.kept) c.args.session.now.started) (content c.args.event.now) c.tally-number.result.calls c.tally-number.result.skipped c.tally-number.result.reports c.requires.can c.tally-number.ensures in
    omega (arith, fits)

pub begin-requires-clause-number : goal.begin-requires-clause-number
begin-requires-clause-number g c =
    ap (λ n. n + 1)
    (number_is (trace_setup (setup_content c.args.setup.now)) (option_map (λ x. x.value.kept) c.args.session.now.started) (content c.args.event.now) c.tally-number.result.calls c.tally-number.result.skipped c.tally-number.result.reports c.requires.can c.tally-number.ensures)

pub returns-in-Begin-clause-ok : goal.returns-in-Begin-clause-ok
returns-in-Begin-clause-ok g c =
    goes_begun (trace_setup (setup_content c.args.setup.now)) (option_map (λ x. x.value.kept) c.args.session.now.started) (option_map (λ x. x.value.kept) c.begin.new.self.started) (content c.args.event.now) (g.D.Driver.log c.args.driver.now) (g.D.Driver.log c.begin.new.driver)
    c.args.lines.now.items c.begin.new.lines.items c.begin.result c.requires.can c.begin.ensures.ok

pub finish-requires : goal.finish-requires
finish-requires g c =
    can_return (trace_setup (setup_content c.args.setup.now)) (option_map (λ x. x.value.kept) c.args.session.now.started) (content c.args.event.now) c.in-Return.thread (gives_guarded (setup_content c.args.setup.now)) (ap content c.in-Return.is) c.requires.can

pub returns-in_ok-finish-in-Return-clause-ok : goal.returns-in_ok-finish-in-Return-clause-ok
returns-in_ok-finish-in-Return-clause-ok g c =
    goes_returned (trace_setup (setup_content c.args.setup.now)) (option_map (λ x. x.value.kept) c.args.session.now.started) (option_map (λ x. x.value.kept) c.finish.new.self.started) (content c.args.event.now) c.in-Return.thread (g.D.Driver.log c.args.driver.now)
    c.args.lines.now.items c.finish.new.lines.items (gives_guarded (setup_content c.args.setup.now)) (ap content c.in-Return.is) c.requires.can c.in_ok-finish-in-Return.ensures
