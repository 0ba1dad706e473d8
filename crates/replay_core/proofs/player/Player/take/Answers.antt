use Rattle.std.proofs.Common.{ap, subst, sym}
use Rattle.trace_format.specs.Content.{content}
use Rattle.chain_build.specs.Setup.{setup_content}
use Rattle.report_text.specs.Setups.{trace_setup}
use Rattle.session_tables.proofs.Lists.{on_err}
use Rattle.chain_session.specs.Standing.{BeginsCall}
use Rattle.chain_session.proofs.Guarded.{gives_guarded}
use Rattle.replay_core.proofs.Sessions.{both_err, begin_may_tell, can_return, return_may_tell, returned}
use Rattle.replay_core.proofs.player.Player.take.Goals as goal

pub finish-requires : goal.finish-requires
finish-requires g c =
    can_return (trace_setup (setup_content c.args.setup.now)) _ (content c.args.event.now) c.in-Return.thread c.args.call (gives_guarded (setup_content c.args.setup.now)) (ap content c.in-Return.is) c.requires.can

pub returns-in_err-finish-in-Return-clause-err : goal.returns-in_err-finish-in-Return-clause-err
returns-in_err-finish-in-Return-clause-err g c =
    on_err c.from_residual.result
    (return_may_tell (trace_setup (setup_content c.args.setup.now)) _ (content c.args.event.now) c.in-Return.thread (g.D.Driver.log c.args.driver.now) (ap content c.in-Return.is))

pub returns-in-Begin-clause-err : goal.returns-in-Begin-clause-err
returns-in-Begin-clause-err g c =
    both_err c.begin.result _ _ _
    (λ cut long. begin_may_tell (trace_setup (setup_content c.args.setup.now)) _ (content c.args.event.now) (g.D.Driver.log c.args.driver.now) (g.D.Driver.log c.begin.new.driver)
    (subst (λ ev. BeginsCall (content ev)) (sym c.in-Begin.is) tt) cut long)
    c.begin.ensures.err c.begin.ensures.untold

pub returns-in_ok-finish-in-Return-clause-ok : goal.returns-in_ok-finish-in-Return-clause-ok
returns-in_ok-finish-in-Return-clause-ok g c =
    returned (trace_setup (setup_content c.args.setup.now)) _ _ (content c.args.event.now) c.in-Return.thread (g.D.Driver.log c.args.driver.now) _ _ (gives_guarded (setup_content c.args.setup.now)) (ap content c.in-Return.is)
    c.clear.ensures.items c.in_ok-finish-in-Return.ensures
