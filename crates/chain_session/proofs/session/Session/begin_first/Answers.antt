use Rattle.std.proofs.Common.{ap, refl}
use Rattle.chain_build.specs.Setup.{setup_content}
use Rattle.report_text.specs.Setups.{trace_setup}
use Rattle.session_tables.proofs.Lists.{on_err}
use Rattle.session_parts.specs.Opening.{begin_content}
use Rattle.chain_session.proofs.Advancing.{begin_advances, begin_cut, can_begin, none_begun, shown_first, shown_in}
use Rattle.chain_session.proofs.session.Session.begin_first.Goals as goal

pub returns-in_err-start-clause-err : goal.returns-in_err-start-clause-err
returns-in_err-start-clause-err g c = on_err c.from_residual.result (none_begun (trace_setup (setup_content c.args.setup.now)) _ (begin_content c.args.begin) (g.D.Driver.log c.args.driver.now) (g.D.Driver.log c.args.driver.now) refl)

pub begin-requires-clause-can : goal.begin-requires-clause-can
begin-requires-clause-can g c =
    can_begin (trace_setup (setup_content c.args.setup.now)) _ c.deref_mut.result.now.kept (begin_content c.args.begin)
    (shown_first (trace_setup (setup_content c.args.setup.now)) _ c.deref_mut.result.now.kept c.requires.first (shown_in (trace_setup (setup_content c.args.setup.now)) _ _ (ap (λ x. x.kept) c.deref_mut.ensures.value) (rw c.in-Some.is at c.in_ok-start.ensures))) c.requires.can

pub returns-in-Err-clause-err : goal.returns-in-Err-clause-err
returns-in-Err-clause-err g c =
    begin_cut (trace_setup (setup_content c.args.setup.now)) _ c.deref_mut.result.now.kept (begin_content c.args.begin) (g.D.Driver.log c.args.driver.now) (g.D.Driver.log c.begin.new.driver)
    (shown_first (trace_setup (setup_content c.args.setup.now)) _ c.deref_mut.result.now.kept c.requires.first (shown_in (trace_setup (setup_content c.args.setup.now)) _ _ (ap (λ x. x.kept) c.deref_mut.ensures.value) (rw c.in-Some.is at c.in_ok-start.ensures))) c.in-Err.ensures.err

pub returns-in-Ok-clause-ok : goal.returns-in-Ok-clause-ok
returns-in-Ok-clause-ok g c =
    begin_advances (trace_setup (setup_content c.args.setup.now)) _ c.deref_mut.result.now.kept (begin_content c.args.begin) c.begin.new.self.kept
    (g.D.Driver.log c.args.driver.now) (g.D.Driver.log c.begin.new.driver) c.args.lines.now.items c.begin.new.lines.items
    (shown_first (trace_setup (setup_content c.args.setup.now)) _ c.deref_mut.result.now.kept c.requires.first (shown_in (trace_setup (setup_content c.args.setup.now)) _ _ (ap (λ x. x.kept) c.deref_mut.ensures.value) (rw c.in-Some.is at c.in_ok-start.ensures))) c.in-Ok.ensures.ok
