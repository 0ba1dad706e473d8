use Rattle.std.proofs.Common.{◌∙◌, Some, ap, sym}
use Rattle.std.specs.Option.{option_map}
use Rattle.chain_build.specs.Setup.{setup_content}
use Rattle.report_text.specs.Setups.{trace_setup}
use Rattle.session_parts.specs.Opening.{begin_content}
use Rattle.chain_session.proofs.Advancing.{begin_advances, begin_cut, can_begin, shown_since}
use Rattle.chain_session.proofs.session.Session.begin_with.Goals as goal

pub begin-requires-clause-can : goal.begin-requires-clause-can
begin-requires-clause-can g c =
    can_begin (trace_setup (setup_content c.args.setup.now)) _ c.deref_mut.result.now.kept (begin_content c.args.begin)
    (shown_since (trace_setup (setup_content c.args.setup.now)) _ c.deref_mut.result.now.kept (ap (option_map (λ x. x.value.kept)) c.in-Some.is ∙ ap (λ x. Some x.kept) (sym c.deref_mut.ensures.value))) c.requires.can

pub returns-in-Err-clause-err : goal.returns-in-Err-clause-err
returns-in-Err-clause-err g c =
    begin_cut (trace_setup (setup_content c.args.setup.now)) _ c.deref_mut.result.now.kept (begin_content c.args.begin) (g.D.Driver.log c.args.driver.now) (g.D.Driver.log c.begin.new.driver)
    (shown_since (trace_setup (setup_content c.args.setup.now)) _ c.deref_mut.result.now.kept (ap (option_map (λ x. x.value.kept)) c.in-Some.is ∙ ap (λ x. Some x.kept) (sym c.deref_mut.ensures.value))) c.in-Err.ensures.err

pub returns-in-Ok-clause-ok : goal.returns-in-Ok-clause-ok
returns-in-Ok-clause-ok g c =
    begin_advances (trace_setup (setup_content c.args.setup.now)) _ c.deref_mut.result.now.kept (begin_content c.args.begin) c.begin.new.self.kept
    (g.D.Driver.log c.args.driver.now) (g.D.Driver.log c.begin.new.driver) c.args.lines.now.items c.begin.new.lines.items
    (shown_since (trace_setup (setup_content c.args.setup.now)) _ c.deref_mut.result.now.kept (ap (option_map (λ x. x.value.kept)) c.in-Some.is ∙ ap (λ x. Some x.kept) (sym c.deref_mut.ensures.value))) c.in-Ok.ensures.ok
