use Rattle.std.proofs.Common.{◌∙◌, None, ap, refl, subst, sym}
use Rattle.std.specs.List.{AllByRecursion}
use Rattle.command_tables.specs.Calls.{call_content}
use Rattle.command_tables.specs.Tests.{same_command}
use Rattle.command_tables.specs.declared.types.CommandId.TheVariants as cmd
use Rattle.model_driver.specs.Driver.{HasShape}
use Rattle.chain_build.specs.Setup.{setup_content}
use Rattle.report_text.specs.Setups.{trace_setup}
use Rattle.terminator.specs.Calls.{TerminatorState, targets_of}
use Rattle.session_tables.proofs.Lists.{on_err}
use Rattle.session_tables.specs.Lined.{AreLined}
use Rattle.session_parts.specs.Opening.{begin_content}
use Rattle.session_parts.proofs.Begins.{fits_first}
use Rattle.chain_session.specs.Sending.{calls_due}
use Rattle.chain_session.specs.Shown.{kinds_chained}
use Rattle.chain_session.specs.Telling.{FrontAsked}
use Rattle.chain_session.proofs.BeginCalls.{began_so, chained_from, cut_first, cut_so, shapes_so}
use Rattle.chain_session.proofs.beginning.begin_call.Goals as goal

pub returns-in_err-creation-clause-err : goal.returns-in_err-creation-clause-err
returns-in_err-creation-clause-err g c =
    on_err c.from_residual.result
    (cut_first (trace_setup (setup_content c.args.setup.now)) c.args.kept.now (begin_content c.args.begin) (g.D.Driver.log c.args.driver.now) (g.D.Driver.log c.args.driver.now) refl)

pub open_judged-requires-clause-fits : goal.open_judged-requires-clause-fits
open_judged-requires-clause-fits g c = fits_first c.args.number c.args.kept.now.parts.names.kept.names (begin_content c.args.begin) None c.requires.can.begins

pub returns-in_err-call-clause-err : goal.returns-in_err-call-clause-err
returns-in_err-call-clause-err g c =
    on_err c.from_residual-in_err-call.result
    (cut_first (trace_setup (setup_content c.args.setup.now)) c.args.kept.now (begin_content c.args.begin) (g.D.Driver.log c.args.driver.now) (g.D.Driver.log c.args.driver.now) refl)

pub tell_and_keep-requires-clause-shapes : goal.tell_and_keep-requires-clause-shapes
tell_and_keep-requires-clause-shapes g c = λ sent.
    subst (λ (t : TerminatorState). AllByRecursion HasShape (targets_of t (call_content c.in_ok-call.call.value.bottom))) (sym c.in_ok-call.ensures.passes.terminator)
    (shapes_so (trace_setup (setup_content c.args.setup.now)) c.args.kept.now (begin_content c.args.begin) c.args.number c.start_of-start.result.refusal c.in_ok-call.call.value c.open_judged.new.verdict c.open_judged.new.kept.parts
    c.requires.number (c.start_of-start.ensures.refusal ∙ c.in_ok-creation.ensures.refusal) c.in_ok-call.ensures.judged c.requires.can.kept c.requires.can.shows c.requires.can.steps.shapes sent)

pub open_judged-requires-clause-lined : goal.open_judged-requires-clause-lined
open_judged-requires-clause-lined g c = subst AreLined (sym c.requires.can.shows.parts.births) c.requires.can.steps.lined

pub returns-in_err-tell_and_keep-clause-err : goal.returns-in_err-tell_and_keep-clause-err
returns-in_err-tell_and_keep-clause-err g c =
    on_err c.from_residual-in_err-tell_and_keep.result
    (cut_so (trace_setup (setup_content c.args.setup.now)) c.args.kept.now (begin_content c.args.begin) c.args.number c.start_of-start.result.refusal c.in_ok-call.call.value c.open_judged.new.verdict c.open_judged.new.kept.parts
    c.requires.number (c.start_of-start.ensures.refusal ∙ c.in_ok-creation.ensures.refusal) c.in_ok-call.ensures.judged (g.D.Driver.log c.args.driver.now) (g.D.Driver.log c.tell_and_keep.new.driver)
    (subst (λ (t : TerminatorState). FrontAsked (calls_due t c.in_ok-call.call.value) (g.D.Driver.log c.args.driver.now) (g.D.Driver.log c.tell_and_keep.new.driver)) c.in_ok-call.ensures.passes.terminator
    c.in_err-tell_and_keep.ensures.err))

pub returns-clause-ok : goal.returns-clause-ok
returns-clause-ok g c =
    let s = trace_setup (setup_content c.args.setup.now) in
    let e = begin_content c.args.begin in
    began_so s c.args.kept.now e c.args.number c.start_of-start.result.refusal c.in_ok-call.call.value c.open_judged.new.verdict c.open_judged.new.kept.parts
    c.requires.number (c.start_of-start.ensures.refusal ∙ c.in_ok-creation.ensures.refusal) c.in_ok-call.ensures.judged
    c.open_judged.new.kept c.tell_and_keep.new.kept (g.D.Driver.log c.args.driver.now) (g.D.Driver.log c.tell_and_keep.new.driver) c.args.lines.now.items c.create.new.lines.items c.tell_and_keep.new.lines.items
    c.in_ok-call.ensures.kept c.in_ok-call.ensures.passes c.in_ok-call.ensures.kinds c.in_ok-call.ensures.refusal
    (λ made allowed. ap kinds_chained c.in_ok-call.ensures.chain ∙ chained_from (same_command e.cmd cmd.CreateInstance) (s.outcome e.payload) c.in_ok-creation.creation c.start_of-start.result.chain c.in_ok-creation.ensures.created c.start_of-start.ensures.chain made allowed)
    c.in_ok-creation.ensures.lines c.in_ok-tell_and_keep.ensures.ok
