use Rattle.std.proofs.Common.{◌≡◌, ◌∙◌, ◌++◌, ap, length, map, refl, rules, subst}
use Rattle.std.specs.List.{flat_map}
use Rattle.model_driver.specs.Driver.{reply_shown}
use Rattle.lifetime_layer.specs.Reports.{reports_of}
use Rattle.replay_model.specs.Text.{report_text}
use Rattle.session_tables.proofs.Lists.{on_err}
use Rattle.session_parts.specs.Opening.{begin_content}
use Rattle.chain_session.specs.Keeping.{KeepsBegun}
use Rattle.chain_session.specs.Sending.{IsSentTo, calls_due}
use Rattle.chain_session.specs.Telling.{AreAsked}
use Rattle.chain_session.specs.declared.call.OpenCall.{OpenCall}
use Rattle.chain_session.proofs.Told.{all_asked}
use Rattle.chain_session.proofs.beginning.tell_and_keep.Goals as goal

pub returns-in_err-put_reports-clause-err : goal.returns-in_err-put_reports-clause-err
returns-in_err-put_reports-clause-err g c =
    on_err c.from_residual-in_err-put_reports.result
    (all_asked (calls_due c.args.kept.now.parts.terminator c.args.call.value) (map reply_shown c.send.new.call.replies.items) (g.D.Driver.log c.args.driver.now) (g.D.Driver.log c.send.new.driver)
    (subst (λ (x : OpenCall). AreAsked (calls_due c.args.kept.now.parts.terminator x) (map reply_shown c.send.new.call.replies.items) (g.D.Driver.log c.args.driver.now) (g.D.Driver.log c.send.new.driver)) c.deref_mut.ensures.value
    c.in_ok-send.ensures.ok.asked))

pub returns-clause-ok : goal.returns-clause-ok
returns-clause-ok g c =
    let begun : KeepsBegun c.args.kept.now c.send.new.call c.len.result c.keep_begun.new.kept = c.in_ok-keep_begun.ensures.kept in
    let long : c.len.result ≡ length c.args.verdict.now.findings.items = search rules in
    let wrote : c.put_reports.new.lines.items ≡ c.args.lines.now.items ++ flat_map (report_text (begin_content c.args.begin) c.args.call.value.number) (reports_of c.deref-2.result.now) =
    c.in_ok-put_reports.ensures (begin_content c.args.begin) refl refl
    ∙ ap (λ (x : OpenCall). c.args.lines.now.items ++ flat_map (report_text (begin_content c.args.begin) x.number) (reports_of c.deref-2.result.now)) c.deref.ensures in
    let seen : c.deref-2.result.now ≡ c.args.verdict.now.findings.items = search rules in
    record {
      sent = c.send.new.call;
      sends = subst (λ (x : OpenCall). IsSentTo c.args.kept.now.parts.terminator x c.send.new.call (g.D.Driver.log c.args.driver.now) (g.D.Driver.log c.send.new.driver)) c.deref_mut.ensures.value c.in_ok-send.ensures.ok;
      begun = subst (λ n. KeepsBegun c.args.kept.now c.send.new.call n c.keep_begun.new.kept) long begun;
      wrote = wrote ∙ ap (λ fs. c.args.lines.now.items ++ flat_map (report_text (begin_content c.args.begin) c.args.call.value.number) (reports_of fs)) seen;
    }

pub returns-in_err-keep_begun-clause-err : goal.returns-in_err-keep_begun-clause-err
returns-in_err-keep_begun-clause-err g c =
    on_err c.from_residual-in_err-keep_begun.result
    (all_asked (calls_due c.args.kept.now.parts.terminator c.args.call.value) (map reply_shown c.send.new.call.replies.items) (g.D.Driver.log c.args.driver.now) (g.D.Driver.log c.send.new.driver)
    (subst (λ (x : OpenCall). AreAsked (calls_due c.args.kept.now.parts.terminator x) (map reply_shown c.send.new.call.replies.items) (g.D.Driver.log c.args.driver.now) (g.D.Driver.log c.send.new.driver)) c.deref_mut.ensures.value
    c.in_ok-send.ensures.ok.asked))
