use Rattle.std.proofs.Common.{◌∙◌, ◌+◌, ap, sym, None, Some, length, map}
use Rattle.trace_format.specs.Content.{BeginEvent, Begin, arg_content}
use Rattle.stream_model.specs.Order.{events, limit_refusal, stream_refusal}
use Rattle.threaded_replay.specs.Calls.{call_of}
use Rattle.threaded_replay.proofs.KeptLemmas.{call_refusal_same, device_named_same, kept_begun, limit_same, one_more, refused_first, refused_next}
use Rattle.threaded_replay.proofs.sections.Sections.take_begin.Goals as goal

pub returns-in-Some : goal.returns-in-Some
returns-in-Some c = λ lines kept.
    let b : BeginEvent = call_of c.args.cmd (map arg_content c.args.args.now) c.args.results.now in
    refused_first (stream_refusal lines (Begin b)) (limit_refusal lines (Begin b)) c.in-Some.refusal (sym (call_refusal_same c.args.self.now lines b kept) ∙ (sym c.call_refusal.ensures ∙ c.in-Some.is))

pub returns-in-Some-limit_passed : goal.returns-in-Some-limit_passed
returns-in-Some-limit_passed c = λ lines kept.
    let b : BeginEvent = call_of c.args.cmd (map arg_content c.args.args.now) c.args.results.now in
    let at = c.device_named-device.ensures ∙ device_named_same c.args.self.now lines b kept in
    refused_next (stream_refusal lines (Begin b)) (limit_refusal lines (Begin b)) (Some c.in-Some-limit_passed.refusal)
    (sym (call_refusal_same c.args.self.now lines b kept) ∙ (sym c.call_refusal.ensures ∙ c.in_default.is))
    (sym (limit_same c.args.self.now lines (Begin b) (c.args.self.now.names + length b.results) (c.args.self.now.events + 1) c.device_named-device.result kept (ap (λ n. n + length b.results) kept.names) (one_more (Begin b) (events lines) c.args.self.now.events kept.events) at)
    ∙ (sym c.limit_passed.ensures ∙ c.in-Some-limit_passed.is))

pub returns : goal.returns
returns c = λ lines kept.
    let b : BeginEvent = call_of c.args.cmd (map arg_content c.args.args.now) c.args.results.now in
    let at = c.device_named-device.ensures ∙ device_named_same c.args.self.now lines b kept in (
      refused_next (stream_refusal lines (Begin b)) (limit_refusal lines (Begin b)) None
          (sym (call_refusal_same c.args.self.now lines b kept) ∙ (sym c.call_refusal.ensures ∙ c.in_default.is))
          (sym (limit_same c.args.self.now lines (Begin b) (c.args.self.now.names + length b.results) (c.args.self.now.events + 1) c.device_named-device.result kept (ap (λ n. n + length b.results) kept.names) (one_more (Begin b) (events lines) c.args.self.now.events kept.events) at)
          ∙ (sym c.limit_passed.ensures ∙ c.in_default-limit_passed.is)),
      kept_begun c.args.self.now c.keep_call.new.self lines b c.device_named-device.result kept c.in_ok-keep_call.ensures at,
    )
