use Rattle.std.proofs.Common.{◌≡◌, ◌∙◌, IfOk, ap, map, subst, sym}
use Rattle.command_tables.specs.Calls.{call_content}
use Rattle.model_driver.specs.Driver.{reply_shown}
use Rattle.trace_format.specs.Content.{TraceEvent, Begin, arg_content, content}
use Rattle.session_parts.specs.Leaving.{LeavesAt}
use Rattle.session_parts.proofs.parts.SessionParts.leave.Goals as goal

pub returns-in-Begin-clause-ok : goal.returns-in-Begin-clause-ok
returns-in-Begin-clause-ok g c =
    let said : TraceEvent = Begin (record { thread = c.in-Begin.thread; cmd = c.in-Begin.cmd; args = map arg_content c.deref.result.now; results = c.deref-in-Begin.result.now; code = c.in-Begin.code; payload = c.deref-in-Begin-2.result.now }) in
    let read : said ≡ Begin (record { thread = c.in-Begin.thread; cmd = c.in-Begin.cmd; args = map arg_content c.in-Begin.args.items; results = c.in-Begin.names.items; code = c.in-Begin.code; payload = c.in-Begin.payload.items })
    = λ i. Begin (record { thread = c.in-Begin.thread; cmd = c.in-Begin.cmd; args = map arg_content (c.deref.ensures.value i); results = c.deref-in-Begin.ensures.value i; code = c.in-Begin.code; payload = c.deref-in-Begin-2.ensures.value i }) in
    let is : said ≡ content c.args.event.now = read ∙ sym (ap content c.in-Begin.is) in
    subst (λ (ev : TraceEvent). IfOk c.leave_with.result (LeavesAt c.args.self.now ev (call_content c.args.call.now) c.args.held.now c.args.verdict.now.skip (map reply_shown c.args.replies.now) c.leave_with.new.self)) is c.leave_with.ensures.ok
