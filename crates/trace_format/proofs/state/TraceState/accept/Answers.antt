use Rattle.std.proofs.Common.{◌≡◌, ◌∙◌, Some, ap, map, sym}
use Rattle.trace_format.specs.Content.{arg_content, content}
use Rattle.trace_format.proofs.StateLemmas.{begin_kept, refused, return_accepted, too_many}
use Rattle.trace_format.proofs.state.TraceState.accept.Goals as goal

pub returns-in-Some-clause-fault : goal.returns-in-Some-clause-fault
returns-in-Some-clause-fault c = λ f is before stands.
    let same : c.in-Some.fault ≡ f = cc in
    refused c.args.self.now (content c.args.event.now) f c.requires (sym c.in-Some.ensures ∙ ap (λ g. Some g) same) before stands

pub returns-in-Return-clause-ok : goal.returns-in-Return-clause-ok
returns-in-Return-clause-ok c = λ before stands.
    rw c.in-Return.is (
    return_accepted c.args.self.now c.end.new.self c.in-Return.thread c.end.result (rw c.in-Return.is at c.requires) (rw c.in-Return.is at (sym c.in_default.ensures)) c.end.ensures.ended c.end.ensures.number before stands)

pub returns-in-Begin-clause-ok : goal.returns-in-Begin-clause-ok
returns-in-Begin-clause-ok c =
    rw c.in-Begin.is (
    begin_kept c.begin.result c.args.self.now c.begin.new.self (record {
      thread = c.in-Begin.thread;
      cmd = c.in-Begin.cmd;
      args = map arg_content c.in-Begin.args.items;
      results = c.in-Begin.results.items;
      code = c.in-Begin.code;
      payload = c.in-Begin.payload.items;
    }) (rw c.in-Begin.is at c.requires) (rw c.in-Begin.is at (sym c.in_default.ensures)) (rw c.deref.ensures.value at c.begin.ensures.ok) c.begin.ensures.number)

pub returns-in-Begin-clause-names : goal.returns-in-Begin-clause-names
returns-in-Begin-clause-names c = λ is before stands.
    rw c.in-Begin.is (
    too_many c.args.self.now (record {
      thread = c.in-Begin.thread;
      cmd = c.in-Begin.cmd;
      args = map arg_content c.in-Begin.args.items;
      results = c.in-Begin.results.items;
      code = c.in-Begin.code;
      payload = c.in-Begin.payload.items;
    }) (rw c.in-Begin.is at c.requires) (rw c.in-Begin.is at (sym c.in_default.ensures)) (rw c.deref.ensures.value at (c.begin.ensures.names is)) before stands)
