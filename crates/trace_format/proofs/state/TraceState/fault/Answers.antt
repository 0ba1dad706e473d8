use Rattle.std.proofs.Common.{◌∙◌, map}
use Rattle.trace_format.specs.Content.{arg_content}
use Rattle.trace_format.proofs.StateLemmas.{bare_fault}
use Rattle.trace_format.proofs.state.TraceState.fault.Goals as goal

pub returns-in-Begin : goal.returns-in-Begin
returns-in-Begin c =
    rw c.in-Begin.is (
    rw (c.deref.ensures.value, c.deref-in-Begin.ensures.value) at c.fault_of_begin.ensures
    ∙ bare_fault c.args.self.now (record {
      thread = c.in-Begin.thread;
      cmd = c.in-Begin.cmd;
      args = map arg_content c.in-Begin.args.items;
      results = c.in-Begin.results.items;
      code = c.in-Begin.code;
      payload = c.in-Begin.payload.items;
    }))
