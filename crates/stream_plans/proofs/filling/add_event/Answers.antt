use Rattle.std.proofs.Common.{ap, map}
use Rattle.trace_format.specs.Content.{BeginEvent, arg_content, content}
use Rattle.stream_plans.proofs.TableLemmas.{learned_call}
use Rattle.stream_plans.proofs.filling.add_event.Goals as goal

pub returns-in_ok-add_begin-in-Begin : goal.returns-in_ok-add_begin-in-Begin
returns-in_ok-add_begin-in-Begin c =
    let b : BeginEvent = record { thread = c.in-Begin.thread; cmd = c.in-Begin.cmd; args = map arg_content c.in-Begin.args.items; results = c.in-Begin.results.items; code = c.in-Begin.code; payload = c.in-Begin.payload.items } in
    learned_call c.args.table.now.rows.items c.add_begin.new.table.rows.items (content c.args.event.now) b (map arg_content c.deref.result.now) c.deref-in-Begin.result.now (ap content c.in-Begin.is) (ap (map arg_content) c.deref.ensures.value) c.deref-in-Begin.ensures.value c.in_ok-add_begin-in-Begin.ensures
