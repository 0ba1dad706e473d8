use Rattle.trace_gen.specs.Left.{calls_left}
use Rattle.trace_gen.specs.Text.{calls_text}
use Rattle.trace_gen.proofs.WriteLemmas.{begun_cut}
use Rattle.trace_gen.proofs.writing.write_calls.Goals as goal

pub returns-in-Err : goal.returns-in-Err
returns-in-Err g c =
    let held = g.K.Sink.held in
    let faults = g.K.Sink.faults in
    let calls = calls_left c.loop-call.generator in
    let more = calls_left c.next_call.new.self in
    let old = c.args.sink.now in
    let mid = c.loop-call.sink in
    let new = c.write_call.new.sink in
    begun_cut (calls_text (calls_left c.args.generator.now)) calls more c.in-Some.call (held old) (held mid) (held new) (faults old) (faults mid) (faults new) c.in-Err.error c.loop-call.invariant.begun c.in-Some.ensures c.in-Err.ensures.writes
