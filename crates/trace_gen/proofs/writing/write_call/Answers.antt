use Rattle.std.proofs.Common.{◌++◌, List, ℕ, subst, sym, codes}
use Rattle.replay_base.specs.Changes.{changed}
use Rattle.trace_format.specs.Content.{Return}
use Rattle.trace_gen.specs.Text.{begin_of, event_line}
use Rattle.trace_gen.specs.Writing.{Puts}
use Rattle.trace_gen.proofs.TextLemmas.{returns}
use Rattle.trace_gen.proofs.WriteLemmas.{puts_both, puts_first}
use Rattle.trace_gen.proofs.writing.write_call.Goals as goal

pub returns-in-Ok-clause-writes : goal.returns-in-Ok-clause-writes
returns-in-Ok-clause-writes g c =
    let held = g.K.Sink.held in
    let faults = g.K.Sink.faults in
    let old = c.args.sink.now in
    let mid = c.write_begin.new.sink in
    let new = c.put_line.new.sink in
    let first = event_line (begin_of c.args.call) in
    subst (λ (text : List ℕ). Puts (first ++ text) (changed (held old) (held new) (faults old) (faults new)) c.put_line.result) (sym returns)
    (puts_both first (codes "r 1\n") (held old) (held mid) (held new) (faults old) (faults mid) (faults new) c.put_line.result c.in-Ok.ensures.writes.0 c.in-Ok.ensures.writes.1 c.put_line.ensures)

pub returns-in-Err-clause-writes : goal.returns-in-Err-clause-writes
returns-in-Err-clause-writes g c = puts_first (event_line (begin_of c.args.call)) (event_line (Return 1)) _ c.in-Err.error c.in-Err.ensures.writes
