use Rattle.std.proofs.Common.{List, ℕ, ap, codes, subst}
use Rattle.std.specs.Prelude.{Err}
use Rattle.replay_base.specs.Changes.{changed}
use Rattle.trace_gen.specs.Text.{calls_text}
use Rattle.trace_gen.specs.Turns.{calls_of}
use Rattle.trace_gen.specs.Writing.{Puts}
use Rattle.trace_gen.proofs.WriteLemmas.{puts_both, puts_first, writes_puts}
use Rattle.trace_gen.proofs.writing.generate.Goals as goal

pub returns-in-Ok-put_line : goal.returns-in-Ok-put_line
returns-in-Ok-put_line g c =
    let held = g.K.Sink.held in
    let faults = g.K.Sink.faults in
    let old = c.args.sink.now in
    let mid = c.put_line.new.sink in
    let new = c.write_calls.new.sink in
    let put = c.in-Ok-put_line.ensures in
    let rest = subst (λ (text : List ℕ). Puts text (changed (held mid) (held new) (faults mid) (faults new)) c.write_calls.result) (ap calls_text c.in-Ok.ensures) c.write_calls.ensures in
    writes_puts _ _ c.write_calls.result
    (puts_both (codes "vktrace 1\n") (calls_text (calls_of c.args.number c.args.calls)) (held old) (held mid) (held new) (faults old) (faults mid) (faults new) c.write_calls.result put.0 put.1 rest)

pub returns : goal.returns
returns g c = writes_puts _ _ (Err c.in-Err.error) (puts_first (codes "vktrace 1\n") (calls_text (calls_of c.args.number c.args.calls)) _ c.in-Err.error c.in-Err.ensures)
