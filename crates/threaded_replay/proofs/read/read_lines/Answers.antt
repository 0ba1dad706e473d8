use Rattle.std.proofs.Common.{◌∙◌, ap, arith, subst, sym, Ok}
use Rattle.replay_base.specs.Reader.{line_of, state_of}
use Rattle.replay_core.specs.Given.{TakesNext, source_of}
use Rattle.threaded_replay.specs.Reading.{FindsLine, ReadsNot}
use Rattle.threaded_replay.proofs.Progress.{far_finished, far_halts, far_next, far_not_taken, far_unfinished}
use Rattle.threaded_replay.proofs.read.read_lines.Goals as goal

pub returns-in-Err-next_line-clause-error : goal.returns-in-Err-next_line-clause-error
returns-in-Err-next_line-clause-error g c =
    far_halts (g.S.Source.left c.args.reader.now.source) (g.S.Source.faults c.args.reader.now.source) (state_of g.S.Source.left g.S.Source.faults c.loop-error.reader) (state_of g.S.Source.left g.S.Source.faults c.next_line.new.reader) c.loop-error.intake c.loop-error.number
    (line_of c.next_line.new.reader) c.in-Err-next_line.error c.loop-error.invariant.far c.next_line.ensures.ahead c.in-Err-next_line.ensures.finds

pub returns-in-Ok-false-clause-file : goal.returns-in-Ok-false-clause-file
returns-in-Ok-false-clause-file g c =
    far_finished (g.S.Source.left c.args.reader.now.source) (g.S.Source.faults c.args.reader.now.source) (state_of g.S.Source.left g.S.Source.faults c.loop-error.reader) (state_of g.S.Source.left g.S.Source.faults c.next_line.new.reader) c.loop-error.intake c.loop-error.number
    (line_of c.next_line.new.reader) c.finish.result c.loop-error.invariant.far
    (subst (λ b. FindsLine (state_of g.S.Source.left g.S.Source.faults c.loop-error.reader) (state_of g.S.Source.left g.S.Source.faults c.next_line.new.reader) c.loop-error.number (line_of c.next_line.new.reader) (Ok b)) c.in-Ok-false.field-0-test c.in-Ok-false.ensures.finds)
    c.finish.ensures.file

pub returns-in-Ok-false-clause-error : goal.returns-in-Ok-false-clause-error
returns-in-Ok-false-clause-error g c =
    far_unfinished (g.S.Source.left c.args.reader.now.source) (g.S.Source.faults c.args.reader.now.source) (state_of g.S.Source.left g.S.Source.faults c.loop-error.reader) (state_of g.S.Source.left g.S.Source.faults c.next_line.new.reader) c.loop-error.intake c.loop-error.number
    (line_of c.next_line.new.reader) c.finish.result c.loop-error.invariant.far
    (subst (λ b. FindsLine (state_of g.S.Source.left g.S.Source.faults c.loop-error.reader) (state_of g.S.Source.left g.S.Source.faults c.next_line.new.reader) c.loop-error.number (line_of c.next_line.new.reader) (Ok b)) c.in-Ok-false.field-0-test c.in-Ok-false.ensures.finds)
    c.finish.ensures.error

pub returns-in-Err-take_line-clause-error : goal.returns-in-Err-take_line-clause-error
returns-in-Err-take_line-clause-error g c =
    let takes = (subst (λ t. TakesNext (state_of g.S.Source.left g.S.Source.faults c.loop-error.reader) (state_of g.S.Source.left g.S.Source.faults c.next_line.new.reader) c.loop-error.number t) (sym c.line.ensures) (subst (λ b. FindsLine (state_of g.S.Source.left g.S.Source.faults c.loop-error.reader) (state_of g.S.Source.left g.S.Source.faults c.next_line.new.reader) c.loop-error.number (line_of c.next_line.new.reader) (Ok b)) c.in-Ok-true.field-0-test c.in-Ok-true.ensures.finds)) in
    subst (λ e. ReadsNot (source_of (state_of g.S.Source.left g.S.Source.faults c.args.reader.now) (state_of g.S.Source.left g.S.Source.faults c.next_line.new.reader)) e) (sym c.not_taken.ensures)
    (far_not_taken (g.S.Source.left c.args.reader.now.source) (g.S.Source.faults c.args.reader.now.source) (state_of g.S.Source.left g.S.Source.faults c.loop-error.reader) (state_of g.S.Source.left g.S.Source.faults c.next_line.new.reader) c.loop-error.intake c.take_line.new.self c.loop-error.number
    c.line.result.now c.in-Err-take_line.error c.loop-error.invariant.far takes c.next_line.ensures.ahead c.in-Err-take_line.ensures)

pub loop-error-preserved : goal.loop-error-preserved
loop-error-preserved g c =
    let below = c.in-Ok-true.ensures.few (ap (λ b. Ok b) c.in-Ok-true.field-0-test) in
    let takes = (subst (λ t. TakesNext (state_of g.S.Source.left g.S.Source.faults c.loop-error.reader) (state_of g.S.Source.left g.S.Source.faults c.next_line.new.reader) c.loop-error.number t) (sym c.line.ensures) (subst (λ b. FindsLine (state_of g.S.Source.left g.S.Source.faults c.loop-error.reader) (state_of g.S.Source.left g.S.Source.faults c.next_line.new.reader) c.loop-error.number (line_of c.next_line.new.reader) (Ok b)) c.in-Ok-true.field-0-test c.in-Ok-true.ensures.finds)) in
    record {
      fine = takes.fine;
      same = c.next_line.ensures.same ∙ c.loop-error.invariant.same;
      most = omega (arith, below);
      far = far_next (g.S.Source.left c.args.reader.now.source) (g.S.Source.faults c.args.reader.now.source) (state_of g.S.Source.left g.S.Source.faults c.loop-error.reader) (state_of g.S.Source.left g.S.Source.faults c.next_line.new.reader) c.loop-error.intake c.take_line.new.self c.loop-error.number
          c.line.result.now c.loop-error.invariant.far takes (c.in-Ok-take_line.ensures c.loop-error.invariant.far.lines c.loop-error.invariant.far.stands);
    }
