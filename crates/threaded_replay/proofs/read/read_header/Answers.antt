use Rattle.std.proofs.Common.{◌≡◌, ◌∙◌, false, ap, subst, sym, Ok}
use Rattle.std.specs.Str.{bytes_eq}
use Rattle.replay_base.specs.Reader.{line_of, state_of}
use Rattle.replay_core.specs.Given.{source_of}
use Rattle.stream_model.specs.declared.limits.TheConstants.{HEADER}
use Rattle.threaded_replay.specs.Reading.{FindsLine, ReadsNot}
use Rattle.threaded_replay.proofs.Header.{header_halts, header_missing, header_refused}
use Rattle.threaded_replay.proofs.read.read_header.Goals as goal

pub returns-in-Err-clause-header : goal.returns-in-Err-clause-header
returns-in-Err-clause-header g c =
    header_halts (state_of g.S.Source.left g.S.Source.faults c.args.reader.now) (state_of g.S.Source.left g.S.Source.faults c.next_line.new.reader) (line_of c.next_line.new.reader) c.in-Err.error
    c.requires.unread c.requires.none c.next_line.ensures.ahead c.in-Err.ensures.finds

pub returns-else-eq-clause-header : goal.returns-else-eq-clause-header
returns-else-eq-clause-header g c =
    let wrong : bytes_eq (line_of c.next_line.new.reader) HEADER ≡ false =
    ap (λ l. bytes_eq l HEADER) (sym c.line.ensures) ∙ (ap (bytes_eq c.line.result.now) (sym c.as_slice.ensures) ∙ sym c.if-eq.ensures) in
    subst (λ e. ReadsNot (source_of (state_of g.S.Source.left g.S.Source.faults c.args.reader.now) (state_of g.S.Source.left g.S.Source.faults c.next_line.new.reader)) e) (sym c.no_header.ensures)
    (header_refused (state_of g.S.Source.left g.S.Source.faults c.args.reader.now) (state_of g.S.Source.left g.S.Source.faults c.next_line.new.reader) (line_of c.next_line.new.reader)
    c.requires.unread c.requires.none c.next_line.ensures.ahead
    (subst (λ b. FindsLine (state_of g.S.Source.left g.S.Source.faults c.args.reader.now) (state_of g.S.Source.left g.S.Source.faults c.next_line.new.reader) 1 (line_of c.next_line.new.reader) (Ok b)) c.in-Ok-true.field-0-test c.in-Ok-true.ensures.finds)
    wrong)

pub returns-in-Ok-false-clause-header : goal.returns-in-Ok-false-clause-header
returns-in-Ok-false-clause-header g c =
    subst (λ e. ReadsNot (source_of (state_of g.S.Source.left g.S.Source.faults c.args.reader.now) (state_of g.S.Source.left g.S.Source.faults c.next_line.new.reader)) e) (sym c.no_header-in-Ok-false.ensures)
    (header_missing (state_of g.S.Source.left g.S.Source.faults c.args.reader.now) (state_of g.S.Source.left g.S.Source.faults c.next_line.new.reader) (line_of c.next_line.new.reader)
    c.requires.unread c.requires.none
    (subst (λ b. FindsLine (state_of g.S.Source.left g.S.Source.faults c.args.reader.now) (state_of g.S.Source.left g.S.Source.faults c.next_line.new.reader) 1 (line_of c.next_line.new.reader) (Ok b)) c.in-Ok-false.field-0-test c.in-Ok-false.ensures.finds))
