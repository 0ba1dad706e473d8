use Rattle.trace_format.proofs.Lines.{printed_event, printed_line, printed_rest}
use Rattle.trace_format.proofs.laws.a_printed_line_is_read_again.Goals as goal

pub returns : goal.returns
returns c = record { line = printed_line; rest = printed_rest; event = printed_event }
