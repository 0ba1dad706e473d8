-- By computation: the tie's test, how many entries the first log has, and the first time against the second.
use Rattle.std.proofs.Common.{true≢false, arith, length, sym, ap}
use Rattle.std.specs.Fmt.{digits}
use Rattle.command_tables.specs.Table.{row_of}
use Rattle.command_tables.specs.Tests.{same_type, same_command, same_code}
use Rattle.trace_format.specs.Words.{number_up_to, name_of, one_of, list_of, arg_of, code_of, command_of}
use Rattle.trace_format.specs.Reading.{ending_at, tail_at, begin_at, return_at, read_line}
use Rattle.stream_model.specs.FileLines.{heading_of}
use Rattle.merge_facts.proofs.rows.entries_in_no_order.Goals as goal

pub returns : goal.returns
unfolding digits row_of same_type same_command same_code number_up_to name_of one_of list_of arg_of code_of command_of ending_at tail_at begin_at return_at read_line heading_of
returns c = record {
  turned = λ m. true≢false (sym m.ordered.1.1.1.1.1.1.1.0);
  dropped = λ m. let count = ap length (m.each 0) in omega (arith, count);
  calls = λ by. let fall = by.rise.2.2.0 in omega (arith, fall);
}
