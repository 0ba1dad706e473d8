-- By computation: how many events the second thread has, whether the first one's second event is a return, and whether the last event has a stream.
use Rattle.std.proofs.Common.{Bool, true, false, true≢false, List, length, sym, ap, arith}
use Rattle.std.specs.Prelude.{slice_get}
use Rattle.std.specs.Option.{option_map_or}
use Rattle.std.specs.Fmt.{digits}
use Rattle.command_tables.specs.Table.{row_of}
use Rattle.command_tables.specs.Tests.{same_type, same_command, same_code}
use Rattle.trace_format.specs.Words.{number_up_to, name_of, one_of, list_of, arg_of, code_of, command_of}
use Rattle.trace_format.specs.Reading.{ending_at, tail_at, begin_at, return_at, read_line}
use Rattle.stream_model.specs.FileLines.{heading_of}
use Rattle.trace_format.specs.Content.{TraceEvent, Begin, Return}
use Rattle.merge_model.proofs.rows.lists_that_are_no_merge.Goals as goal

abbrev is_return : TraceEvent → Bool
is_return (Begin b) = false
is_return (Return thread) = true

abbrev returns_second : List TraceEvent → Bool
returns_second es = option_map_or is_return (slice_get es 1) false

pub returns : goal.returns
unfolding digits row_of same_type same_command same_code number_up_to name_of one_of list_of arg_of code_of command_of ending_at tail_at begin_at return_at read_line heading_of
returns c = record {
  dropped = λ m. let count = ap length m.each.1.0 in omega arith;
  swapped = λ m. true≢false (sym (ap returns_second m.each.0));
  of_another = λ m. true≢false (sym m.others.1.1.1.1.1.1.1.1.1.1.0);
}
