use Rattle.std.proofs.Common.{refl}
use Rattle.std.specs.Fmt.{digits}
use Rattle.command_tables.specs.Table.{row_of}
use Rattle.trace_format.specs.Words.{arg_of, code_of, command_of, list_of, name_of, number_up_to, one_of}
use Rattle.trace_format.specs.Reading.{begin_at, ending_at, read_line, return_at, tail_at}
use Rattle.trace_format.proofs.samples.lines_with_one_fault.Goals as goal

pub returns : goal.returns
unfolding row_of digits read_line begin_at tail_at ending_at return_at name_of one_of list_of arg_of code_of command_of number_up_to
returns c = record {
  not_ascii = refl;
  letter = refl;
  empty = refl;
  thread = refl;
  thread_above = refl;
  goes_on = refl;
  stops = refl;
  command = refl;
  two_spaces = refl;
  parameter = refl;
  wide = refl;
  argument = refl;
  first_null = refl;
  results = refl;
  no_results = refl;
  one_too_many = refl;
  unasked = refl;
  code = refl;
  void = refl;
  thread_of_name = refl;
  number_of_name = refl;
  null_byte = refl;
  carriage_return = refl;
  no_payload = refl;
}
