use Rattle.std.proofs.Common.{refl}
use Rattle.std.specs.Fmt.{digits}
use Rattle.command_tables.specs.Table.{row_of}
use Rattle.trace_format.specs.Words.{arg_of, code_of, command_of, list_of, name_of, number_up_to, one_of}
use Rattle.trace_format.specs.Reading.{begin_at, ending_at, read_line, return_at, tail_at}
use Rattle.trace_format.proofs.Lines.{spelled_read}
use Rattle.trace_format.proofs.samples.spelled_lines.Goals as goal

pub returns : goal.returns
unfolding row_of digits read_line begin_at tail_at ending_at return_at name_of one_of list_of arg_of code_of command_of number_up_to
returns c = record {
  instance = spelled_read _ _ refl;
  no_devices = spelled_read _ _ refl;
  device = spelled_read _ _ refl;
  queue = spelled_read _ _ refl;
  buffers = spelled_read _ _ refl;
  submit = spelled_read _ _ refl;
  draw = spelled_read _ _ refl;
  returned = spelled_read _ _ refl;
}
