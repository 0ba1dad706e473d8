-- By computation.
use Rattle.std.proofs.Common.{refl}
use Rattle.std.specs.Fmt.{digits}
use Rattle.command_tables.specs.Table.{row_of}
use Rattle.command_tables.specs.Tests.{same_type, same_command, same_code}
use Rattle.trace_format.specs.Words.{number_up_to, name_of, one_of, list_of, arg_of, code_of, command_of}
use Rattle.trace_format.specs.Reading.{ending_at, tail_at, begin_at, return_at, read_line}
use Rattle.stream_model.specs.FileLines.{heading_of}
use Rattle.merge_model.proofs.rows.two_threads_merged.Goals as goal

pub returns : goal.returns
unfolding digits row_of same_type same_command same_code number_up_to name_of one_of list_of arg_of code_of command_of ending_at tail_at begin_at return_at read_line heading_of
returns c = record {
  read = refl;
  merge = record { each = (refl, (refl, tt)); others = (refl, (refl, (refl, (refl, (refl, (refl, (refl, (refl, (refl, (refl, tt)))))))))) };
  by_turns = refl;
  first_device = refl;
  other_device = refl;
  no_device = refl;
}
