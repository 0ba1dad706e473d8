-- By computation.
use Rattle.std.proofs.Common.{refl}
use Rattle.std.specs.Fmt.{digits}
use Rattle.command_tables.specs.Table.{row_of}
use Rattle.command_tables.specs.Tests.{same_type, same_command, same_code}
use Rattle.trace_format.specs.Words.{number_up_to, name_of, one_of, list_of, arg_of, code_of, command_of}
use Rattle.trace_format.specs.Reading.{ending_at, tail_at, begin_at, return_at, read_line}
use Rattle.stream_model.specs.FileLines.{heading_of}
use Rattle.stream_model.proofs.samples.calls_that_are_kept_out.Goals as goal

pub returns : goal.returns
unfolding digits row_of same_type same_command same_code number_up_to name_of one_of list_of arg_of code_of command_of ending_at tail_at begin_at return_at read_line heading_of
returns c = record { destroys_device = refl; swapchain = refl; of_another_stream = refl; in_a_list = refl; of_its_own = refl; in_teardown = refl; before_another_device = refl; fault_first = refl }
