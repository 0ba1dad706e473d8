use Rattle.std.proofs.Common.{refl}
use Rattle.command_tables.specs.Table.{row_of}
use Rattle.command_tables.specs.Tests.{same_code, same_command, same_type}
use Rattle.trace_format.proofs.samples.events_after_events.Goals as goal

pub returns : goal.returns
unfolding row_of same_code same_command same_type
returns c = record {
  header = refl;
  other_header = refl;
  no_header = refl;
  first = refl;
  second = refl;
  other_thread = refl;
  before_return = refl;
  busy = refl;
  busy_and_breaks = refl;
  idle = refl;
  idle_again = refl;
  unknown = refl;
  wrong_type = refl;
  unknown_later = refl;
  own_result = refl;
  own_result_later = refl;
  name_twice = refl;
  sequence = refl;
  other_sequence = refl;
  second_instance = refl;
  failed_instance = refl;
  breaks_in = refl;
  breaks_in_by_return = refl;
  open_at_end = refl;
  ended = refl;
  begin_number = refl;
  return_number = refl;
}
