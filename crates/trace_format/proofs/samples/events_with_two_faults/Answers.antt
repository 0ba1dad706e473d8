use Rattle.std.proofs.Common.{refl}
use Rattle.command_tables.specs.Table.{row_of}
use Rattle.command_tables.specs.Tests.{same_code, same_command, same_type}
use Rattle.trace_format.proofs.samples.events_with_two_faults.Goals as goal

pub returns : goal.returns
unfolding row_of same_code same_command same_type
returns c = record { busy_and_unknown = refl; idle_and_instance = refl; unknown_and_type = refl; type_and_sequence = refl; sequence_and_instance = refl }
