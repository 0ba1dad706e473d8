-- By computation.
use Rattle.std.proofs.Common.{refl}
use Rattle.command_tables.specs.Table.{row_of}
use Rattle.command_tables.specs.Tests.{same_type, same_command, same_code}
use Rattle.object_model.proofs.samples.the_values_of_a_result.Goals as goal

pub returns : goal.returns
unfolding row_of same_type same_command same_code
returns c = record { physical_device = refl; other = refl }
