-- By computation.
use Rattle.std.proofs.Common.{refl}
use Rattle.command_tables.specs.Table.{row_of}
use Rattle.command_tables.specs.Tests.{same_type, same_command}
use Rattle.object_model.proofs.samples.the_least_open_call_is_named.Goals as goal

pub returns : goal.returns
unfolding row_of same_type same_command
returns c = record { skipped = refl; own = refl; returned = refl }
