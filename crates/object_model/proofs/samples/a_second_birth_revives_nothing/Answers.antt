-- By computation.
use Rattle.std.proofs.Common.{refl}
use Rattle.command_tables.specs.Table.{row_of}
use Rattle.command_tables.specs.Tests.{same_type, same_command}
use Rattle.object_model.proofs.samples.a_second_birth_revives_nothing.Goals as goal

pub returns : goal.returns
unfolding row_of same_type same_command
returns c = refl
