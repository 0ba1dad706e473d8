-- By computation.
use Rattle.std.proofs.Common.{refl}
use Rattle.command_tables.specs.Table.{row_of}
use Rattle.command_tables.specs.Tests.{same_type, same_command, same_code}
use Rattle.layer_model.proofs.examples.what_the_terminator_tells.Goals as goal

pub returns : goal.returns
unfolding row_of same_type same_command same_code
returns c = record { own = refl; asked = refl }
