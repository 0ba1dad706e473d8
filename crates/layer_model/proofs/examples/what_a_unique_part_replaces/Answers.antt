-- By computation.
use Rattle.std.proofs.Common.{refl}
use Rattle.command_tables.specs.Table.{row_of}
use Rattle.command_tables.specs.Tests.{same_type, same_command, same_code}
use Rattle.layer_model.proofs.examples.what_a_unique_part_replaces.Goals as goal

pub returns : goal.returns
unfolding row_of same_type same_command same_code
returns c = record { known = refl; unknown = refl; surface = refl; queue = refl }
