-- By computation.
use Rattle.std.proofs.Common.{refl}
use Rattle.command_tables.specs.Table.{row_of}
use Rattle.command_tables.specs.Tests.{same_type, same_command, same_code}
use Rattle.layer_model.proofs.examples.a_retrieved_object_keeps_its_id.Goals as goal

pub returns : goal.returns
unfolding row_of same_type same_command same_code
returns c = record { again = refl; value = refl; other_owner = refl }
