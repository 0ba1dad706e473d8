-- By computation.
use Rattle.std.proofs.Common.{refl}
use Rattle.command_tables.specs.Table.{row_of}
use Rattle.command_tables.specs.Tests.{same_type, same_command, same_code}
use Rattle.layer_model.proofs.examples.ids_are_given_in_order.Goals as goal

pub returns : goal.returns
unfolding row_of same_type same_command same_code
returns c = record { one_call = refl; next_type = refl }
