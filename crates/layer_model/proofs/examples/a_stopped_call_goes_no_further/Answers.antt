-- By computation.
use Rattle.std.proofs.Common.{refl}
use Rattle.command_tables.specs.Table.{row_of}
use Rattle.command_tables.specs.Tests.{same_type, same_command, same_code}
use Rattle.layer_model.proofs.examples.a_stopped_call_goes_no_further.Goals as goal

pub returns : goal.returns
unfolding row_of same_type same_command same_code
returns c = record { reports = refl; stop = refl; forms = refl; states = refl }
