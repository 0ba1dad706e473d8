-- By computation.
use Rattle.std.proofs.Common.{refl}
use Rattle.std.specs.Fmt.{digits}
use Rattle.command_tables.specs.Table.{row_of}
use Rattle.command_tables.specs.Tests.{same_type, same_command, same_code}
use Rattle.session_model.proofs.samples.an_instance_is_destroyed_while_it_is_used.Goals as goal

pub returns : goal.returns
unfolding digits row_of same_type same_command same_code
returns c = record { session = refl; trace = refl; told = refl; named = refl }
