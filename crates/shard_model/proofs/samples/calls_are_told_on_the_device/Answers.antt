-- By computation.
use Rattle.std.specs.Fmt.{digits}
use Rattle.command_tables.specs.Table.{row_of}
use Rattle.command_tables.specs.Tests.{same_type, same_command, same_code}
use Rattle.std.proofs.Common.{refl}
use Rattle.shard_model.proofs.samples.calls_are_told_on_the_device.Goals as goal

pub returns : goal.returns
unfolding digits row_of same_type same_command same_code
returns c = record { first = refl; second = λ n. refl }
