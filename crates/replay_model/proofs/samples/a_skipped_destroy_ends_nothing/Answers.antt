-- By computation.
use Rattle.std.proofs.Common.{refl}
use Rattle.command_tables.specs.Table.{row_of}
use Rattle.command_tables.specs.Tests.{same_type, same_command, same_code}
use Rattle.replay_model.proofs.samples.a_skipped_destroy_ends_nothing.Goals as goal

pub returns : goal.returns
unfolding row_of same_type same_command same_code
returns c = record { sent = λ e. refl; skipped = λ e. refl }
