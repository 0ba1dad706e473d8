use Rattle.std.proofs.Common.{refl}
use Rattle.std.specs.Fmt.{digits}
use Rattle.command_tables.specs.Table.{row_of}
use Rattle.trace_gen.proofs.rows.traces_of_zero.Goals as goal

pub returns : goal.returns
unfolding digits row_of
returns c = record { second = refl; third = refl; no_turn = refl; three_turns = refl }
