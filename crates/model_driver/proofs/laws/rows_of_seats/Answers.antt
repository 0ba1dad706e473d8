use Rattle.std.proofs.Common.{refl}
use Rattle.command_tables.specs.Table.{row_of}
use Rattle.command_tables.specs.Tests.{same_code}
use Rattle.model_driver.proofs.laws.rows_of_seats.Goals as goal

pub returns-clause-answers : goal.returns-clause-answers
unfolding row_of same_code
returns-clause-answers c = (refl, refl, refl)

pub returns-clause-room : goal.returns-clause-room
unfolding row_of same_code
returns-clause-room c = (refl, refl, refl)

pub returns-clause-lists : goal.returns-clause-lists
returns-clause-lists c = refl

pub returns-clause-calls : goal.returns-clause-calls
returns-clause-calls c = refl
