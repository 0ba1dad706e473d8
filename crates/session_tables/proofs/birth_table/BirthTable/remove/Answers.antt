use Rattle.std.proofs.Common.{ap}
use Rattle.session_tables.specs.Births.{BirthsState}
use Rattle.session_tables.proofs.BirthLemmas.{left_one}
use Rattle.session_tables.proofs.birth_table.BirthTable.remove.Goals as goal

pub returns-clause-left : goal.returns-clause-left
returns-clause-left c = left_one c.self.inside.births c.remove.new.self c.args.self.now.births c.args.object c.self.invariant c.remove.ensures.placed (ap (λ (s : BirthsState). s.births) c.self.view_is) c.remove.ensures.left
