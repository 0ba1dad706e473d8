use Rattle.session_tables.proofs.BirthLemmas.{births_apart}
use Rattle.session_tables.specs.Births.{AreApart, BirthsState}
use Rattle.std.proofs.Common.{ap, subst}
use Rattle.session_tables.proofs.birth_table.BirthTable.len.Goals as goal

pub returns-clause-apart : goal.returns-clause-apart
returns-clause-apart c = subst AreApart (ap (λ (s : BirthsState). s.births) c.self.view_is) (births_apart c.self.inside.births c.self.invariant)
