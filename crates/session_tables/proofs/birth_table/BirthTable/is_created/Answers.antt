use Rattle.std.proofs.Common.{ap}
use Rattle.session_tables.specs.Births.{BirthsState}
use Rattle.session_tables.proofs.BirthLemmas.{created_by}
use Rattle.session_tables.proofs.birth_table.BirthTable.is_created.Goals as goal

pub returns-in-None : goal.returns-in-None
returns-in-None c = created_by c.self.inside.births c.args.self.now.births c.args.object _ c.self.invariant (ap (λ (s : BirthsState). s.births) c.self.view_is) c.in-None.ensures

pub returns-in-Some : goal.returns-in-Some
returns-in-Some c = created_by c.self.inside.births c.args.self.now.births c.args.object _ c.self.invariant (ap (λ (s : BirthsState). s.births) c.self.view_is) c.in-Some.ensures
