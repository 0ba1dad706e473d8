use Rattle.std.proofs.Common.{◌∙◌, ap}
use Rattle.session_tables.specs.Births.{BirthsState}
use Rattle.session_tables.proofs.BirthLemmas.{owners_by}
use Rattle.session_tables.proofs.birth_table.BirthTable.owners_of.Goals as goal

pub returns-in-None : goal.returns-in-None
returns-in-None c = owners_by c.self.inside.births.entries.items c.args.self.now.births c.args.object _ (ap (λ (s : BirthsState). s.births) c.self.view_is) c.in-None.ensures

pub returns-in-Some : goal.returns-in-Some
returns-in-Some c = c.as_slice.ensures ∙ owners_by c.self.inside.births.entries.items c.args.self.now.births c.args.object _ (ap (λ (s : BirthsState). s.births) c.self.view_is) c.in-Some.ensures
