use Rattle.std.proofs.Common.{◌∙◌, ap}
use Rattle.session_tables.specs.Births.{BirthsState}
use Rattle.session_tables.proofs.BirthLemmas.{born_by, some_copied}
use Rattle.session_tables.proofs.birth_table.BirthTable.is_born.Goals as goal

pub returns : goal.returns
returns c = c.is_some.ensures ∙ (some_copied c.get.result ∙ born_by c.self.inside.births.entries.items c.args.self.now.births c.args.object _ (ap (λ (s : BirthsState). s.births) c.self.view_is) c.get.ensures)
