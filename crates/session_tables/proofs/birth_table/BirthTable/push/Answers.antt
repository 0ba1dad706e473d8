use Rattle.std.proofs.Common.{ap}
use Rattle.session_tables.specs.Births.{BirthsState}
use Rattle.session_tables.proofs.BirthLemmas.{unborn_entry}
use Rattle.session_tables.proofs.birth_table.BirthTable.push.Goals as goal

pub push-requires-clause-new : goal.push-requires-clause-new
push-requires-clause-new c = unborn_entry c.self.inside.births.entries.items c.args.self.now.births c.args.object (ap (λ (s : BirthsState). s.births) c.self.view_is) c.requires
